-- What a program can do: the runs of its source under a lender, who knows the capital and every claim.
use Rattle.std.specs.Prelude.{◌≡◌, ℕ, ◌<◌, List, length, slice_get, Some}
use Rattle.pb_base.specs.Banker.{cell, row_of}
use Rattle.pb_base.specs.Steppers.{Bank, Table}
use Rattle.pb_base.specs.declared.event.Event.{Event}
use Rattle.pb_names.specs.Claims.{IsClaim}
use Rattle.pb_names.specs.Program.{Process, Program, capital_of}
use Rattle.pb_names.specs.Source.{SourceCanUnder}
use Rattle.pb_base.specs.declared.lending.Lending.{Lending}
use Rattle.pb_base.specs.declared.lending.Lending.TheVariants.{ByBanker}

-- a row for each process, in it an amount for each resource, and each amount is a claim
pub record AreClaims (program : Program) (claims : Table) : Type 0 where
  pub height : length claims ≡ length program.processes
  pub width : (p : ℕ) → p < length claims → length (row_of claims p) ≡ length program.resources
  pub each : (p r : ℕ) (process : Process) → slice_get program.processes p ≡ Some process
      → r < length program.resources → IsClaim process r (cell claims p r)

-- what a lender knows of the program with these claims beside the loans
abbrev pub source_bank_by : Lending → Program → Table → Bank
source_bank_by lending program claims = record { capital = capital_of program; claims = claims; lends = lending }

-- under its claims and this lending the program can make these events with at most n picks
abbrev pub SourceCanBy : Lending → Program → List Event → ℕ → Type 0
SourceCanBy lending program events n =
    (claims : Table) × AreClaims program claims
    × SourceCanUnder (source_bank_by lending program claims) program.processes events n

-- the same under the banker
abbrev pub SourceCan : Program → List Event → ℕ → Type 0
SourceCan program events n = SourceCanBy ByBanker program events n
