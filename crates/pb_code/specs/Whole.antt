-- The code of a whole program, with what the banker needs to know, and what it can make.
use Rattle.std.specs.Prelude.{ℕ, List, Option, map}
use Rattle.pb_base.specs.declared.event.Event.{Event}
use Rattle.pb_base.specs.Lines.{NameTable}
use Rattle.pb_base.specs.declared.lending.Lending.{Lending}
use Rattle.pb_base.specs.declared.lending.Lending.TheVariants.{ByBanker}
use Rattle.pb_base.specs.Steppers.{Bank, Table, State, opening}
use Rattle.pb_code.specs.Code.{ProcessCode, CodeProcess, code_process, CodeCanUnder}

-- names; the capital of each resource; for each process its claim on each resource; its instructions
pub record Code : Type 0 where
  pub names : NameTable
  pub capital : List ℕ
  pub claims : Table
  pub processes : List ProcessCode

-- what a lender knows of the code beside the loans
abbrev pub bank_by : Lending → Code → Bank
bank_by lending code = record { capital = code.capital; claims = code.claims; lends = lending }

-- the banker
abbrev pub bank_of : Code → Bank
bank_of code = bank_by ByBanker code

-- before any step
abbrev pub code_opening : Code → State CodeProcess
code_opening code = opening (bank_of code) (map code_process code.processes)

-- under this lending the code can make these events with at most n picks
abbrev pub CodeCanBy : Lending → Code → List Event → ℕ → Type 0
CodeCanBy lending code events n = CodeCanUnder (bank_by lending code) code.processes events n

-- the same under the banker
abbrev pub CodeCan : Code → List Event → ℕ → Type 0
CodeCan code events n = CodeCanBy ByBanker code events n

-- the source line of each place, if it has one, and the name of each integer
pub record ProcessLabels : Type 0 where
  pub lines : List (Option ℕ)
  pub integers : List (List ℕ)
