-- What is returned for a program: in a row for each process its claim on each resource, or the greatest u64
-- if the claim is larger.
use Rattle.std.specs.Prelude.{◌≡◌, ℕ, ◌<◌, ◌^◌, List, length, map, slice_get, Some}
use Rattle.std.specs.List.{range_with_len}
use Rattle.pb_base.specs.Banker.{cell, row_of}
use Rattle.pb_base.specs.Steppers.{Table}
use Rattle.pb_names.specs.Claims.{IsClaim, peak}
use Rattle.pb_tree.specs.Measure.{saturated}
use Rattle.pb_names.specs.Program.{Block, Process, Program}

-- the claim of a process on a resource, or the greatest u64 if the claim is larger
abbrev pub IsCappedClaim : Process → ℕ → ℕ → Type 0
IsCappedClaim process r amount = (claim : ℕ) × IsClaim process r claim × (amount ≡ saturated claim)

-- a row for each process, in it an amount for each resource, and each amount is a capped claim
pub record AreCappedClaims (program : Program) (claims : Table) : Type 0 where
  pub height : length claims ≡ length program.processes
  pub width : (p : ℕ) → p < length claims → length (row_of claims p) ≡ length program.resources
  pub each : (p r : ℕ) (process : Process) → slice_get program.processes p ≡ Some process
      → r < length program.resources → IsCappedClaim process r (cell claims p r)

-- each claim is a number of 64 bits
pub record HaveSmallClaims (program : Program) : Type 0 where
  pub small : (p r claim : ℕ) (process : Process) → slice_get program.processes p ≡ Some process
      → r < length program.resources → IsClaim process r claim → claim < 2 ^ 64

-- what the one pass finds for each of the first n resources
abbrev pub capped_peaks : ℕ → Block → List ℕ
capped_peaks n block = map (λ r. saturated (peak r block)) (range_with_len 0 n)
