-- The plain instructions of a process as it is given. No public contract cites this file.
use Rattle.std.specs.Prelude.{◌≡◌, ◌↔◌, ℕ, List, map, slice_get, Some, Contains}
use Rattle.pb_base.specs.Steppers.{Bundle}
use Rattle.pb_code.specs.declared.code.ProcessCode.{ProcessCode as GivenProcess}
use Rattle.pb_code.specs.declared.instr.Instr.{Instr as Given}
use Rattle.pb_code.specs.Code.{Instr, Take}
use Rattle.pb_code.specs.View.{instr_view}
use Rattle.pb_verifier.specs.Flow.{IsGrown, IsReachedPlace, StaysInside}

-- an instruction of this process, with its bundle in place of the bundle's number
abbrev pub plain : GivenProcess → Given → Instr
plain code i = instr_view code.bundles.items i

-- the plain instructions of this process
abbrev pub instrs_of : GivenProcess → List Instr
instrs_of code = map (instr_view code.bundles.items) code.instrs.items

-- a take is at a place
abbrev pub IsTakeAt : List Instr → ℕ → Type 0
IsTakeAt instrs p = (bundle : Bundle) × (slice_get instrs p ≡ Some (Take bundle))

-- the reached places of a process, each after one that leads to it
pub record IsOrderOf (code : GivenProcess) (order : List ℕ) : Type 0 where
  pub inside : StaysInside code.entries.items (instrs_of code)
  pub reached : (p : ℕ) → Contains order p ↔ IsReachedPlace code.entries.items (instrs_of code) p
  pub grown : IsGrown code.entries.items (instrs_of code) order
