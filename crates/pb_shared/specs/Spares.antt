-- What is lent of processes.
use Rattle.std.specs.Prelude.{◌≡◌, ℕ, List, length, Option, Some, Box, slice_get}
use Rattle.std.specs.declared.alloc.Global.{Global}
use Rattle.pb_machine.specs.Views.{proc_view, IsProcessOf}
use Rattle.pb_verifier.specs.Verified.{VerifiedCode}
use Rattle.pb_shared.specs.Lending.{Lent}
use Rattle.pb_shared.specs.declared.slip.Slip.{Slip}
use Rattle.pb_shared.specs.declared.spare.Spare.{Spare}

-- its arm, numbers of picks and states
abbrev pub lent_as : Spare → Lent
lent_as spare = record {
  pick = spare.pick;
  allowance = spare.allowance;
  made = spare.made;
  base = proc_view spare.base;
  state = proc_view spare.state;
}

-- both are processes of process p, with room for its operands
pub record IsSpareOf (code : VerifiedCode) (p : ℕ) (spare : Spare) : Type 0 where
  pub base : IsProcessOf code p spare.base
  pub state : IsProcessOf code p spare.state

-- there is a place for the spare of each process, and each that is there is one of its process
pub record AreSpares (code : VerifiedCode) (slips : List (Option Slip)) (spares : List (Option (Box Spare Global))) : Type 0 where
  pub all : length spares ≡ length slips
  pub each : (p : ℕ) (spare : Box Spare Global) → slice_get spares p ≡ Some (Some spare) → IsSpareOf code p spare.value
