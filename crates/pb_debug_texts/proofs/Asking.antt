-- How much an arm asks for.
use Rattle.std.proofs.Common.{◌≡◌, ℕ, Option, Some, None, refl}
use Rattle.std.specs.Prelude.{slice_get}
use Rattle.pb_base.specs.Steppers.{Bundle}
use Rattle.pb_code.specs.Code.{Instr, Push, Load, Store, Compute1, Compute2, Jump, JumpIfZero, PrintTop, Take, Give}
use Rattle.pb_code.specs.Code.{Fork, Join, End, ProcessCode, Idle, Live, Ended, Thread}
use Rattle.pb_debug_texts.specs.Resources.{amount_asked, amount_wanted}
use Rattle.pb_machine.specs.Turns.{IsAtTake}

none_wanted : (o : Option Instr) (r : ℕ) → ((bundle : Bundle) → o ≡ Some (Take bundle) → ⊥) → 0 ≡ amount_wanted o r
none_wanted None r not = refl
none_wanted (Some (Take bundle)) r not = absurd (not bundle refl)
none_wanted (Some (Push v)) r not = refl
none_wanted (Some (Load x)) r not = refl
none_wanted (Some (Store x)) r not = refl
none_wanted (Some (Compute1 op)) r not = refl
none_wanted (Some (Compute2 op)) r not = refl
none_wanted (Some (Jump target)) r not = refl
none_wanted (Some (JumpIfZero target)) r not = refl
none_wanted (Some PrintTop) r not = refl
none_wanted (Some (Give bundle)) r not = refl
none_wanted (Some (Fork first count)) r not = refl
none_wanted (Some (Join first count)) r not = refl
none_wanted (Some End) r not = refl

-- anywhere else, nothing
pub none_asked : (code : ProcessCode) (t : Thread) (r : ℕ) → ((bundle : Bundle) → IsAtTake code t bundle → ⊥)
    → 0 ≡ amount_asked code t r
none_asked code Idle r not = refl
none_asked code (Live place stack) r not =
    none_wanted (slice_get code.instrs place) r
    (λ bundle there. not bundle (record { place = place; stack = stack; live = refl; there = there }))
none_asked code Ended r not = refl
