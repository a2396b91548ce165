-- The state of an arm over a run: away, going or waiting.
use Rattle.std.specs.Prelude.{◌≡◌, ℕ, List, length}
use Rattle.pb_base.specs.Banker.{BankerState, IsLargestStuck, IsWithinCash, with_loan}
use Rattle.pb_base.specs.Steppers.{Bundle, IsLent, State}
use Rattle.pb_base.specs.declared.lending.Lending.{Lending}
use Rattle.pb_base.specs.declared.pick.Pick.{Pick}
use Rattle.pb_circles.specs.Links.{bank_at}
use Rattle.pb_code.specs.Code.{CodeProcess, Take}
use Rattle.pb_code.specs.Whole.{Code}
use Rattle.pb_history.specs.Positions.{state_after}
use Rattle.pb_machine.specs.Looks.{IsLiveArm}
use Rattle.pb_machine.specs.Turns.{StandsIn}
use Rattle.pb_draw.specs.Curves.{IsCurveOf}
use Rattle.pb_draw.specs.declared.drawing.Lane.{Lane}
use Rattle.pb_draw.specs.declared.drawing.LaneStep.{LaneStep}
use Rattle.pb_draw.specs.declared.drawing.Standing.{Standing}
use Rattle.pb_draw.specs.declared.drawing.Standing.TheVariants.{Away, Going, KeptBack, Short}

-- the arm asks for a bundle
abbrev pub AsksFor : Code → State CodeProcess → Pick → Bundle → Type 0
AsksFor code s arm bundle = StandsIn code s arm (Take bundle)

-- what an arm is doing in a state under this lending: it is not live; it is, and if it asks for something that is
-- granted; it asks for more than the cash suffices for; or the cash suffices and it is not granted, since with that
-- lent none of these processes, and only these, could finish
abbrev pub IsStanding : Lending → Code → State CodeProcess → Pick → Standing → Type 0
IsStanding lending code s arm Away = IsLiveArm s arm → ⊥
IsStanding lending code s arm Going =
    IsLiveArm s arm × ((bundle : Bundle) → AsksFor code s arm bundle → IsLent lending (bank_at code s) arm.process bundle)
IsStanding lending code s arm Short =
    (bundle : Bundle) × AsksFor code s arm bundle × (IsWithinCash (bank_at code s) bundle → ⊥)
IsStanding lending code s arm (KeptBack rest) =
    (bundle : Bundle) × AsksFor code s arm bundle × IsWithinCash (bank_at code s) bundle
    × (IsLent lending (bank_at code s) arm.process bundle → ⊥)
    × IsLargestStuck (with_loan (bank_at code s) arm.process bundle) rest.items

-- what an arm is doing after the first i picks
abbrev pub IsStandingAfter : Lending → Code → List Pick → (arm : Pick) → (i : ℕ) → Standing → Type 0
IsStandingAfter lending code picks arm i = IsStanding lending code (state_after code picks i) arm

-- both say the same of an arm
abbrev pub AreAlike : Standing → Standing → Type 0
AreAlike Away b = b ≡ Away
AreAlike Going b = b ≡ Going
AreAlike Short b = b ≡ Short
AreAlike (KeptBack rest) Away = ⊥
AreAlike (KeptBack rest) Going = ⊥
AreAlike (KeptBack rest) Short = ⊥
AreAlike (KeptBack rest) (KeptBack others) = rest.items ≡ others.items

-- up to position n a lane shows such standings
abbrev pub ShowsStandings : (ℕ → Standing → Type 0) → (n : ℕ) → List LaneStep → Type 0
ShowsStandings Stands n steps = IsCurveOf (λ s. s.at) (λ s. s.standing) Away AreAlike Stands n steps

-- a lane shows the state of its arm after each first part of the picks
abbrev pub IsLane : Lending → Code → List Pick → Lane → Type 0
IsLane lending code picks lane =
    ShowsStandings (IsStandingAfter lending code picks lane.pick) (length picks) lane.steps.items

-- ---- what serves the proof

-- the state of an arm that asks for a bundle, by its lender
abbrev pub IsAsking : Lending → BankerState → (p : ℕ) → Bundle → Standing → Type 0
IsAsking lending s p bundle Away = ⊥
IsAsking lending s p bundle Going = IsLent lending s p bundle
IsAsking lending s p bundle Short = IsWithinCash s bundle → ⊥
IsAsking lending s p bundle (KeptBack rest) =
    IsWithinCash s bundle × (IsLent lending s p bundle → ⊥) × IsLargestStuck (with_loan s p bundle) rest.items
