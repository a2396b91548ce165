-- What an arm is doing, by what is seen of it.
use Rattle.std.proofs.Common.{◌≡◌, ℕ, ◌≤◌, List, Some, None, length, refl, sym, ap, ◌∙◌, subst, arith}
use Rattle.std.specs.Prelude.{slice_get, true, false}
use Rattle.std.specs.Option.{is_some}
use Rattle.std.proofs.lemmas.List.{get_or_past}
use Rattle.std.proofs.lemmas.Option.{slice_get_within}
use Rattle.pb_base.specs.Banker.{IsLargestStuck, with_loan}
use Rattle.pb_base.specs.Steppers.{Bundle, State}
use Rattle.pb_base.specs.declared.lending.Lending.{Lending}
use Rattle.pb_base.specs.declared.pick.Pick.{Pick}
use Rattle.pb_circles.proofs.Requests.{asks_once}
use Rattle.pb_circles.specs.Links.{bank_at}
use Rattle.pb_code.specs.Code.{CodeProcess, Idle, Live, Ended, Thread, thread}
use Rattle.pb_code.specs.Whole.{Code}
use Rattle.pb_machine.specs.Looks.{IsLiveArm}
use Rattle.pb_machine.specs.Views.{place_of_thread}
use Rattle.pb_draw.specs.Lanes.{AreAlike, AsksFor, IsAsking, IsStanding}
use Rattle.pb_draw.specs.declared.drawing.Standing.{Standing}
use Rattle.pb_draw.specs.declared.drawing.Standing.TheVariants.{Away, Going, KeptBack, Short}

-- no arm of a process that is not there is live
pub no_process : (s : State CodeProcess) (arm : Pick) → length s.processes ≤ arm.process → IsLiveArm s arm → ⊥
no_process s arm past live =
    let within = slice_get_within s.processes arm.process live.process live.there in omega (arith, within, past)

module _ (s : State CodeProcess) (arm : Pick) (process : CodeProcess) (there : slice_get s.processes arm.process ≡ Some process) where
  lives : IsLiveArm s arm → (place : ℕ) × (place_of_thread (thread process.threads arm.arm) ≡ Some place)
  lives live =
      let both : Some live.process ≡ Some process = sym live.there ∙ there in
      let same : live.process ≡ process = cc in
      (live.live.0, ap (λ (q : CodeProcess). place_of_thread (thread q.threads arm.arm)) (sym same) ∙ ap place_of_thread live.live.2)

  -- nor is an arm that is not there
  pub no_arm : length process.threads ≤ arm.arm → IsLiveArm s arm → ⊥
  no_arm past live =
      let (place, is) = lives live in
      let idle : thread process.threads arm.arm ≡ Idle = get_or_past process.threads arm.arm Idle past in
      let none : Some place ≡ None = sym is ∙ ap place_of_thread idle in
      absurd (cc none)

  -- or one that has no place
  pub no_place : place_of_thread (thread process.threads arm.arm) ≡ None → IsLiveArm s arm → ⊥
  no_place none live = let (place, is) = lives live in let same : Some place ≡ None = sym is ∙ none in absurd (cc same)

  -- one that has a place is live
  pub has_place : is_some (place_of_thread (thread process.threads arm.arm)) ≡ true → IsLiveArm s arm
  has_place = go (thread process.threads arm.arm) refl
    where
      go : (t : Thread) → thread process.threads arm.arm ≡ t → is_some (place_of_thread t) ≡ true → IsLiveArm s arm
      go Idle at some = let w : false ≡ true = some in absurd (cc w)
      go (Live place stack) at some = record { process = process; there = there; live = (place, stack, at) }
      go Ended at some = let w : false ≡ true = some in absurd (cc w)

-- one that asks for something is live
pub asks_live : (code : Code) (s : State CodeProcess) (arm : Pick) (bundle : Bundle) → AsksFor code s arm bundle → IsLiveArm s arm
asks_live code s arm bundle asks =
    record { process = asks.process; there = asks.there; live = (asks.stands.place, asks.stands.stack, asks.stands.live) }

-- a pick, by its numbers
pub pick_is : (pick : Pick) (p a : ℕ) → p ≡ pick.process → a ≡ pick.arm → ◌≡◌ {A = Pick} (record { process = p; arm = a }) pick
pick_is pick p a is also =
    subst (λ (q : ℕ). ◌≡◌ {A = Pick} (record { process = q; arm = a }) pick) (sym is)
    (subst (λ (b : ℕ). ◌≡◌ {A = Pick} (record { process = pick.process; arm = b }) pick) (sym also) refl)

-- an arm that asks for a bundle is doing what its lender makes of it
pub asking_so : (lending : Lending) (code : Code) (s : State CodeProcess) (arm : Pick) (bundle : Bundle) (standing : Standing)
    → IsLiveArm s arm → AsksFor code s arm bundle → IsAsking lending (bank_at code s) arm.process bundle standing
    → IsStanding lending code s arm standing
asking_so lending code s arm bundle Away live asks is = absurd is
asking_so lending code s arm bundle Going live asks is = (
  live,
  λ other also. subst (λ (b : Bundle). IsAsking lending (bank_at code s) arm.process b Going) (asks_once code s arm bundle other asks also) is,
)
asking_so lending code s arm bundle Short live asks is = (bundle, asks, is)
asking_so lending code s arm bundle (KeptBack rest) live asks is = (bundle, asks, is.0, is.1, is.2)

-- a standing like one that an arm has is one that it has
pub alike_stands : (lending : Lending) (code : Code) (s : State CodeProcess) (arm : Pick) (a b : Standing) → AreAlike a b
    → IsStanding lending code s arm b → IsStanding lending code s arm a
alike_stands lending code s arm Away b same is = subst (λ (x : Standing). IsStanding lending code s arm x) same is
alike_stands lending code s arm Going b same is = subst (λ (x : Standing). IsStanding lending code s arm x) same is
alike_stands lending code s arm Short b same is = subst (λ (x : Standing). IsStanding lending code s arm x) same is
alike_stands lending code s arm (KeptBack rest) Away same is = absurd same
alike_stands lending code s arm (KeptBack rest) Going same is = absurd same
alike_stands lending code s arm (KeptBack rest) Short same is = absurd same
alike_stands lending code s arm (KeptBack rest) (KeptBack others) same is = (
  is.0,
  is.1,
  is.2,
  is.3,
  subst (λ (found : List ℕ). IsLargestStuck (with_loan (bank_at code s) arm.process is.0) found) (sym same) is.4,
)
