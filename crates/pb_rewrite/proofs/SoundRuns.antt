-- What a sound run needs of the banker.
use Rattle.std.proofs.Common.{◌≡◌, inl, inr, ℕ, zero, suc, ◌≤◌, ◌<◌, ℤ, List, ◌∷◌, [], length, get_or, Some, subst}
use Rattle.std.proofs.Common.{refl, sym, arith}
use Rattle.std.proofs.lemmas.List.Elements.{All-head, All-tail}
use Rattle.std.proofs.lemmas.Bool.Decides.{eqb_tells}
use Rattle.pb_base.specs.Banker.{BankerState, resources, row_of, loan}
use Rattle.pb_base.specs.Bundle.{amount_in}
use Rattle.pb_base.specs.Steppers.{Bundle, Takes, Returns}
use Rattle.pb_base.specs.declared.pair.Pair.{Pair}
use Rattle.pb_base.specs.declared.pick.Pick.{Pick}
use Rattle.pb_base.proofs.LoanRows.{amount_of_pair, amount_in-cons}
use Rattle.pb_names.specs.Source.{Arm, Goes, step_arm, find}
use Rattle.pb_rewrite.specs.Sound.{IsSingle, IsSoundRun}
use Rattle.pb_rewrite.specs.Steps.{AreBelow, PickAsksBelow, IsRunStep, IsHeld}
use Rattle.pb_rewrite.specs.declared.stepping.Outcome.{Outcome}
use Rattle.pb_rewrite.specs.declared.stepping.Outcome.TheVariants as outcome
use Rattle.pb_rewrite.proofs.ArmHoldings.{goes_lends, held_put}
use Rattle.pb_rewrite.proofs.ArmNumbers.{owned_single, found_owned}

-- each pair is at most what the bundle has of its resource
within_bundle : (n : ℕ) (pairs : Bundle) (bound : ℕ → ℕ) → AreBelow n pairs → ((r : ℕ) → r < n → amount_in pairs r ≤ bound r)
    → (k : ℕ) (d : Pair) → k < length pairs → (get_or pairs k d).amount ≤ bound (get_or pairs k d).resource
within_bundle n [] bound below h k d l = absurd (omega arith)
within_bundle n (pair ∷ pairs) bound below h zero d l =
    let first : pair.resource < n = All-head (λ p. p.resource < n) pair pairs below in
    let sum = amount_in-cons pair pairs pair.resource in
    let whole = h pair.resource first in
    elim (eqb_tells pair.resource pair.resource) [
      | inl e ↦ (let one : amount_of_pair pair.resource pair ≡ pair.amount = rw e.0 refl in omega arith)
      | inr e ↦ absurd (e.1 refl)
    ]
within_bundle n (pair ∷ pairs) bound below h (suc k) d l =
    within_bundle n pairs bound (All-tail (λ p. p.resource < n) pair pairs below)
    (λ r less. let sum = amount_in-cons pair pairs r in let whole = h r less in omega arith) k d (omega arith)

module _ (s : BankerState) (pick : Pick) (vars : List ℤ) (run : Arm) (sound : IsSoundRun (resources s) (row_of s.loans pick.process) (Some run)) where
  pub sound_single : IsSingle pick.arm run
  sound_single = owned_single (resources s) 1 sound.0.0 pick.arm run sound.0.1

  pub sound_asks : PickAsksBelow (resources s) pick vars run
  sound_asks arm there vars' arm' bundle is =
      let owned = found_owned (resources s) 0 1 sound.0.0 pick.arm run arm sound.0.1 there in
      (goes_lends (resources s) 0 owned.0 owned.1 vars vars' arm arm' (Takes bundle) owned.2 is).0

  -- what an arm is to give back is lent to its process
  gives_back : (arm arm' : Arm) (vars' : List ℤ) (bundle : Bundle) → find pick.arm 0 run ≡ Some arm
      → step_arm vars arm ≡ Some (Goes vars' arm' (Returns bundle))
      → AreBelow (resources s) bundle × ((r : ℕ) → r < resources s → amount_in bundle r ≤ loan s pick.process r)
  gives_back arm arm' vars' bundle there is =
      let owned = found_owned (resources s) 0 1 sound.0.0 pick.arm run arm sound.0.1 there in (
        (goes_lends (resources s) 0 owned.0 owned.1 vars vars' arm arm' (Returns bundle) owned.2 is).0,
        λ r l.
            let lends = (goes_lends (resources s) r owned.0 owned.1 vars vars' arm arm' (Returns bundle) owned.2 is).1 in
            let whole = held_put r pick.arm 0 arm arm' run sound_single there in
            let lent = sound.1 r l in
            omega arith,
      )

  pub run_held : (made : Outcome) (vars' : List ℤ) (run' : Arm) (s' : BankerState) → IsRunStep s pick vars run made vars' run' s'
      → IsHeld s' pick.process made
  run_held outcome.Silent vars' run' s' h = tt
  run_held (outcome.Prints v) vars' run' s' h = tt
  run_held (outcome.Takes bundle) vars' run' s' h = tt
  run_held (outcome.Returns bundle) vars' run' s' (inl h) =
      let backs = gives_back h.0 h.1 vars' bundle h.2 h.3.0 in
      subst (λ t. IsHeld t pick.process (outcome.Returns bundle)) (sym h.3.1)
      (backs.0, within_bundle (resources s) bundle (loan s pick.process) backs.0 backs.1)
  run_held (outcome.Returns bundle) vars' run' s' (inr h) = absurd (returns_waits bundle h.1)
    where
      returns_waits : (bundle : Bundle) → outcome.Returns bundle ≡ outcome.Waits → ⊥
      returns_waits bundle h = cc
  run_held (outcome.Faults kind) vars' run' s' h = tt
  run_held outcome.Ends vars' run' s' h = tt
  run_held outcome.Waits vars' run' s' h = tt
