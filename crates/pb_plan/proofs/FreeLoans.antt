-- Whoever lends, no loan is over its claim.
use Rattle.std.proofs.Common.{◌≡◌, ◌≢◌, ◌∙◌, ⊎_elim, ℕ, ◌≤◌, List, [], ◌∷◌, ◌++◌, length, map, Some, refl, sym, ap, subst, arith}
use Rattle.std.specs.Prelude.{option_to_list}
use Rattle.pb_base.proofs.Cases.{same_or_not}
use Rattle.pb_base.specs.Banker.{cell}
use Rattle.pb_base.specs.declared.event.Event.{Event}
use Rattle.pb_base.specs.declared.pick.Pick.{Pick}
use Rattle.pb_base.specs.Steppers.{Bank, Effect, Faults, Finishes, IsGranted, Makes, Move, Prints, Returns, Silent, State, Stepper}
use Rattle.pb_base.specs.Steppers.{Takes, event_of, loans_after, move_of, opening}
use Rattle.pb_codegen.proofs.ClaimsHeld.{HasClaims, Opened, asks_at_most, opened}
use Rattle.pb_names.specs.Program.{AllWellNumbered, Process}
use Rattle.pb_names.specs.Source.{SourceProcess, source_process, source_step}
use Rattle.pb_plan.proofs.OrderedLoans.{none_here}
use Rattle.pb_verifier.proofs.LoansWithinClaims.{zero_loans}
use Rattle.pb_verifier.proofs.States.{lent_there}
use Rattle.pb_codegen.proofs.ClaimsLoans.{lent_here}

-- one pick more
makes_more : {P : Type 0} (bank : Bank) (step : Stepper P) (a s : State P) (picks : List Pick) (events : List Event)
    (pick : Pick) (move : Move P) → Makes bank step a picks events s → move_of step s pick ≡ Some move
    → IsGranted bank s.loans pick.process move.effect
    → (more : List Event) × Makes bank step a (picks ++ pick ∷ []) more move.next
makes_more bank step a s [] events pick move m enabled granted =
    let now = subst (λ x. move_of step x pick ≡ Some move) m.1 enabled in
    let given = subst (λ x. IsGranted bank x.loans pick.process move.effect) m.1 granted in
    (option_to_list (event_of pick move.effect) ++ [], (move, now, given, [], refl, (refl, refl)))
makes_more bank step a s (first ∷ picks) events pick move m enabled granted =
    let rest = makes_more bank step m.0.next s picks m.3 pick move m.5 enabled granted in
    (option_to_list (event_of first m.0.effect) ++ rest.0, (m.0, m.1, m.2, rest.0, refl, rest.1))

module _ (bank : Bank) (program : List Process) (numbered : AllWellNumbered program) (claims : HasClaims bank program) where
  abbrev start : State SourceProcess
  start = opening bank (map source_process program)

  abbrev AreWithin : State SourceProcess → Type 0
  AreWithin s = (p r : ℕ) → cell s.loans p r ≤ cell bank.claims p r

  within_next : (picks : List Pick) (events : List Event) (s : State SourceProcess) → Makes bank source_step start picks events s
      → (pick : Pick) (move : Move SourceProcess) → move_of source_step s pick ≡ Some move → AreWithin s → AreWithin move.next
  within_next picks events s made pick move enabled within = next (opened s pick move enabled)
    where
      here : (o : Opened s pick move) (r : ℕ) (effect : Effect) → o.effect ≡ effect
          → cell (loans_after s.loans pick.process effect) pick.process r ≤ cell bank.claims pick.process r
      here o r Silent is = within pick.process r
      here o r (Prints v) is = within pick.process r
      here o r (Takes bundle) is =
          let asks =
          asks_at_most bank program numbered claims picks events s made pick move bundle enabled
          (sym (ap (λ (m : Move SourceProcess). m.effect) o.is) ∙ is) r in
          let lent = lent_here s.loans pick.process (Takes bundle) r (λ kind no. cc) in
          omega (arith, asks, lent)
      here o r (Returns bundle) is =
          let old = within pick.process r in
          let lent = lent_here s.loans pick.process (Returns bundle) r (λ kind no. cc) in
          omega (arith, old, lent)
      here o r (Faults kind) is = let none = none_here s.loans pick.process r kind in omega (arith, none)
      here o r Finishes is = within pick.process r

      each : (o : Opened s pick move) (p r : ℕ) → cell (loans_after s.loans pick.process o.effect) p r ≤ cell bank.claims p r
      each o p r = ⊎_elim
          (λ (same : p ≡ pick.process).
          subst (λ q. cell (loans_after s.loans pick.process o.effect) q r ≤ cell bank.claims q r) (sym same) (here o r o.effect refl))
          (λ (other : p ≢ pick.process).
          let old = within p r in
          let lent = lent_there s.loans pick.process p o.effect r other in
          omega (arith, old, lent))
          (same_or_not p pick.process)

      next : Opened s pick move → AreWithin move.next
      next o = subst (λ (m : Move SourceProcess). AreWithin m.next) o.is (each o)

  within_run : (done : List Pick) (before : List Event) (s : State SourceProcess) → Makes bank source_step start done before s
      → AreWithin s → (picks : List Pick) (events : List Event) (end : State SourceProcess)
      → Makes bank source_step s picks events end → AreWithin end
  within_run done before s made within [] events end m = subst AreWithin (sym m.1) within
  within_run done before s made within (pick ∷ picks) events end m =
      let more = makes_more bank source_step start s done before pick m.0 made m.1 m.2 in
      within_run (done ++ pick ∷ []) more.0 m.0.next more.1 (within_next done before s made pick m.0 m.1 within) picks m.3 end m.5

  pub loans_within : (picks : List Pick) (events : List Event) (s : State SourceProcess)
      → Makes bank source_step start picks events s → (p r : ℕ) → cell s.loans p r ≤ cell bank.claims p r
  loans_within picks events s made =
      within_run [] [] start (refl, refl)
      (λ p r. let none = zero_loans (length bank.capital) (map source_process program) p r in omega (arith, none)) picks events s made
