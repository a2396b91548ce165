-- What an arm would come to, beside what its pick does.
use Rattle.std.proofs.Common.{◌≡◌, ◌≢◌, ⊎_elim, ℕ, ◌<◌, ◌≤◌, length, Option, Some, None}
use Rattle.std.proofs.Common.{option_map, option_and_then, refl, sym, ap, ◌∙◌, subst, arith}
use Rattle.std.specs.Prelude.{slice_get}
use Rattle.std.proofs.lemmas.Bool.{cases_lt}
use Rattle.std.proofs.lemmas.List.{get_or_past}
use Rattle.std.proofs.lemmas.Option.{slice_get_within}
use Rattle.pb_base.specs.declared.pick.Pick.{Pick}
use Rattle.pb_base.specs.Steppers.{State, Move, Effect, Silent, Prints, Takes, Returns, Faults, Finishes, IsGranted}
use Rattle.pb_base.specs.Steppers.{event_of, move_of, moved}
use Rattle.pb_base.proofs.Lists.{get_some}
use Rattle.pb_code.specs.Code.{ProcessCode, CodeProcess, Thread, Idle, code_step, step_process, step_thread}
use Rattle.pb_code.specs.Reached.{CodeReaches, CodeMoves, CodeStays}
use Rattle.pb_code.specs.Whole.{Code, bank_of}
use Rattle.pb_machine.specs.Looks.{look_at, look_of, look_of_effect}
use Rattle.pb_machine.specs.declared.look.Look.TheVariants as look
use Rattle.pb_verifier.proofs.LoansWithinClaims.{kept_reached}
use Rattle.pb_verifier.proofs.States.{CodeMove, code_move}
use Rattle.pb_verifier.specs.Requests.{IsDenied}
use Rattle.pb_verifier.specs.Verified.{IsFaultless}
use Rattle.pb_verifier.specs.declared.fault.VerifyFault.TheVariants.{OutOfLimits}

effect_steps : (e : Effect) → look_of_effect e ≡ look.Stays → ⊥
effect_steps Silent h = cc
effect_steps (Prints v) h = cc
effect_steps (Takes bundle) h = cc
effect_steps (Returns bundle) h = cc
effect_steps (Faults kind) h = cc
effect_steps Finishes h = cc

-- what shows nothing is not visible
effect_shows : (pick : Pick) (e : Effect) → event_of pick e ≡ None → look_of_effect e ≡ look.Visible → ⊥
effect_shows pick Silent none seen = cc
effect_shows pick (Prints v) none seen = cc
effect_shows pick (Takes bundle) none seen = cc
effect_shows pick (Returns bundle) none seen = cc
effect_shows pick (Faults kind) none seen = cc
effect_shows pick Finishes none seen = cc

module _ (code : Code) (s : State CodeProcess) (pick : Pick) where
  look_is : (move : Move CodeProcess) (m : CodeMove code.processes s pick move) → look_at code s pick ≡ look_of_effect m.effect
  look_is move m =
      ap (λ (o : Option CodeProcess). look_of (option_and_then (λ process. code_step code.processes pick.process process pick.arm) o)) m.here
      ∙ (ap (λ (o : Option ProcessCode). look_of (option_and_then (λ c. step_process c m.before pick.arm) o)) m.at ∙ ap look_of m.steps)

  -- an arm that can be picked can step
  pub moves_look : (move : Move CodeProcess) → move_of (code_step code.processes) s pick ≡ Some move → look_at code s pick ≢ look.Stays
  moves_look move h stays = let m = code_move code.processes s pick move h in effect_steps m.effect (sym (look_is move m) ∙ stays)

  -- a visible pick shows something
  pub visible_shows : (next : State CodeProcess) → CodeMoves code s pick None next → look_at code s pick ≡ look.Visible → ⊥
  visible_shows next h visible =
      let move : Move CodeProcess = record { next = next; effect = h.0 } in
      let m = code_move code.processes s pick move h.1 in
      let same : m.effect ≡ h.0 = ap (λ (x : Move CodeProcess). x.effect) m.is in
      effect_shows pick m.effect (ap (event_of pick) same ∙ h.3) (sym (look_is move m) ∙ visible)

  -- a visible pick that is not enabled is a request that is not allowed
  pub blocked_refused : CodeStays code s pick → look_at code s pick ≡ look.Visible → IsDenied code s pick
  blocked_refused stays visible = at_process (slice_get s.processes pick.process) refl visible
    where
      by : (process : CodeProcess) (made : CodeProcess × Effect) → slice_get s.processes pick.process ≡ Some process →
          code_step code.processes pick.process process pick.arm ≡ Some made
          → (e : Effect) → made.1 ≡ e → look_of_effect e ≡ look.Visible → IsDenied code s pick
      by process made there steps e is seen = go e is seen
        where
          moves : move_of (code_step code.processes) s pick ≡ Some (moved s pick made)
          moves =
              ap (option_and_then (λ process. option_map (moved s pick) (code_step code.processes pick.process process pick.arm))) there
              ∙ ap (option_map (moved s pick)) steps

          enabled : (e : Effect) → made.1 ≡ e → IsGranted (bank_of code) s.loans pick.process e → ⊥
          enabled e is granted = stays (moved s pick made) moves (subst (IsGranted (bank_of code) s.loans pick.process) (sym is) granted)

          go : (e : Effect) → made.1 ≡ e → look_of_effect e ≡ look.Visible → IsDenied code s pick
          go Silent is seen = cc
          go (Prints v) is seen = elim (enabled (Prints v) is tt) [ ]
          go (Takes bundle) is seen = record {
            move = moved s pick made;
            bundle = bundle;
            asks = moves;
            takes = is;
            not_allowed = λ allowed. enabled (Takes bundle) is allowed;
          }
          go (Returns bundle) is seen = elim (enabled (Returns bundle) is tt) [ ]
          go (Faults kind) is seen = elim (enabled (Faults kind) is tt) [ ]
          go Finishes is seen = elim (enabled Finishes is tt) [ ]

      at_step : (process : CodeProcess) → slice_get s.processes pick.process ≡ Some process → (o : Option (CodeProcess × Effect))
          → code_step code.processes pick.process process pick.arm ≡ o → look_of o ≡ look.Visible → IsDenied code s pick
      at_step process there None steps seen = cc
      at_step process there (Some made) steps seen = by process made there steps made.1 refl seen

      at_process : (o : Option CodeProcess) → slice_get s.processes pick.process ≡ o
          → look_of (option_and_then (λ process. code_step code.processes pick.process process pick.arm) o) ≡ look.Visible → IsDenied code s pick
      at_process None there seen = cc
      at_process (Some process) there seen = at_step process there (code_step code.processes pick.process process pick.arm) refl seen

  -- an arm that can step is one of its process
  pub steps_within : (process : CodeProcess) → slice_get s.processes pick.process ≡ Some process → look_at code s pick
      ≢ look.Stays → pick.arm < length process.threads
  steps_within process there steps = ⊎_elim (λ l. l) (λ l. elim (steps (past l)) [ ]) (cases_lt pick.arm (length process.threads))
    where
      past : length process.threads ≤ pick.arm → look_at code s pick ≡ look.Stays
      past l =
          ap (λ (o : Option CodeProcess). look_of (option_and_then (λ process. code_step code.processes pick.process process pick.arm) o)) there
          ∙ at_code (slice_get code.processes pick.process)
        where
          at_code : (o : Option ProcessCode) → look_of (option_and_then (λ c. step_process c process pick.arm) o) ≡ look.Stays
          at_code None = refl
          at_code (Some c) = ap (λ (t : Thread). look_of (step_thread c process pick.arm t)) (get_or_past process.threads pick.arm Idle l)

-- there are 64 processes at most, each with 64 arms at most
module _ (code : Code) (faultless : IsFaultless code) (s : State CodeProcess) (reached : CodeReaches code s) where
  pub few_processes : length s.processes ≤ 64
  few_processes =
      let count = (kept_reached code faultless s reached).good.count in
      let few = (faultless OutOfLimits).some_processes.1 in
      omega (arith, count, few)

  pub few_arms : (p : ℕ) (process : CodeProcess) → slice_get s.processes p ≡ Some process → length process.threads ≤ 64
  few_arms p process there =
      let good = (kept_reached code faultless s reached).good in
      let count = good.count in
      let lt = slice_get_within s.processes p process there in
      let of = get_some code.processes p (omega (arith, count, lt)) in
      let fit = good.fit p of.0 process of.1 there in
      let threads = fit.threads in
      let few = ((faultless OutOfLimits).each p of.0 of.1).some_arms.1 in
      omega (arith, threads, few)

  -- an arm that can be picked is one of these
  pub moves_arm : (pick : Pick) (move : Move CodeProcess) → move_of (code_step code.processes) s pick ≡ Some move → pick.arm < 64
  moves_arm pick move h =
      let m = code_move code.processes s pick move h in
      let within = steps_within code s pick m.before m.here (moves_look code s pick move h) in
      let few = few_arms pick.process m.before m.here in
      omega (arith, within, few)
