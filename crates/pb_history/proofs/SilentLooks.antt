-- Picks that are looked at before they are made.
use Rattle.std.proofs.Common.{◌≡◌, ◌≢◌, ℕ, zero, suc, ◌+◌, ◌<◌, Option, None, option_and_then, refl, ap, ◌∙◌, subst}
use Rattle.std.proofs.Common.{arith}
use Rattle.pb_base.specs.declared.lending.Lending.{Lending}
use Rattle.pb_base.specs.declared.pick.Pick.{Pick}
use Rattle.pb_base.specs.declared.step.Step.{Step}
use Rattle.pb_base.specs.declared.step.Step.TheVariants as answer
use Rattle.pb_base.specs.Steppers.{State, Move, Effect, Silent, Prints, Takes, Returns, Faults, Finishes, event_of}
use Rattle.pb_code.specs.Code.{ProcessCode, CodeProcess, code_step, step_process}
use Rattle.pb_code.specs.Reached.{CodeMovesBy}
use Rattle.pb_code.specs.Whole.{Code}
use Rattle.pb_machine.specs.Looks.{look_at, look_of, look_of_effect}
use Rattle.pb_machine.specs.Steps.{IsStepBy, MovesSilentlyBy}
use Rattle.pb_machine.specs.declared.look.Look.TheVariants as look
use Rattle.pb_verifier.proofs.States.{CodeMove, code_move}
use Rattle.pb_history.specs.Entries.{silent_picks}
use Rattle.pb_history.specs.Leads.{LeadsBy}
use Rattle.pb_history.specs.Replays.{IsRun}
use Rattle.pb_history.proofs.CountedPicks.{ends_run, silent_more}

effect_silent : (pick : Pick) (e : Effect) → event_of pick e ≡ None → look_of_effect e ≡ look.Silent
effect_silent pick Silent h = refl
effect_silent pick (Prints v) h = cc
effect_silent pick (Takes bundle) h = cc
effect_silent pick (Returns bundle) h = cc
effect_silent pick (Faults kind) h = cc
effect_silent pick Finishes h = cc

look_is : (code : Code) (s : State CodeProcess) (pick : Pick) (move : Move CodeProcess) (m : CodeMove code.processes s pick move)
    → look_at code s pick ≡ look_of_effect m.effect
look_is code s pick move m =
    ap (λ (o : Option CodeProcess). look_of (option_and_then (λ process. code_step code.processes pick.process process pick.arm) o)) m.here
    ∙ (ap (λ (o : Option ProcessCode). look_of (option_and_then (λ c. step_process c m.before pick.arm) o)) m.at ∙ ap look_of m.steps)

-- a pick that shows nothing looks silent
looks_silent : (lending : Lending) (code : Code) (s next : State CodeProcess) (pick : Pick) → CodeMovesBy lending code s pick None next → look_at code s pick ≡ look.Silent
looks_silent lending code s next pick h =
    let move : Move CodeProcess = record { next = next; effect = h.0 } in
    let m = code_move code.processes s pick move h.1 in
    let same : m.effect ≡ h.0 = ap (λ (x : Move CodeProcess). x.effect) m.is in
    look_is code s pick move m ∙ effect_silent pick m.effect (ap (event_of pick) same ∙ h.3)

-- silent picks lead as their entries say
leads_silently : (lending : Lending) (code : Code) (before after : State CodeProcess) (pick : Pick) (made : ℕ) → MovesSilentlyBy lending code pick made before after
    → LeadsBy lending code before (silent_picks pick made) after
leads_silently lending code before after pick zero same = same
leads_silently lending code before after pick (suc made) (between, moves, last) =
    subst (λ (n : ℕ). LeadsBy lending code before (silent_picks pick n) after) (let e : made + 1 ≡ suc made = omega arith in e)
    (silent_more lending code before between after pick made (leads_silently lending code before between pick made moves) last)

-- all picks were silent
pub all_silent : {lending : Lending} (code : Code) (before after : State CodeProcess) (pick : Pick) (max made : ℕ) → MovesSilentlyBy lending code pick made before after
    → made ≡ max → IsRun lending code before pick max made answer.Silent after
all_silent {lending = lending} code before after pick max made moves all = record {
  between = after;
  leads = leads_silently lending code before after pick made moves;
  ends = (all, refl);
}

-- the silent picks ended before the last, and one more was tried
pub one_behind : {lending : Lending} (code : Code) (before between after : State CodeProcess) (pick : Pick) (max made : ℕ) (step : Step)
    → MovesSilentlyBy lending code pick made before between → made < max → look_at code between pick ≢ look.Silent → IsStepBy lending code between pick step after
    → IsRun lending code before pick max made step after
one_behind {lending = lending} code before between after pick max made step moves less stops is = record {
  between = between;
  leads = leads_silently lending code before between pick made moves;
  ends = ends_run lending code between after pick max made step
      (λ silent. stops (looks_silent lending code between after pick (subst (λ (s : Step). IsStepBy lending code between pick s after) silent is))) less is;
}
