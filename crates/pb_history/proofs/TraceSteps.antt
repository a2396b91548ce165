-- Traces, one pick after another.
use Rattle.std.proofs.Common.{◌≡◌, ℕ, zero, suc, ◌+◌, List, [], ◌∷◌, ◌++◌, take, replicate, set, Option, Some, None}
use Rattle.std.proofs.Common.{option_to_list, refl, sym, ap, ◌∙◌, subst}
use Rattle.std.specs.Prelude.{slice_get}
use Rattle.std.proofs.lemmas.List.{map-append}
use Rattle.pb_base.specs.declared.event.Event.{Event}
use Rattle.pb_base.specs.declared.lending.Lending.{Lending}
use Rattle.pb_base.specs.declared.pick.Pick.{Pick}
use Rattle.pb_base.specs.Steppers.{State}
use Rattle.pb_code.specs.Code.{CodeProcess}
use Rattle.pb_code.specs.Reached.{CodeReachesBy, CodeMovesBy}
use Rattle.pb_code.specs.Whole.{Code, code_opening}
use Rattle.pb_base.specs.declared.step.Step.{Step}
use Rattle.pb_base.specs.declared.step.Step.TheVariants as answer
use Rattle.pb_base.proofs.Lists.{take_next}
use Rattle.pb_machine.specs.Steps.{IsStepBy, with_process}
use Rattle.pb_machine.proofs.OneMorePick.{slice_get-set_same}
use Rattle.pb_machine.proofs.SilentPicks.{silent_move, set_again, set_back}
use Rattle.pb_history.specs.Replays.{IsReplayBy}
use Rattle.pb_history.specs.Entries.{Entry, events_of, picks_of, silent_picks}
use Rattle.pb_history.specs.Leads.{LeadsBy, TracesMake, SilentPicksLead}

-- one trace after another
pub leads_append : (lending : Lending) (code : Code) (a b c : State CodeProcess) (xs ys : List Entry) → LeadsBy lending code a xs b → LeadsBy lending code b ys c → LeadsBy lending code a (xs ++ ys) c
leads_append lending code a b c [] ys h k = subst (λ s. LeadsBy lending code s ys c) h k
leads_append lending code a b c (x ∷ xs) ys h k = (h.0, h.1, leads_append lending code h.0 b c xs ys h.2 k)

-- one more pick
pub leads_more : (lending : Lending) (code : Code) (a b c : State CodeProcess) (xs : List Entry) (pick : Pick) (event : Option Event) →
    LeadsBy lending code a xs b → CodeMovesBy lending code b pick event c
    → LeadsBy lending code a (xs ++ record { pick = pick; event = event } ∷ []) c
leads_more lending code a b c xs pick event h m = leads_append lending code a b c xs (record { pick = pick; event = event } ∷ []) h (c, m, refl)

pub traces_make : TracesMake
traces_make lending code before after [] h = (refl, h)
traces_make lending code before after (e ∷ entries) h = (
  record { next = h.0; effect = h.1.0 },
  h.1.1,
  h.1.2,
  events_of entries,
  ap (λ (o : Option Event). option_to_list o ++ events_of entries) (sym h.1.3),
  traces_make lending code h.0 after entries h.2,
)

pub leads_reaches : (lending : Lending) (code : Code) (s : State CodeProcess) (entries : List Entry) → LeadsBy lending code (code_opening code) entries s → CodeReachesBy lending code s
leads_reaches lending code s entries h = (picks_of entries, events_of entries, traces_make lending code (code_opening code) s entries h)

pub replicate_more : {X : Type 0} (n : ℕ) (x : X) → replicate (suc n) x ≡ replicate n x ++ x ∷ []
replicate_more zero x = refl
replicate_more (suc n) x = ap (λ xs. x ∷ xs) (replicate_more n x)

pub silent_lead : SilentPicksLead
silent_lead lending code s pick zero before after there h =
    let state : List CodeProcess → State CodeProcess = λ ps. record { processes = ps; loans = s.loans } in
    ap state (ap (set s.processes pick.process) h ∙ set_back s.processes pick.process before there)
silent_lead lending code s pick (suc n) before after there h =
    let mid = with_process s pick.process h.0 in
    let state : List CodeProcess → State CodeProcess = λ ps. record { processes = ps; loans = s.loans } in
    let here = slice_get-set_same s.processes pick.process h.0 before there in
    let step = silent_move lending code mid pick h.0 after here h.2 in
    subst (λ (es : List Entry). LeadsBy lending code s es (with_process s pick.process after)) (sym (replicate_more n (record { pick = pick; event = None })))
    (subst (λ (ps : List CodeProcess). LeadsBy lending code s (silent_picks pick n ++ record { pick = pick; event = None } ∷ [])
    (state ps)) (set_again s.processes pick.process h.0 after)
    (leads_more lending code s mid _ (silent_picks pick n) pick None (silent_lead lending code s pick n before h.0 there h.1) step))

-- one more pick of a replay
pub replay_more : {lending : Lending} (code : Code) (picks : List Pick) (i : ℕ) (entries : List Entry) (a b : State CodeProcess) (pick : Pick) (event : Option Event)
    → IsReplayBy lending code (take i picks) entries a → slice_get picks i ≡ Some pick → CodeMovesBy lending code a pick event b
    → IsReplayBy lending code (take (i + 1) picks) (entries ++ record { pick = pick; event = event } ∷ []) b
replay_more {lending = lending} code picks i entries a b pick event r there m = record {
  made = map-append (λ (e : Entry). e.pick) entries (record { pick = pick; event = event } ∷ []) ∙ (ap (λ ps. ps ++
      pick ∷ []) r.made ∙ sym (take_next picks i pick there));
  leads = leads_more lending code (code_opening code) a b entries pick event r.leads m;
}

pub silent_step : (lending : Lending) (code : Code) (a b : State CodeProcess) (pick : Pick) (step : Step) (event : Option Event)
    → step ≡ answer.Silent → event ≡ None → IsStepBy lending code a pick step b → CodeMovesBy lending code a pick event b
silent_step lending code a b pick step event is none h =
    subst (λ (o : Option Event). CodeMovesBy lending code a pick o b) (sym none) (subst (λ (x : Step). IsStepBy lending code a pick x b) is h)

pub shown_step : (lending : Lending) (code : Code) (a b : State CodeProcess) (pick : Pick) (step : Step) (shown : Event) (event : Option Event)
    → step ≡ answer.Did shown → event ≡ Some shown → IsStepBy lending code a pick step b → CodeMovesBy lending code a pick event b
shown_step lending code a b pick step shown event is some h =
    subst (λ (o : Option Event). CodeMovesBy lending code a pick o b) (sym some) (subst (λ (x : Step). IsStepBy lending code a pick x b) is h)
