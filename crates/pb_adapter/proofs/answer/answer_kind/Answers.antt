use Rattle.std.proofs.Common.{◌∙◌, IfOk, ap, codes, refl, subst, sym}
use Rattle.std.proofs.lemmas.Result.{IfOk-weaker}
use Rattle.pb_adapter_requests.specs.Requests.{number_of, place_of, request_view}
use Rattle.pb_adapter_requests.specs.Responses.{told_by}
use Rattle.pb_adapter_requests.specs.declared.kind.Kind.{Kind}
use Rattle.pb_adapter_requests.specs.declared.kind.Kind.TheVariants as kind
use Rattle.pb_adapter.specs.Answers.{AnswersKind, Client, StepsOn}
use Rattle.pb_adapter.specs.Moves.{stop_view}
use Rattle.pb_adapter.proofs.ReplyLemmas.{continues, goes_on}
use Rattle.pb_adapter.proofs.answer.answer_kind.Goals as goal

pub returns-in-Continue : goal.returns-in-Continue
returns-in-Continue c =
    let d = c.args.debugger.now in
    let r = request_view c.args.request in
    let next = c.continue_on.new.debugger in
    let client = c.args.client.now in
    let same = c.client-in-Continue.view_is in
    subst (λ (k : Kind). IfOk c.continue_on.result (λ reply. AnswersKind k d client c.args.seq r (told_by reply) next client))
    (sym c.in-Continue.is)
    (continues c.continue_on.result d next client c.args.seq r c.deref.result.now c.client-in-Continue.inside.events
    (c.deref.ensures.value ∙ ap (λ (x : Client). x.lines) same) (ap (λ (x : Client). x.events) same) c.continue_on.ensures)

pub returns-in_ok-stop-in-ReverseContinue : goal.returns-in_ok-stop-in-ReverseContinue
returns-in_ok-stop-in-ReverseContinue c =
    let d = c.args.debugger.now in
    let r = request_view c.args.request in
    let next = c.go.new.debugger in
    let client = c.args.client.now in
    let at = place_of (number_of (codes "threadId") r) in
    subst (λ (k : Kind). IfOk c.go.result (λ reply. AnswersKind k d client c.args.seq r (told_by reply) next client))
    (sym c.in-ReverseContinue.is)
    (goes_on c.go.result d next client c.args.seq r kind.ReverseContinue c.deref-in-ReverseContinue.result.now at
    (stop_view c.in_ok-stop-in-ReverseContinue.stop)
    (c.deref-in-ReverseContinue.ensures.value ∙ ap (λ (x : Client). x.lines) c.client-in-ReverseContinue.view_is) refl
    (c.in_ok-stop-in-ReverseContinue.ensures at) (c.go.ensures.moved, c.go.ensures.told))

pub returns-in-Step : goal.returns-in-Step
returns-in-Step c =
    let d = c.args.debugger.now in
    let r = request_view c.args.request in
    let next = c.step_on.new.debugger in
    let client = c.args.client.now in
    subst (λ (k : Kind). IfOk c.step_on.result (λ reply. AnswersKind k d client c.args.seq r (told_by reply) next client)) (sym c.in-Step.is)
    (IfOk-weaker c.step_on.result (λ reply. (x : Client) → StepsOn d x c.args.seq r (told_by reply) next x)
    (λ reply. StepsOn d client c.args.seq r (told_by reply) next client) (λ reply steps. steps client) c.step_on.ensures)

pub returns-in_ok-stop-in-StepBack : goal.returns-in_ok-stop-in-StepBack
returns-in_ok-stop-in-StepBack c =
    let d = c.args.debugger.now in
    let r = request_view c.args.request in
    let next = c.go-in-StepBack.new.debugger in
    let client = c.args.client.now in
    subst (λ (k : Kind). IfOk c.go-in-StepBack.result (λ reply. AnswersKind k d client c.args.seq r (told_by reply) next client))
    (sym c.in-StepBack.is)
    (goes_on c.go-in-StepBack.result d next client c.args.seq r kind.StepBack client.lines
    (record { process = c.place_of-at.result.process; arm = c.place_of-at.result.arm }) (stop_view c.in_ok-stop-in-StepBack.stop) refl
    (c.place_of-at.ensures ∙ ap place_of c.number_of.ensures) (c.in_ok-stop-in-StepBack.ensures client.lines)
    (c.go-in-StepBack.ensures.moved, c.go-in-StepBack.ensures.told))
