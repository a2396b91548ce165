use Rattle.std.proofs.Common.{IfOk, subst}
use Rattle.std.proofs.lemmas.Result.{IfOk-weaker}
use Rattle.pb_conversations.specs.Conversations.{AreFloatFree}
use Rattle.pb_adapter_requests.specs.Requests.{request_view}
use Rattle.pb_adapter_requests.specs.Responses.{told_by}
use Rattle.pb_adapter_requests.specs.declared.kind.Kind.{Kind}
use Rattle.pb_adapter_engine.specs.Waiting.{AnswersWaitingKind}
use Rattle.pb_adapter_engine.proofs.WaitingLemmas.{waiting_free}
use Rattle.pb_adapter_engine.proofs.waiting.WaitingAdapter.answer.Goals as goal

pub returns-clause-answers : goal.returns-clause-answers
returns-clause-answers c =
    let r = request_view c.args.request in
    subst (λ (k : Kind). IfOk c.answer_kind.result (λ reply. AnswersWaitingKind k c.args.self.now c.args.seq r (told_by reply) c.answer_kind.new.self))
    c.kind_of.ensures c.answer_kind.ensures

pub returns-clause-float_free : goal.returns-clause-float_free
returns-clause-float_free c =
    let r = request_view c.args.request in
    IfOk-weaker c.answer_kind.result
    (λ reply. AnswersWaitingKind c.kind_of.result c.args.self.now c.args.seq r (told_by reply) c.answer_kind.new.self)
    (λ reply. AreFloatFree (told_by reply))
    (λ reply. waiting_free c.kind_of.result c.args.self.now c.answer_kind.new.self c.args.seq r (told_by reply)) c.answer_kind.ensures
