use Rattle.std.proofs.Common.{◌≡◌, [], ◌∷◌, Option, Some, None, option_map, true, false, sym, ap, ◌∙◌, codes}
use Rattle.std.proofs.lemmas.Result.{IfOk-weaker}
use Rattle.serde_json.specs.View.{view}
use Rattle.pb_adapter_requests.specs.Requests.{request_in, request_view}
use Rattle.pb_adapter_requests.specs.Responses.{failed_data, told_by}
use Rattle.pb_adapter_requests.specs.declared.request.Request.{Request}
use Rattle.pb_conversations.specs.Conversations.{AnswersContent, asked, no_request, no_json}
use Rattle.pb_conversations.proofs.Replies.{told_known}
use Rattle.pb_conversations.proofs.conversation.answer_content.Goals as goal

pub returns-in-Err-clause-answers : goal.returns-in-Err-clause-answers
returns-in-Err-clause-answers g c =
    told_known c.no_request.result (failed_data c.args.seq 0 [] (codes "this is not JSON") ∷ [])
    (λ told. AnswersContent g.A.Adapter.Answers c.args.adapter.now c.args.seq c.args.content.now told c.args.adapter.now)
    c.no_request.ensures
    (no_json (c.in-Err.ensures.err (λ memory. let w : false ≡ true = c.if-is_memory.ensures.1 memory in cc)))

pub returns-in-Some-clause-answers : goal.returns-in-Some-clause-answers
returns-in-Some-clause-answers g c =
    let said = view c.in-Ok.value in
    let r = request_view c.in-Some.request in
    let after = c.answer.new.self in
    let is : request_in said ≡ Some r =
    sym c.request_of.ensures ∙ ap (λ (o : Option Request). option_map request_view o) c.in-Some.is in
    IfOk-weaker c.answer.result (λ reply. g.A.Adapter.Answers c.args.adapter.now c.args.seq r (told_by reply) after)
    (λ reply. AnswersContent g.A.Adapter.Answers c.args.adapter.now c.args.seq c.args.content.now (told_by reply) after)
    (λ reply has. asked (told_by reply) after said r c.in-Ok.ensures.ok.1 is has) c.answer.ensures.answers

pub returns-clause-answers : goal.returns-clause-answers
returns-clause-answers g c =
    let said = view c.in-Ok.value in
    let is : request_in said ≡ None =
    sym c.request_of.ensures ∙ ap (λ (o : Option Request). option_map request_view o) c.in-None.is in
    told_known c.no_request-in-None.result (failed_data c.args.seq 0 [] (codes "this is not a request") ∷ [])
    (λ told. AnswersContent g.A.Adapter.Answers c.args.adapter.now c.args.seq c.args.content.now told c.args.adapter.now)
    c.no_request-in-None.ensures
    (no_request said c.in-Ok.ensures.ok.1 is)
