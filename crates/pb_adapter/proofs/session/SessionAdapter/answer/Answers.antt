use Rattle.std.proofs.Common.{subst}
use Rattle.pb_adapter_requests.specs.Kinds.{kind_of}
use Rattle.pb_adapter_requests.specs.Requests.{request_view}
use Rattle.pb_adapter_requests.specs.Responses.{told_by}
use Rattle.pb_adapter.specs.Answers.{Answers}
use Rattle.pb_adapter.specs.Sessions.{Debugged}
use Rattle.pb_adapter.proofs.FloatFree.{answers_free}
use Rattle.pb_adapter.proofs.session.SessionAdapter.answer.Goals as goal

pub returns-clause-answers : goal.returns-clause-answers
returns-clause-answers c =
    let r = request_view c.args.request in
    let told = told_by c.in_ok-reply.reply in
    let next = c.answer_request.new.debugger in
    let client = c.answer_request.new.client in
    (subst (λ (s : Debugged). Answers s.debugger s.client c.args.seq r told next client) c.self.view_is c.in_ok-reply.ensures, (cc))

pub returns-clause-float_free : goal.returns-clause-float_free
returns-clause-float_free c =
    answers_free (kind_of c.args.request.command.now) c.self.inside.debugger c.answer_request.new.debugger c.self.inside.client
    c.answer_request.new.client c.args.seq (request_view c.args.request) (told_by c.in_ok-reply.reply) c.in_ok-reply.ensures
