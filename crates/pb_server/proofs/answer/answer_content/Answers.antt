use Rattle.std.proofs.Common.{◌≡◌, [], ◌∷◌, true, false, codes, refl, ap, ◌∙◌, subst, rules}
use Rattle.std.proofs.lemmas.Result.{IfOk-weaker}
use Rattle.serde_json.specs.Data.{Data, null}
use Rattle.serde_json.specs.View.{view}
use Rattle.serde_json.specs.declared.value.Value.{Null, the_lemmas}
use Rattle.pb_server.specs.Answers.{AnswersContent, AnswersHeard, heard, no_json}
use Rattle.pb_server.specs.Messages.{Heard, message_view}
use Rattle.pb_server.specs.Responses.{error_data, told_by}
use Rattle.pb_server.specs.declared.response.Fault.TheVariants.{NoJson}
use Rattle.pb_server.proofs.answer.answer_content.Goals as goal

pub returns-in-Ok-clause-answers : goal.returns-in-Ok-clause-answers
returns-in-Ok-clause-answers g c =
    let s = c.args.session.now in
    let said = view c.in-Ok.value in
    let after = c.answer_message.new.session in
    IfOk-weaker c.answer_message.result
    (λ reply. AnswersHeard g.L.Language.Diagnoses g.L.Language.Finds (message_view c.message_of.result) s (told_by reply) after)
    (λ reply. AnswersContent g.L.Language.Diagnoses g.L.Language.Finds s c.args.content.now (told_by reply) after)
    (λ reply has. heard (told_by reply) after said c.in-Ok.ensures.ok.1
    (subst (λ (h : Heard). AnswersHeard g.L.Language.Diagnoses g.L.Language.Finds h s (told_by reply) after) c.message_of.ensures has))
    c.answer_message.ensures.told

pub returns-in_ok-response-in-Err-clause-answers : goal.returns-in_ok-response-in-Err-clause-answers
returns-in_ok-response-in-Err-clause-answers g c =
    let response = view c.in_ok-response-in-Err.response in
    let none : view Null ≡ null = search (rules, the_lemmas) in
    no_json (response ∷ []) c.args.session.now
    (c.in-Err.ensures.err (λ memory. let w : false ≡ true = c.if-is_memory.ensures.1 memory in cc))
    (ap (λ (d : Data). d ∷ []) (c.in_ok-response-in-Err.ensures.told ∙ ap (λ (d : Data). error_data d NoJson (codes "this is not JSON")) none), refl)
