use Rattle.std.proofs.Common.{◌≡◌, ◌∙◌, List, [], ap, sym, subst}
use Rattle.std.proofs.lemmas.Result.{IfOk-weaker}
use Rattle.serde_json.specs.View.{view}
use Rattle.pb_lexer.specs.Cutting.{AreTokensOf}
use Rattle.pb_lexer.specs.Tokens.{tokens}
use Rattle.pb_lexer.specs.declared.token.Token.{Token as Given}
use Rattle.pb_outline.specs.Places.{Place, places}
use Rattle.pb_server_names.specs.Completions.{completions_data, items_data}
use Rattle.pb_server_texts.specs.Answers.{CompletesIn, by_tokens, by_words}
use Rattle.pb_server_texts.proofs.requests.complete_at.Goals as goal

pub returns-in_default-clause-answers : goal.returns-in_default-clause-answers
returns-in_default-clause-answers c =
    IfOk-weaker c.items_value.result
    (λ v. view v ≡ items_data [])
    (λ v. CompletesIn c.args.text.now c.args.at (view v))
    (λ v is. subst (CompletesIn c.args.text.now c.args.at) (sym is) (by_words (rw c.in_default.is at c.in_ok-tokens.ensures)))
    c.items_value.ensures

pub returns-clause-answers : goal.returns-clause-answers
returns-clause-answers c =
    let known = rw c.in-Some.is at c.in_ok-tokens.ensures in
    let given = subst (λ (gs : List Given). AreTokensOf c.args.text.now (tokens gs)) (sym c.deref.ensures.value) known in
    IfOk-weaker c.completions_value.result
    (λ v. view v ≡ completions_data (places c.in_ok-outline.outline) c.args.at)
    (λ v. CompletesIn c.args.text.now c.args.at (view v))
    (λ v is. subst (CompletesIn c.args.text.now c.args.at)
    (sym (is ∙ ap (λ (names : List Place). completions_data names c.args.at) c.in_ok-outline.ensures))
    (by_tokens (tokens c.deref.result.now) given))
    c.completions_value.ensures
