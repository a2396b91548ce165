use Rattle.std.proofs.Common.{ap, option_map, subst, sym, ◌∙◌}
use Rattle.pb_codegen.specs.Compiled.{IsRefused}
use Rattle.pb_accept.specs.Causes.{cause_line}
use Rattle.pb_accept.specs.Refusals.{by_tokens, by_grammar, by_names, by_claims}
use Rattle.pb_accept.proofs.AcceptLemmas.{is_refusal, refuses_by, refuses_claims}
use Rattle.pb_accept.proofs.accept.fault_line.Goals as goal

pub returns-in-Lex : goal.returns-in-Lex
returns-in-Lex c text is =
    is_refusal (λ v. v.items) c.refusal_text.result text (refuses_by (λ v. v.items) c.refusal_text.result text _ c.refusal_text.ensures
    (λ l told. by_tokens c.in-Lex.fault (subst (IsRefused text) c.in-Lex.is is) l
    (ap (option_map cause_line) (sym c.lex_cause.ensures) ∙ told)))

pub returns-in-Parse : goal.returns-in-Parse
returns-in-Parse c text is =
    is_refusal (λ v. v.items) c.refusal_text-in-Parse.result text (refuses_by (λ v. v.items) c.refusal_text-in-Parse.result text _ c.refusal_text-in-Parse.ensures
    (λ l told. by_grammar c.in-Parse.fault (subst (IsRefused text) c.in-Parse.is is) l
    (ap (option_map cause_line) (sym c.parse_cause.ensures) ∙ told)))

pub returns-in-Names : goal.returns-in-Names
returns-in-Names c text is =
    is_refusal (λ v. v.items) c.names_text.result text (refuses_by (λ v. v.items) c.names_text.result text _ c.names_text.ensures
    (by_names c.in-Names.fault (subst (IsRefused text) c.in-Names.is is)))

pub returns-in-Claims : goal.returns-in-Claims
returns-in-Claims c text is =
    refuses_claims (λ v. v.items) c.over_capital_text.result text _ c.over_capital_text.ensures
    (by_claims c.in-Claims.fault (subst (IsRefused text) c.in-Claims.is is))
