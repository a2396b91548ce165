use Rattle.pb_lexer.specs.Tokens.{tokens}
use Rattle.pb_lexer.proofs.OnlyResults.{only_tokens, only_fault}
use Rattle.pb_lexer.proofs.lexer.lex.Goals as goal

pub returns-clause-only : goal.returns-clause-only
returns-clause-only g c =
    only_tokens (λ v. tokens v.items) _ c.args.text.now c.cut.ensures.found c.cut.ensures.fault

pub returns-clause-exact : goal.returns-clause-exact
returns-clause-exact g c =
    only_fault (λ v. tokens v.items) _ c.args.text.now c.cut.ensures.found c.cut.ensures.fault
