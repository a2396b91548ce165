use Rattle.std.proofs.Common.{sym, ◌∙◌}
use Rattle.pb_mends.proofs.Same.{is_one}
use Rattle.pb_mends.proofs.kept.is_token.Goals as goal

pub returns-then-end : goal.returns-then-end
returns-then-end c = λ _.
    is_one c.args.tokens.now c.loop-token.token-index _ c.args.start c.args.end c.loop-token-test.true
    (sym c.start.ensures ∙ c.if-start.true) (sym c.end.ensures ∙ c.if-end.true)
