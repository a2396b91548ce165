use Rattle.std.proofs.Common.{rules}
use Rattle.pb_parser.proofs.NestingLaws.{opens-preserved_at, opens-found_at, opens-none, tokens-end}
use Rattle.pb_parser.proofs.nesting.opens_too_many.Goals as goal

pub returns-then-count-gt-MAX_OPEN : goal.returns-then-count-gt-MAX_OPEN
returns-then-count-gt-MAX_OPEN c = (
  λ _. opens-found_at c.args.tokens.now c.loop-token.token-index _ c.loop-token.count _ c.kind.result
      c.loop-token-test.true c.kind.ensures c.open_after-count.ensures c.loop-token.invariant c.if-count-gt-MAX_OPEN.true,
  λ _. search rules,
)

pub loop-token-preserved : goal.loop-token-preserved
loop-token-preserved c = opens-preserved_at c.args.tokens.now c.loop-token.token-index _ c.loop-token.count _ c.kind.result
    c.loop-token-test.true c.kind.ensures c.open_after-count.ensures c.loop-token.invariant c.if-count-gt-MAX_OPEN.false

pub returns : goal.returns
returns c = (λ is. (let no = is in cc), λ many. absurd (opens-none _ _ _ c.loop-token.invariant (tokens-end _ _ c.loop-token-test.false) many))
