use Rattle.std.proofs.Common.{rules, arith, inr}
use Rattle.pb_parser.proofs.NestingLaws.{signs-preserved_at, signs-found_at, signs-none, signs-whole, tokens-end}
use Rattle.pb_parser.proofs.nesting.signs_too_many.Goals as goal

pub loop-token-init : goal.loop-token-init
loop-token-init c = record { small = omega arith; later = λ many. inr many; back = λ many. signs-whole _ many }

pub returns-then-count-gt-MAX_SIGNS : goal.returns-then-count-gt-MAX_SIGNS
returns-then-count-gt-MAX_SIGNS c = (
  λ _. signs-found_at c.args.tokens.now c.loop-token.token-index _ c.loop-token.count _ c.kind.result
      c.loop-token-test.true c.kind.ensures c.signs_after-count.ensures c.loop-token.invariant c.if-count-gt-MAX_SIGNS.true,
  λ _. search rules,
)

pub loop-token-preserved : goal.loop-token-preserved
loop-token-preserved c = signs-preserved_at c.args.tokens.now c.loop-token.token-index _ c.loop-token.count _ c.kind.result
    c.loop-token-test.true c.kind.ensures c.signs_after-count.ensures c.loop-token.invariant c.if-count-gt-MAX_SIGNS.false

pub returns : goal.returns
returns c = (λ is. (let no = is in cc), λ many. absurd (signs-none _ _ _ c.loop-token.invariant (tokens-end _ _ c.loop-token-test.false) many))
