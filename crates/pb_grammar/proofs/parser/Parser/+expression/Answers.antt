use Rattle.std.proofs.Common.{length, suc, ◌-◌, ◌<◌, subst, ◌≡◌, ap, sym, ◌∙◌, arith}
use Rattle.std.proofs.lemmas.Result.{err_from_is_err_and}
use Rattle.pb_base.specs.declared.operators.UnaryOp.TheVariants as sign
use Rattle.pb_lexer.specs.Tokens.{tokens}
use Rattle.pb_grammar.specs.ExpressionReader.{expression, joined, negation, factor, after_sum, after_conjunction}
use Rattle.pb_grammar.specs.ExpressionReader.{of_level}
use Rattle.pb_grammar.specs.Making.{IsMadeOf}
use Rattle.pb_grammar.proofs.Chains.{fails_through, made}
use Rattle.pb_grammar.proofs.Levels.{first_fails, then_makes, then_nothing, splits_at_factor, splits_at_negation}
use Rattle.pb_grammar.proofs.Levels.{factor_ends, negation_ends}
use Rattle.pb_grammar.proofs.Levels.{factors_first, terms_first, negations_first, factor_alone, term_alone, sum_alone}
use Rattle.pb_grammar.proofs.Levels.{negation_alone, conjunction_alone}
use Rattle.pb_grammar.proofs.Loops.{loop_begins, joined_shorter, operator_more, operator_fails, operator_leaves}
use Rattle.pb_grammar.proofs.Expressions.{level_shorter}
use Rattle.pb_grammar.proofs.Signs.{signs_refused, signed_makes}
use Rattle.pb_grammar.proofs.parser.Parser.+expression.Goals as goal

pub expression-returns-then-depth-eq0 : goal.expression-returns-then-depth-eq0
unfolding expression
expression-returns-then-depth-eq0 g t c = rw c.fault.ensures.1 (ap (λ n. expression n (tokens c.args.self.now.rest.now)) c.if-depth-eq0.true)

pub expression-returns : goal.expression-returns
unfolding expression
expression-returns g t c =
    let e : c.args.depth ≡ suc (c.args.depth - 1) = omega arith in
    subst (λ n. IsMadeOf g.B.Builder.wants g.B.Builder.is_expr c.level.result (expression n (tokens
    c.args.self.now.rest.now)) (tokens c.level.new.self.rest.now)) (sym e) c.level.ensures

pub factor-returns-in_err-operand : goal.factor-returns-in_err-operand
unfolding factor
factor-returns-in_err-operand g t c =
    let p = err_from_is_err_and c.from_residual.result c.from_residual.ensures.1 in
    rw (p.1, p.2) (fails_through g.B.Builder.wants _ c.in_err-operand.ensures (signs_refused c.count-count.result
    sign.Negate _ _ (c.count-count.ensures.signs sign.Negate _)))

pub factor-returns : goal.factor-returns
unfolding factor
factor-returns g t c =
    signed_makes g.B.Builder.is_expr g.B.Builder.wants c.signed.result c.count-count.result sign.Negate _ _ _ _
    c.signed.ensures c.in_ok-operand.ensures (c.count-count.ensures.signs sign.Negate _)

pub negation-returns-in_err-operand : goal.negation-returns-in_err-operand
unfolding negation
negation-returns-in_err-operand g t c =
    let p = err_from_is_err_and c.from_residual.result c.from_residual.ensures.1 in
    rw (p.1, p.2) (fails_through g.B.Builder.wants _ c.in_err-operand.ensures (signs_refused c.count-count.result
    sign.Not _ _ (c.count-count.ensures.signs sign.Not _)))

pub negation-returns : goal.negation-returns
unfolding negation
negation-returns g t c =
    signed_makes g.B.Builder.is_expr g.B.Builder.wants c.signed.result c.count-count.result sign.Not _ _ _ _
    c.signed.ensures c.in_ok-operand.ensures (c.count-count.ensures.signs sign.Not _)

pub after_factor-returns-in_err-left-in-Comparison : goal.after_factor-returns-in_err-left-in-Comparison
after_factor-returns-in_err-left-in-Comparison g t c = λ a h.
    let p = err_from_is_err_and c.from_residual.result c.from_residual.ensures.1 in
    rw (p.1, p.2) (first_fails g.B.Builder.wants _ _ _ _ (factors_first _ c.args.level a _ c.in-Comparison.is) (c.in_err-left-in-Comparison.ensures a h))

pub after_factor-returns-in_ok-left-in-Comparison : goal.after_factor-returns-in_ok-left-in-Comparison
after_factor-returns-in_ok-left-in-Comparison g t c = λ a h.
    then_makes g.B.Builder.is_expr g.B.Builder.wants _ _ _ _ _ _ _
    (factors_first _ c.args.level a _ c.in-Comparison.is) (c.in_ok-left-in-Comparison.ensures a h) c.after_term.ensures

pub after_term-returns-in_err-left-in-Comparison : goal.after_term-returns-in_err-left-in-Comparison
after_term-returns-in_err-left-in-Comparison g t c = λ a h.
    let p = err_from_is_err_and c.from_residual.result c.from_residual.ensures.1 in
    rw (p.1, p.2) (first_fails g.B.Builder.wants _ _ _ _ (terms_first _ c.args.level a _ c.in-Comparison.is) (c.in_err-left-in-Comparison.ensures a h))

pub after_term-returns-in_ok-left-in-Comparison : goal.after_term-returns-in_ok-left-in-Comparison
after_term-returns-in_ok-left-in-Comparison g t c = λ a h.
    then_makes g.B.Builder.is_expr g.B.Builder.wants _ _ _ _ _ _ _
    (terms_first _ c.args.level a _ c.in-Comparison.is) (c.in_ok-left-in-Comparison.ensures a h) c.after_sum.ensures

pub after_negation-returns-in_err-left-in-Disjunction : goal.after_negation-returns-in_err-left-in-Disjunction
after_negation-returns-in_err-left-in-Disjunction g t c = λ a h.
    let p = err_from_is_err_and c.from_residual.result c.from_residual.ensures.1 in
    rw (p.1, p.2) (first_fails g.B.Builder.wants _ _ _ _ (negations_first _ c.args.level a _ c.in-Disjunction.is) (c.in_err-left-in-Disjunction.ensures a h))

pub after_negation-returns-in_ok-left-in-Disjunction : goal.after_negation-returns-in_ok-left-in-Disjunction
after_negation-returns-in_ok-left-in-Disjunction g t c = λ a h.
    then_makes g.B.Builder.is_expr g.B.Builder.wants _ _ _ _ _ _ _
    (negations_first _ c.args.level a _ c.in-Disjunction.is) (c.in_ok-left-in-Disjunction.ensures a h) c.after_conjunction.ensures

pub after_sum-returns-in-Comparison : goal.after_sum-returns-in-Comparison
unfolding after_sum
after_sum-returns-in-Comparison g t c = λ a h. rw c.in-Comparison.is (c.relation.ensures a h)

pub after_conjunction-returns-in-Disjunction : goal.after_conjunction-returns-in-Disjunction
unfolding after_conjunction
after_conjunction-returns-in-Disjunction g t c = λ a h. rw c.in-Disjunction.is (c.chain.ensures a h)

pub after_factor-returns-in_default : goal.after_factor-returns-in_default
after_factor-returns-in_default g t c = λ a h. record {
  syntax = a;
  found = factor_alone _ _ a _ c.in_default.not-Comparison c.in_default.not-Sum c.in_default.not-Term;
  same = h;
}

pub after_term-returns-in_default : goal.after_term-returns-in_default
after_term-returns-in_default g t c = λ a h. record {
  syntax = a;
  found = term_alone _ _ a _ c.in_default.not-Comparison c.in_default.not-Sum;
  same = h;
}

pub after_sum-returns-in_default : goal.after_sum-returns-in_default
after_sum-returns-in_default g t c = λ a h. record {
  syntax = a;
  found = sum_alone _ _ a _ c.in_default.not-Comparison;
  same = h;
}

pub after_negation-returns-in_default : goal.after_negation-returns-in_default
after_negation-returns-in_default g t c = λ a h. record {
  syntax = a;
  found = negation_alone _ _ a _ c.in_default.not-Disjunction c.in_default.not-Conjunction;
  same = h;
}

pub after_conjunction-returns-in_default : goal.after_conjunction-returns-in_default
after_conjunction-returns-in_default g t c = λ a h. record {
  syntax = a;
  found = conjunction_alone _ _ a _ c.in_default.not-Disjunction;
  same = h;
}

pub arithmetic-returns-in_err-first : goal.arithmetic-returns-in_err-first
arithmetic-returns-in_err-first g t c =
    let p = err_from_is_err_and c.from_residual.result c.from_residual.ensures.1 in
    rw (p.1, p.2) (first_fails g.B.Builder.wants _ _ _ _ (splits_at_factor _ c.args.level _ c.requires) c.in_err-first.ensures)

pub arithmetic-returns-then-at_operator : goal.arithmetic-returns-then-at_operator
arithmetic-returns-then-at_operator g t c =
    then_makes g.B.Builder.is_expr g.B.Builder.wants _ _ _ _ _ _ _ (splits_at_factor _ c.args.level _ c.requires) c.in_ok-first.ensures c.after_factor.ensures

pub arithmetic-returns : goal.arithmetic-returns
arithmetic-returns g t c =
    let none = sym c.at_operator.ensures ∙ c.if-at_operator.false in
    then_nothing g.B.Builder.is_expr _ _ _ _ _ (splits_at_factor _ c.args.level _ c.requires) c.in_ok-first.ensures (λ a. factor_ends _ c.args.level a _ none)

pub logical-returns-in_err-first : goal.logical-returns-in_err-first
logical-returns-in_err-first g t c =
    let p = err_from_is_err_and c.from_residual.result c.from_residual.ensures.1 in
    rw (p.1, p.2) (first_fails g.B.Builder.wants _ _ _ _ (splits_at_negation _ c.args.level _ c.requires) c.in_err-first.ensures)

pub logical-returns-then-at_operator : goal.logical-returns-then-at_operator
logical-returns-then-at_operator g t c =
    then_makes g.B.Builder.is_expr g.B.Builder.wants _ _ _ _ _ _ _ (splits_at_negation _ c.args.level _ c.requires)
    c.in_ok-first.ensures c.after_negation.ensures

pub logical-returns : goal.logical-returns
logical-returns g t c =
    let none = sym c.at_operator.ensures ∙ c.if-at_operator.false in
    then_nothing g.B.Builder.is_expr _ _ _ _ _ (splits_at_negation _ c.args.level _ c.requires) c.in_ok-first.ensures
    (λ a. negation_ends _ c.args.level a _ none)

pub chain-loop-op-init : goal.chain-loop-op-init
chain-loop-op-init g t c = λ a h. loop_begins _ _ a _ h

pub chain-returns-in_err-left : goal.chain-returns-in_err-left
chain-returns-in_err-left g t c = λ a h.
    let p = err_from_is_err_and c.from_residual.result c.from_residual.ensures.1 in
    let l = c.loop-op.invariant a h in
    rw (p.1, p.2) (operator_fails g.B.Builder.wants _ _ _ _ _ _ _ l c.in-Some.ensures (c.in_err-left.ensures l.syntax l.same))

pub chain-loop-op-smaller : goal.chain-loop-op-smaller
chain-loop-op-smaller g t c =
    let l = c.loop-op.invariant c.requires.made.0 c.requires.made.1 in
    let part = of_level (expression c.args.depth) c.args.part in
    let taken = ap length c.in-Some.ensures.1 in
    let less : length (tokens c.joined.new.self.rest.now) < length (tokens c.operator.new.self.rest.now) =
    joined_shorter c.in-Some.op l.syntax part _ _ (level_shorter c.args.depth c.args.part _) (c.in_ok-left.ensures l.syntax l.same) in
    omega (arith, taken, less)

pub chain-loop-op-preserved : goal.chain-loop-op-preserved
chain-loop-op-preserved g t c = λ a h.
    let l = c.loop-op.invariant a h in
    operator_more _ _ _ _ _ _ _ (level_shorter c.args.depth c.args.part _) l c.in-Some.ensures (c.in_ok-left.ensures l.syntax l.same)

pub chain-returns : goal.chain-returns
chain-returns g t c = λ a h. operator_leaves _ _ _ _ _ (c.loop-op.invariant a h) c.in_default.ensures

pub joined-returns : goal.joined-returns
joined-returns g t c = λ a h.
    let right = c.in_ok-right.ensures in
    made g.B.Builder.is_expr g.B.Builder.wants _ _ _ _ _ (ap (joined c.args.op a) right.found)
    (c.binary.ensures.made a right.syntax h right.same) c.binary.ensures.fault c.built.ensures.made c.built.ensures.fault
