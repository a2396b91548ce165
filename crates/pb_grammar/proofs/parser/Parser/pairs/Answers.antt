use Rattle.std.proofs.Common.{[], length, ap, arith}
use Rattle.std.proofs.lemmas.Result.{err_from_is_err_and}
use Rattle.pb_lexer.specs.declared.token.Mark.TheVariants as mark
use Rattle.pb_grammar.specs.StatementReader.{concat, a_pair}
use Rattle.pb_grammar.proofs.Chains.{fails_through}
use Rattle.pb_grammar.proofs.Loops.{a_pair_shorter, loop_more, loop_fails, loop_leaves}
use Rattle.pb_grammar.proofs.Steps.{pairs_enter, pairs_refused}
use Rattle.pb_grammar.proofs.parser.Parser.pairs.Goals as goal

pub returns-in_err-add_pair : goal.returns-in_err-add_pair
returns-in_err-add_pair g c =
    let p = err_from_is_err_and c.from_residual-in_err-add_pair.result c.from_residual-in_err-add_pair.ensures.1 in
    rw (p.1, p.2) (fails_through g.B.Builder.wants _ c.in_err-add_pair.ensures (pairs_refused _))

pub loop-self-init : goal.loop-self-init
loop-self-init g c =
    let f = c.in_ok-add_pair.ensures in
    pairs_enter _ _ f.syntax f.found (f.same [] c.in_ok-found.ensures.made)

pub returns-in_err-add_pair-2 : goal.returns-in_err-add_pair-2
returns-in_err-add_pair-2 g c =
    let p = err_from_is_err_and c.from_residual-in_err-add_pair-2.result c.from_residual-in_err-add_pair-2.ensures.1 in
    rw (p.1, p.2) (fails_through g.B.Builder.wants _ c.in_err-add_pair-2.ensures
    (λ none. loop_fails mark.Comma concat a_pair _ _ _ c.loop-self.invariant c.loop-self-test.ensures none))

pub loop-self-smaller : goal.loop-self-smaller
loop-self-smaller g c =
    let taken = c.loop-self-test.ensures in
    let e = ap length taken.1 in
    let less = a_pair_shorter _ _ _ c.in_ok-add_pair-2.ensures.found in
    omega (arith, e, less)

pub loop-self-preserved : goal.loop-self-preserved
loop-self-preserved g c =
    let f = c.in_ok-add_pair-2.ensures in
    loop_more mark.Comma concat a_pair _ _ _ _ f.syntax c.loop-self.invariant c.loop-self-test.ensures f.found
    (a_pair_shorter _ _ _ f.found) f.same

pub returns : goal.returns
returns g c = loop_leaves mark.Comma concat a_pair _ _ _ c.loop-self.invariant c.loop-self-test.ensures
