use Rattle.std.proofs.Common.{length, ap, arith}
use Rattle.std.proofs.lemmas.Result.{err_from_is_err_and}
use Rattle.pb_lexer.specs.declared.token.Mark.TheVariants as mark
use Rattle.pb_grammar.specs.StatementReader.{concat}
use Rattle.pb_grammar.specs.ProgramReader.{a_resource}
use Rattle.pb_grammar.proofs.Chains.{fails_through}
use Rattle.pb_grammar.proofs.Loops.{loop_more, loop_fails, loop_leaves}
use Rattle.pb_grammar.proofs.ProgramLaws.{a_resource_shorter}
use Rattle.pb_grammar.proofs.Steps.{resources_enter}
use Rattle.pb_grammar.proofs.parser.Parser.resources.Goals as goal

pub loop-self-init : goal.loop-self-init
loop-self-init g c = resources_enter _ c.in_ok-found.ensures.made

pub returns-in_err-add_resource : goal.returns-in_err-add_resource
returns-in_err-add_resource g c =
    let p = err_from_is_err_and c.from_residual-in_err-add_resource.result c.from_residual-in_err-add_resource.ensures.1 in
    rw (p.1, p.2) (fails_through g.B.Builder.wants _ c.in_err-add_resource.ensures
    (λ none. loop_fails mark.Resource concat a_resource _ _ _ c.loop-self.invariant c.loop-self-test.ensures none))

pub loop-self-smaller : goal.loop-self-smaller
loop-self-smaller g c =
    let taken = c.loop-self-test.ensures in
    let e = ap length taken.1 in
    let less = a_resource_shorter _ _ _ c.in_ok-add_resource.ensures.found in
    omega (arith, e, less)

pub loop-self-preserved : goal.loop-self-preserved
loop-self-preserved g c =
    let f = c.in_ok-add_resource.ensures in
    loop_more mark.Resource concat a_resource _ _ _ _ f.syntax c.loop-self.invariant c.loop-self-test.ensures f.found
    (a_resource_shorter _ _ _ f.found) f.same

pub returns : goal.returns
returns g c = loop_leaves mark.Resource concat a_resource _ _ _ c.loop-self.invariant c.loop-self-test.ensures
