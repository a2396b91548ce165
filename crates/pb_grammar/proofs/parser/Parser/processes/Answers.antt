use Rattle.std.proofs.Common.{[], length, ap, arith}
use Rattle.std.proofs.lemmas.Result.{err_from_is_err_and}
use Rattle.pb_lexer.specs.declared.token.Mark.TheVariants as mark
use Rattle.pb_grammar.specs.StatementReader.{concat}
use Rattle.pb_grammar.specs.ProgramReader.{a_process}
use Rattle.pb_grammar.proofs.Chains.{fails_through, fails_through_plain}
use Rattle.pb_grammar.proofs.Loops.{loop_more, loop_fails, loop_leaves}
use Rattle.pb_grammar.proofs.ProgramLaws.{a_process_shorter}
use Rattle.pb_grammar.proofs.Steps.{processes_enter, processes_refused, processes_fail}
use Rattle.pb_grammar.proofs.parser.Parser.processes.Goals as goal

pub returns-in_err-expect : goal.returns-in_err-expect
returns-in_err-expect g c =
    let p = err_from_is_err_and c.from_residual-in_err-expect.result c.from_residual-in_err-expect.ensures.1 in
    rw (p.1, p.2) (fails_through_plain g.B.Builder.wants _ c.in_err-expect.ensures (processes_refused _ _))

pub returns-in_err-process : goal.returns-in_err-process
returns-in_err-process g c =
    let p = err_from_is_err_and c.from_residual-in_err-process.result c.from_residual-in_err-process.ensures.1 in
    rw (p.1, p.2) (fails_through g.B.Builder.wants _ c.in_err-process.ensures (processes_fail c.args.depth _ _ c.in_ok-expect.ensures))

pub loop-self-init : goal.loop-self-init
loop-self-init g c =
    let f = c.in_ok-process.ensures in
    processes_enter c.args.depth _ _ _ f.syntax c.in_ok-expect.ensures f.found (f.same [] c.in_ok-found.ensures.made)

pub returns-in_err-process-2 : goal.returns-in_err-process-2
returns-in_err-process-2 g c =
    let p = err_from_is_err_and c.from_residual-in_err-process-2.result c.from_residual-in_err-process-2.ensures.1 in
    rw (p.1, p.2) (fails_through g.B.Builder.wants _ c.in_err-process-2.ensures
    (λ none. loop_fails mark.Process concat (a_process c.args.depth) _ _ _ c.loop-self.invariant c.loop-self-test.ensures none))

pub loop-self-smaller : goal.loop-self-smaller
loop-self-smaller g c =
    let taken = c.loop-self-test.ensures in
    let e = ap length taken.1 in
    let less = a_process_shorter c.args.depth _ _ _ c.in_ok-process-2.ensures.found in
    omega (arith, e, less)

pub loop-self-preserved : goal.loop-self-preserved
loop-self-preserved g c =
    let f = c.in_ok-process-2.ensures in
    loop_more mark.Process concat (a_process c.args.depth) _ _ _ _ f.syntax c.loop-self.invariant c.loop-self-test.ensures f.found
    (a_process_shorter c.args.depth _ _ _ f.found) f.same

pub returns : goal.returns
returns g c = loop_leaves mark.Process concat (a_process c.args.depth) _ _ _ c.loop-self.invariant c.loop-self-test.ensures
