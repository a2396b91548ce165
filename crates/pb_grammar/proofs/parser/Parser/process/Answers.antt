use Rattle.pb_grammar.specs.StatementReader.{concat}
use Rattle.pb_grammar.specs.Making.{Adds}
use Rattle.std.proofs.lemmas.Result.{err_from_is_err_and}
use Rattle.pb_grammar.proofs.Chains.{fails_through_plain, made}
use Rattle.pb_grammar.proofs.Steps.{process_open, process_steps}
use Rattle.pb_grammar.proofs.parser.Parser.process.Goals as goal

pub returns-in_err-expect-2 : goal.returns-in_err-expect-2
returns-in_err-expect-2 g c =
    let p = err_from_is_err_and c.from_residual-in_err-expect-2.result c.from_residual-in_err-expect-2.ensures.1 in
    rw (p.1, p.2) (fails_through_plain g.B.Builder.wants _ c.in_err-expect-2.ensures (process_open _ _ _ _ _ _ _ _ _
    c.in_ok-name.ensures c.in_ok-expect.ensures c.in_ok-integers.ensures.found c.in_ok-body.ensures.found))

pub returns : goal.returns
returns g c =
    let xs = c.in_ok-integers.ensures in
    let a = c.in_ok-body.ensures in
    let same = c.add_process.ensures.made xs.syntax a.syntax xs.same a.same in
    made (λ _. Adds g.B.Builder.is_processes concat c.args.out.now c.add_process.new.out) g.B.Builder.wants _ _ _ _ _
    (process_steps _ _ _ _ _ _ _ _ xs.syntax a.syntax c.in_ok-name.ensures c.in_ok-expect.ensures xs.found a.found c.in_ok-expect-2.ensures)
    (rw (c.text-text.ensures, c.start-at.ensures) at same) c.add_process.ensures.fault c.built.ensures.made c.built.ensures.fault
