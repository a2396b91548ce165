use Rattle.std.proofs.Common.{◌<◌, ◌≤◌, refl, length, get_or, arith, rules}
use Rattle.std.proofs.lemmas.Grind.{common_steps}
use Rattle.pb_code.specs.declared.format.Format.TheVariants.{One}
use Rattle.pb_object.specs.Objects.{process_text}
use Rattle.pb_code.specs.View.{code_view, process_view}
use Rattle.pb_object.proofs.WrittenRows.{opening, empty, row_of, width_at, next_text, finished, count_of}
use Rattle.pb_object.proofs.writer.write_object.Goals as goal

pub put_process-requires-clause-width : goal.put_process-requires-clause-width
put_process-requires-clause-width c =
    let code = c.args.code.now in
    let o = c.requires.1.0 in
    let is = c.requires.1.1 in
    let count = count_of process_view code.processes.items o (code_view code) is.says_code refl in
    let end = c.len-p-end.ensures in
    width_at o (code_view code) c.loop-p.p is.good is.says_code (let t = c.loop-p-test.true in omega (arith, count, end))

pub loop-p-preserved : goal.loop-p-preserved
loop-p-preserved c = λ o is.
    let code = c.args.code.now in
    let count = count_of process_view code.processes.items o (code_view code) is refl in
    let end = c.len-p-end.ensures in
    let lt : c.loop-p.p < length o.processes = (let t = c.loop-p-test.true in omega (arith, count, end)) in
    let row = get_or o.processes c.loop-p.p empty in
    next_text (process_text One) o.processes c.loop-p.p empty (opening One o) c.loop-p.out.items _ lt (c.loop-p.invariant o is)
    (c.in_ok-put_process.ensures row (row_of o (code_view code) c.loop-p.p is lt))

pub returns : goal.returns
returns c =
    let code = c.args.code.now in
    let o = c.requires.1.0 in
    let is = c.requires.1.1 in
    let count = count_of process_view code.processes.items o (code_view code) is.says_code refl in
    let end = c.len-p-end.ensures in
    let le : length o.processes ≤ c.loop-p.p = (let t = c.loop-p-test.false in omega (arith, count, end)) in
    (c.requires.0, (o, is, finished One o c.loop-p.out.items c.loop-p.p is.is_format le (c.loop-p.invariant o is.says_code)))

pub put_opening-requires : goal.put_opening-requires
put_opening-requires c = grind (arith, common_steps) steps 400000

pub loop-p-init : goal.loop-p-init
loop-p-init c = grind (arith, rules, common_steps)

pub put_process-requires-clause-name : goal.put_process-requires-clause-name
put_process-requires-clause-name c = grind (arith, common_steps)

pub put_process-requires-clause-claims : goal.put_process-requires-clause-claims
put_process-requires-clause-claims c = grind (arith, rules, common_steps)

pub drop-out-requires-in_err-put_process : goal.drop-out-requires-in_err-put_process
drop-out-requires-in_err-put_process c κs = search rules

pub returns-in_err-put_process : goal.returns-in_err-put_process
returns-in_err-put_process c = grind (arith, common_steps) steps 400000
