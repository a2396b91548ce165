use Rattle.std.proofs.lemmas.Grind.{common_steps}
use Rattle.std.proofs.Common.{◌<◌, ◌≤◌, refl, length, get_or, arith, rules}
use Rattle.pb_code.specs.declared.format.Format.TheVariants.{Two}
use Rattle.pb_object.specs.Objects.{process_text}
use Rattle.pb_code.specs.View.{code_view, labels_view, process_view}
use Rattle.pb_object.proofs.WrittenRows.{opening, empty, row_of, labels_at, width_at, next_text, finished, count_of}
use Rattle.pb_object.proofs.writer.write_object2.Goals as goal

pub put_labelled_process-requires-clause-width : goal.put_labelled_process-requires-clause-width
put_labelled_process-requires-clause-width c =
    let code = c.args.code.now in
    let o = c.requires.0 in
    let is = c.requires.1 in
    let count = count_of process_view code.processes.items o (code_view code) is.says_code refl in
    let end = c.len-p-end.ensures in
    width_at o (code_view code) c.loop-p.p is.good is.says_code (let t = c.loop-p-test.true in omega (arith, count, end))

pub put_labelled_process-requires-clause-row : goal.put_labelled_process-requires-clause-row
put_labelled_process-requires-clause-row c =
    let code = c.args.code.now in
    let o = c.requires.0 in
    let is = c.requires.1 in
    let count = count_of process_view code.processes.items o (code_view code) is.says_code refl in
    let end = c.len-p-end.ensures in
    let lt : c.loop-p.p < length o.processes = (let t = c.loop-p-test.true in omega (arith, count, end)) in (
      get_or o.processes c.loop-p.p empty,
      row_of o (code_view code) c.loop-p.p is.says_code lt,
      labels_at o
          (labels_view c.args.labels.now) c.loop-p.p is.says_labels lt,
    )

pub loop-p-preserved : goal.loop-p-preserved
loop-p-preserved c = λ o is are.
    let code = c.args.code.now in
    let count = count_of process_view code.processes.items o (code_view code) is refl in
    let end = c.len-p-end.ensures in
    let lt : c.loop-p.p < length o.processes = (let t = c.loop-p-test.true in omega (arith, count, end)) in
    let row = get_or o.processes c.loop-p.p empty in
    next_text (process_text Two) o.processes c.loop-p.p empty (opening Two o) c.loop-p.out.items _ lt (c.loop-p.invariant o is are)
    (c.in_ok-put_labelled_process.ensures row (row_of o (code_view code) c.loop-p.p is lt) (labels_at o (labels_view c.args.labels.now) c.loop-p.p are lt))

pub returns : goal.returns
returns c =
    let code = c.args.code.now in
    let o = c.requires.0 in
    let is = c.requires.1 in
    let count = count_of process_view code.processes.items o (code_view code) is.says_code refl in
    let end = c.len-p-end.ensures in
    let le : length o.processes ≤ c.loop-p.p = (let t = c.loop-p-test.false in omega (arith, count, end)) in
    (o, is, finished Two o c.loop-p.out.items c.loop-p.p is.is_format le (c.loop-p.invariant o is.says_code is.says_labels))

pub put_opening-requires : goal.put_opening-requires
put_opening-requires c = grind (arith, common_steps) steps 400000

pub loop-p-init : goal.loop-p-init
loop-p-init c = grind (arith, rules, common_steps)

pub put_labelled_process-requires-clause-name : goal.put_labelled_process-requires-clause-name
put_labelled_process-requires-clause-name c = grind (arith, common_steps)

pub put_labelled_process-requires-clause-labels : goal.put_labelled_process-requires-clause-labels
put_labelled_process-requires-clause-labels c = grind (arith, common_steps)

pub put_labelled_process-requires-clause-claims : goal.put_labelled_process-requires-clause-claims
put_labelled_process-requires-clause-claims c = grind (arith, common_steps)
