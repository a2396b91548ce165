use Rattle.std.proofs.lemmas.Result.{err_from_is_err_and}
use Rattle.pb_object.specs.Rows.{object_row}
use Rattle.pb_code.specs.View.{code_view, labels_view}
use Rattle.pb_object.proofs.FoundObjects.{answer_takes, rows_spelled, only_answer, err_only}
use Rattle.pb_object.proofs.FaultLaws.{rows_placed}
use Rattle.pb_object.proofs.FirstToSecond.{has_text}
use Rattle.pb_object.proofs.object.read_any.Goals as goal

pub returns-in_err-rows-clause-only : goal.returns-in_err-rows-clause-only
returns-in_err-rows-clause-only c =
    let p = err_from_is_err_and c.from_residual.result c.from_residual.ensures.1 in
    rw (p.1, p.2) (err_only c.args.text.now c.in_err-rows.field-0.0 c.in_err-rows.ensures.rows)

pub assemble-requires-clause-good : goal.assemble-requires-clause-good
assemble-requires-clause-good c = (answer_takes c.args.text.now (object_row c.in_ok-rows.rows) c.in_ok-rows.ensures.rows).0

pub returns-clause-found : goal.returns-clause-found
returns-clause-found c =
    rows_spelled c.args.text.now c.in_ok-rows.rows (code_view c.in_ok-object.object.0) (labels_view c.in_ok-object.object.1) c.in_ok-rows.ensures.rows
    c.in_ok-object.ensures.code c.in_ok-object.ensures.labels

pub returns-clause-writable : goal.returns-clause-writable
returns-clause-writable c =
    has_text (object_row c.in_ok-rows.rows) (code_view c.in_ok-object.object.0) (labels_view c.in_ok-object.object.1)
    (answer_takes c.args.text.now (object_row c.in_ok-rows.rows) c.in_ok-rows.ensures.rows).0 c.in_ok-object.ensures.code c.in_ok-object.ensures.labels

pub returns-clause-only : goal.returns-clause-only
returns-clause-only c =
    only_answer c.args.text.now (object_row c.in_ok-rows.rows) c.in_ok-object.object c.in_ok-rows.ensures.rows
    c.in_ok-object.ensures.code c.in_ok-object.ensures.labels

pub returns-in_err-rows-clause-place : goal.returns-in_err-rows-clause-place
returns-in_err-rows-clause-place c =
    let p = err_from_is_err_and c.from_residual.result c.from_residual.ensures.1 in
    rw (p.1, p.2) (rows_placed c.args.text.now c.in_err-rows.field-0.0 c.in_err-rows.ensures.rows)
