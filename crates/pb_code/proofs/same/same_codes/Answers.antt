use Rattle.std.proofs.Common.{◌≡◌, ◌<◌, map, length, true, false, refl, ap, arith}
use Rattle.std.specs.Prelude.{slice_get}
use Rattle.std.proofs.lemmas.List.{length-map}
use Rattle.pb_code.specs.View.{process_view}
use Rattle.pb_code.proofs.ListElements.{alike_all, alike_more, alike_read, read_alike, read_mapped}
use Rattle.pb_code.proofs.same.same_codes.Goals as goal

pub returns-then-not-same_code : goal.returns-then-not-same_code
returns-then-not-same_code c =
    let there : c.loop-p.p < length c.args.others.now = omega arith in
    let one = read_mapped process_view c.args.codes.now c.loop-p.p c.index-codes-p.result (omega arith) c.index-codes-p.is in
    let two = read_mapped process_view c.args.others.now c.loop-p.p c.index-others-p.result there c.index-others-p.is in
    (λ e. let wrong : false ≡ true = e in cc, λ e. c.if-not-same_code.ensures.1 (read_alike _ _ c.loop-p.p _ _ one two (ap (λ xs. slice_get xs c.loop-p.p) e)))

pub loop-p-preserved : goal.loop-p-preserved
loop-p-preserved c =
    let codes = map process_view c.args.codes.now in
    let others = map process_view c.args.others.now in
    let there : c.loop-p.p < length c.args.others.now = omega arith in
    let one = read_mapped process_view c.args.codes.now c.loop-p.p c.index-codes-p.result (omega arith) c.index-codes-p.is in
    let two = read_mapped process_view c.args.others.now c.loop-p.p c.index-others-p.result there c.index-others-p.is in
    alike_more codes others c.loop-p.p c.loop-p.invariant (alike_read codes others c.loop-p.p _ _ one two (c.if-not-same_code.ensures.0 refl))

pub returns : goal.returns
returns c =
    let n = length-map c.args.codes.now process_view in
    let m = length-map c.args.others.now process_view in (
      λ e. alike_all (map process_view c.args.codes.now) (map process_view c.args.others.now) c.loop-p.p (omega (
        arith,
        n,
        m,
      )) (omega (arith, n)) c.loop-p.invariant,
      λ e. refl,
    )
