use Rattle.std.proofs.Common.{◌≡◌, true, false, refl, arith}
use Rattle.std.proofs.lemmas.List.{length-map}
use Rattle.pb_object.specs.Formats.{IsSingle}
use Rattle.pb_code.specs.View.{instr_view, process_view}
use Rattle.pb_code.proofs.ListElements.{each_more, each_all, read_mapped}
use Rattle.pb_object.proofs.first.are_single.Goals as goal

pub returns-then-not-is_single : goal.returns-then-not-is_single
returns-then-not-is_single c =
    let code = c.args.code.now in
    let read = read_mapped (instr_view code.bundles.items) code.instrs.items c.loop-i.i c.index.result.now (omega arith) c.index.ensures in
    (λ e. let wrong : false ≡ true = e in cc, λ all. c.if-not-is_single.ensures.1 (all c.loop-i.i _ read))

pub loop-i-preserved : goal.loop-i-preserved
loop-i-preserved c =
    let code = c.args.code.now in
    let read = read_mapped (instr_view code.bundles.items) code.instrs.items c.loop-i.i c.index.result.now (omega arith) c.index.ensures in
    each_more (process_view code).instrs c.loop-i.i _ (λ _ i. IsSingle i) read c.loop-i.invariant (c.if-not-is_single.ensures.0 refl)

pub returns : goal.returns
returns c =
    let code = c.args.code.now in
    let n = length-map code.instrs.items (instr_view code.bundles.items) in
    (λ _. each_all (process_view code).instrs c.loop-i.i (λ _ i. IsSingle i) (omega (arith, n)) c.loop-i.invariant, λ _. refl)
