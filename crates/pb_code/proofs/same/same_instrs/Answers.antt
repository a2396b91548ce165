use Rattle.std.proofs.Common.{◌≡◌, ◌<◌, length, true, false, refl, ap, arith}
use Rattle.std.specs.Prelude.{slice_get}
use Rattle.std.proofs.lemmas.List.{length-map}
use Rattle.pb_code.specs.View.{instr_view, process_view}
use Rattle.pb_code.proofs.ListElements.{alike_all, alike_more, alike_read, read_alike, read_mapped}
use Rattle.pb_code.proofs.same.same_instrs.Goals as goal

pub returns-then-not-same_instr : goal.returns-then-not-same_instr
returns-then-not-same_instr c =
    let code = c.args.code.now in
    let other = c.args.other.now in
    let there : c.loop-i.i < length other.instrs.items = omega arith in
    let one = read_mapped (instr_view code.bundles.items) code.instrs.items c.loop-i.i c.index.result.now (omega arith) c.index.ensures in
    let two = read_mapped (instr_view other.bundles.items) other.instrs.items c.loop-i.i c.index-in-loop-i.result.now there c.index-in-loop-i.ensures in
    (λ e. let wrong : false ≡ true = e in cc, λ e. c.if-not-same_instr.ensures.1 (read_alike _ _ c.loop-i.i _ _ one two (ap (λ xs. slice_get xs c.loop-i.i) e)))

pub loop-i-preserved : goal.loop-i-preserved
loop-i-preserved c =
    let code = c.args.code.now in
    let other = c.args.other.now in
    let there : c.loop-i.i < length other.instrs.items = omega arith in
    let one = read_mapped (instr_view code.bundles.items) code.instrs.items c.loop-i.i c.index.result.now (omega arith) c.index.ensures in
    let two = read_mapped (instr_view other.bundles.items) other.instrs.items c.loop-i.i c.index-in-loop-i.result.now there c.index-in-loop-i.ensures in
    alike_more (process_view code).instrs (process_view other).instrs c.loop-i.i c.loop-i.invariant
    (alike_read (process_view code).instrs (process_view other).instrs c.loop-i.i _ _ one two (c.if-not-same_instr.ensures.0 refl))

pub returns : goal.returns
returns c =
    let code = c.args.code.now in
    let other = c.args.other.now in
    let n = length-map code.instrs.items (instr_view code.bundles.items) in
    let m = length-map other.instrs.items (instr_view other.bundles.items) in
    (λ e. alike_all (process_view code).instrs (process_view other).instrs c.loop-i.i (omega (arith, n, m)) (omega (arith, n)) c.loop-i.invariant, λ e. refl)
