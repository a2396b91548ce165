use Rattle.std.proofs.Common.{refl}
use Rattle.std.specs.Prelude.{slice_index_or, []}
use Rattle.pb_verifier.specs.Given.{instrs_of}
use Rattle.pb_verifier.proofs.Chains.{chain_step}
use Rattle.pb_verifier.proofs.holdings.same_holds.Goals as goal

pub loop-left-preserved : goal.loop-left-preserved
loop-left-preserved c =
    let s = chain_step (instrs_of c.args.code.now) c.args.table.now c.loop-left.left c.loop-left.a c.loop-left.b
    (slice_index_or c.args.code.now.bundles.items c.taken_at.result []) (slice_index_or
    c.args.code.now.bundles.items c.taken_at-in-loop-left.result []) c.before-a.result c.before-b.result
    c.loop-left-test.true c.loop-left.invariant.one c.loop-left.invariant.two c.taken_at.ensures
    c.taken_at-in-loop-left.ensures (c.if-not-same_bundle.ensures.0 refl) c.before-a.ensures c.before-b.ensures
    in
    record { one = s.0; two = s.1; same = (λ e. c.loop-left.invariant.same.0 (s.2.0 e), λ e. s.2.1 (c.loop-left.invariant.same.1 e)) }
