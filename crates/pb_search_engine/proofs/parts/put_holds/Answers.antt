use Rattle.std.proofs.Common.{refl}
use Rattle.std.specs.Prelude.{slice_index_or}
use Rattle.pb_search_engine.specs.Parts.{holds_part}
use Rattle.pb_search_engine.proofs.PartLemmas.{collected_more}
use Rattle.pb_search_engine.proofs.parts.put_holds.Goals as goal

pub loop-r-preserved : goal.loop-r-preserved
loop-r-preserved c =
    collected_more (λ r. holds_part c.args.process r (slice_index_or c.args.holds.now r 0)) c.loop-r.r
    (holds_part c.args.process c.loop-r.r (slice_index_or c.args.holds.now c.loop-r.r 0)) c.args.parts.now.items c.loop-r.parts.items _ refl
    c.loop-r.invariant c.in_ok-put_hold.ensures
