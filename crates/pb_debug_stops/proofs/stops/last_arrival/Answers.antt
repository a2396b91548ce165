use Rattle.std.proofs.Common.{◌≡◌, ℕ, subst, arith}
use Rattle.pb_code.specs.View.{labels_view}
use Rattle.pb_history.specs.Entries.{picks_of}
use Rattle.pb_debug_positions.specs.Searches.{IsLast}
use Rattle.pb_debug_stops.specs.Stops.{Arrives}
use Rattle.pb_debug_stops.proofs.StopLemmas.{last_not_here}
use Rattle.pb_debug_positions.proofs.Searches.{not_true}
use Rattle.pb_debug_stops.proofs.stops.last_arrival.Goals as goal

pub loop-walker-preserved : goal.loop-walker-preserved
loop-walker-preserved c =
    let inv = c.loop-walker.invariant in
    let at = c.loop-walker.walker.at in
    let later = inv.later in
    let test = c.loop-walker-test.true in
    let next = c.arrives_next.ensures.at in
    let holds : ℕ → Type 0 =
    Arrives c.args.verified.now.code (labels_view c.args.labels.now) (picks_of c.args.trace.now.entries) c.args.lines.now in
    record {
      walks = c.arrives_next.ensures.walks;
      behind = c.arrives_next.ensures.behind;
      together = c.arrives_next.ensures.together;
      later = omega (arith, later, next);
      within = omega (arith, test, next);
      last = last_not_here holds c.args.walker.now.at at c.arrives_next.new.walker.at c.loop-walker.last next inv.last
          (λ does. not_true c.arrives_next.result c.if-arrives_next.false (c.arrives_next.ensures.arrives.1 does));
    }

pub returns : goal.returns
returns c =
    let inv = c.loop-walker.invariant in
    let test = c.loop-walker-test.false in
    let within = inv.within in
    let same : c.loop-walker.walker.at ≡ c.args.past = omega (arith, test, within) in
    subst (λ n. IsLast (Arrives c.args.verified.now.code (labels_view c.args.labels.now) (picks_of c.args.trace.now.entries) c.args.lines.now) c.args.walker.now.at n c.loop-walker.last)
    same inv.last
