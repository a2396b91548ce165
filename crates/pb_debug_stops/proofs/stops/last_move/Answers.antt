use Rattle.std.proofs.Common.{◌≡◌, ℕ, subst, arith}
use Rattle.pb_code.specs.View.{labels_view}
use Rattle.pb_history.specs.Entries.{picks_of}
use Rattle.pb_debug_positions.specs.Searches.{IsLast}
use Rattle.pb_debug_stops.specs.Stops.{Moves}
use Rattle.pb_debug_stops.proofs.StopLemmas.{last_not_here}
use Rattle.pb_debug_positions.proofs.Searches.{not_true}
use Rattle.pb_debug_stops.proofs.stops.last_move.Goals as goal

pub loop-walker-preserved : goal.loop-walker-preserved
loop-walker-preserved c =
    let inv = c.loop-walker.invariant in
    let at = c.loop-walker.walker.at in
    let later = inv.later in
    let test = c.loop-walker-test.true in
    let next = c.moves.ensures.at in
    let holds : ℕ → Type 0 =
    Moves c.args.verified.now.code (labels_view c.args.labels.now) (picks_of c.args.trace.now.entries) c.args.p c.args.arm in
    record {
      walks = c.moves.ensures.walks;
      later = omega (arith, later, next);
      within = omega (arith, test, next);
      last = last_not_here holds c.args.walker.now.at at c.moves.new.walker.at c.loop-walker.last next inv.last
          (λ does. not_true c.moves.result c.if-moves.false (c.moves.ensures.moves.1 does));
    }

pub returns : goal.returns
returns c =
    let inv = c.loop-walker.invariant in
    let test = c.loop-walker-test.false in
    let within = inv.within in
    let same : c.loop-walker.walker.at ≡ c.args.past = omega (arith, test, within) in
    subst (λ n. IsLast (Moves c.args.verified.now.code (labels_view c.args.labels.now) (picks_of c.args.trace.now.entries) c.args.p c.args.arm) c.args.walker.now.at n c.loop-walker.last)
    same inv.last
