use Rattle.std.proofs.Common.{ℕ, subst}
use Rattle.pb_code.specs.View.{labels_view}
use Rattle.pb_history.specs.Entries.{picks_of}
use Rattle.pb_debug_positions.specs.Searches.{IsLast}
use Rattle.pb_debug_stops.specs.Stops.{Moves}
use Rattle.pb_debug.specs.Value.{Debugging}
use Rattle.pb_debug.proofs.debugger.Debugger.last_move_between.Goals as goal

pub returns : goal.returns
returns c =
    let i = c.self.inside in
    let end = c.args.end in
    let found = c.last_move.result in
    let holds : ℕ → Type 0 = Moves i.verified.now.code (labels_view i.labels.now) (picks_of i.trace.entries) c.args.p c.args.arm in
    let last = subst (λ (n : ℕ). IsLast holds n end found) c.in_ok-walker.ensures.at c.last_move.ensures in
    subst (λ (d : Debugging). IsLast (Moves d.verified.code d.labels d.picks c.args.p c.args.arm) c.args.start end found) c.self.view_is last
