use Rattle.std.proofs.Common.{ℕ, length, subst}
use Rattle.pb_code.specs.View.{labels_view}
use Rattle.pb_history.specs.Entries.{picks_of}
use Rattle.pb_debug_positions.specs.Searches.{IsFirst}
use Rattle.pb_debug_stops.specs.Stops.{Arrives}
use Rattle.pb_debug.specs.Value.{Debugging}
use Rattle.pb_debug.proofs.debugger.Debugger.next_stop.Goals as goal

pub returns : goal.returns
returns c =
    let d = c.args.self.now in
    let i = c.self.inside in
    let picks = picks_of i.trace.entries in
    let found = c.first_arrival.result in
    let holds : ℕ → Type 0 = Arrives i.verified.now.code (labels_view i.labels.now) picks c.args.lines.now in
    let first = subst (λ (n : ℕ). IsFirst holds n (length picks) found) c.in_ok-walker.ensures.at c.first_arrival.ensures in
    subst (λ (x : Debugging). IsFirst (Arrives x.verified.code x.labels x.picks c.args.lines.now) d.position (length x.picks) found) c.self.view_is first
