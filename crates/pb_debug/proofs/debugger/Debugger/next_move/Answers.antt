use Rattle.std.proofs.Common.{ℕ, length, subst}
use Rattle.pb_code.specs.View.{labels_view}
use Rattle.pb_history.specs.Entries.{picks_of}
use Rattle.pb_debug_positions.specs.Searches.{IsFirst}
use Rattle.pb_debug_stops.specs.Stops.{Moves}
use Rattle.pb_debug.specs.Value.{Debugging}
use Rattle.pb_debug.proofs.debugger.Debugger.next_move.Goals as goal

pub returns : goal.returns
returns c =
    let d = c.args.self.now in
    let i = c.self.inside in
    let picks = picks_of i.trace.entries in
    let found = c.first_move.result in
    let holds : ℕ → Type 0 = Moves i.verified.now.code (labels_view i.labels.now) picks c.args.p c.args.arm in
    let first = subst (λ (n : ℕ). IsFirst holds n (length picks) found) c.in_ok-walker.ensures.at c.first_move.ensures in
    subst (λ (x : Debugging). IsFirst (Moves x.verified.code x.labels x.picks c.args.p c.args.arm) d.position (length x.picks) found) c.self.view_is first
