use Rattle.std.proofs.Common.{◌*◌, ◌/◌, ◌<◌, ◌≤◌, length, arith, refl, ◌∙◌, subst}
use Rattle.std.proofs.lemmas.Option.{slice_get_read}
use Rattle.std.proofs.Math.Nat.{div-lt_iff_lt-mul}
use Rattle.pb_history.specs.Entries.{picks_of}
use Rattle.pb_debug_positions.specs.Walks.{WalksBy}
use Rattle.pb_debug_positions.proofs.Walks.{interval_some}
use Rattle.pb_debug.specs.Value.{Debugging}
use Rattle.pb_debug.proofs.debugger.Debugger.walker_at.Goals as goal

pub walk_to-requires-clause-walks : goal.walk_to-requires-clause-walks
walk_to-requires-clause-walks c =
    let i = c.self.inside in
    let entries = i.trace.entries in
    let k = c.args.position / i.interval in
    let some : 0 < i.interval = interval_some (length (picks_of entries)) i.interval c.self.invariant.spaced in
    let le : c.args.position ≤ length (picks_of entries) = rw (← c.self.view_is) at c.requires in
    let before : c.args.position < length i.checkpoints.items * i.interval = let e = c.self.invariant.enough in omega (arith, e, le) in
    let within : k < length i.checkpoints.items = (div-lt_iff_lt-mul some).1 before in
    let there = slice_get_read i.checkpoints.items (length i.checkpoints.items) k c.index.result.now refl within c.index.ensures in
    let at = (c.self.invariant.checkpoints k c.index.result.now there).stands in (
      i.lending,
      record {
        enabled = c.self.invariant.enabled;
        stands = record {
          machine = c.in_ok-machine.ensures.machine i.lending i.verified.now at.machine;
          state = c.in_ok-machine.ensures.state ∙ at.state;
        };
      },
    )

pub returns-clause-walks : goal.returns-clause-walks
returns-clause-walks c =
    let i = c.self.inside in
    let entries = i.trace.entries in
    let k = c.args.position / i.interval in
    let some : 0 < i.interval = interval_some (length (picks_of entries)) i.interval c.self.invariant.spaced in
    let le : c.args.position ≤ length (picks_of entries) = rw (← c.self.view_is) at c.requires in
    let before : c.args.position < length i.checkpoints.items * i.interval = let e = c.self.invariant.enough in omega (arith, e, le) in
    let within : k < length i.checkpoints.items = (div-lt_iff_lt-mul some).1 before in
    let there = slice_get_read i.checkpoints.items (length i.checkpoints.items) k c.index.result.now refl within c.index.ensures in
    let at = (c.self.invariant.checkpoints k c.index.result.now there).stands in
    let walks = c.walk_to.ensures.walks i.lending (record {
      enabled = c.self.invariant.enabled;
      stands = record {
        machine = c.in_ok-machine.ensures.machine i.lending i.verified.now at.machine;
        state = c.in_ok-machine.ensures.state ∙ at.state;
      };
    }) in
    subst (λ (d : Debugging). WalksBy d.lending d.verified d.picks c.walk_to.new.self) c.self.view_is walks

pub returns-clause-at : goal.returns-clause-at
returns-clause-at c = search depth 0
