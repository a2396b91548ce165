use Rattle.std.proofs.Common.{◌≤◌, List, length, sym, ap, ◌∙◌, subst}
use Rattle.pb_base.specs.declared.pick.Pick.{Pick}
use Rattle.pb_debug_positions.specs.Intervals.{interval_of}
use Rattle.pb_debug.proofs.debugger.Debugger.from_object.Goals as goal

pub of_replaying-requires-clause-few : goal.of_replaying-requires-clause-few
of_replaying-requires-clause-few c =
    subst (λ (ps : List Pick). length ps ≤ 10000000) (sym c.in_ok-replaying.ensures.picks) c.requires.few

pub of_replaying-requires-clause-interval : goal.of_replaying-requires-clause-interval
of_replaying-requires-clause-interval c =
    c.in_ok-replaying.ensures.interval ∙ ap (λ (ps : List Pick). interval_of (length ps)) (sym c.in_ok-replaying.ensures.picks)
