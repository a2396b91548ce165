use Rattle.std.proofs.Common.{◌+◌, ◌∙◌, subst}
use Rattle.pb_code.specs.View.{labels_view}
use Rattle.pb_history.specs.Entries.{picks_of}
use Rattle.pb_history.specs.Positions.{IsAfterBy}
use Rattle.pb_debug_positions.specs.Searches.{arm_line_at}
use Rattle.pb_debug_positions.proofs.Searches.{line_here}
use Rattle.pb_debug_stops.proofs.StopLemmas.{differ_lines}
use Rattle.pb_debug_stops.proofs.stops.moves.Goals as goal

pub returns-clause-moves : goal.returns-clause-moves
returns-clause-moves c =
    let v = c.args.verified.now in
    let labels = labels_view c.args.labels.now in
    let picks = picks_of c.args.trace.now.entries in
    let at = c.args.walker.now.at in
    let next = c.advance.new.self in
    let lending = c.requires.walks.0 in
    let here = c.requires.walks.1 in
    let there : IsAfterBy lending v picks (at + 1) next.machine =
    subst (λ n. IsAfterBy lending v picks n next.machine) c.advance.ensures.at (c.advance.ensures.walks lending here).stands in
    differ_lines c.differ.result c.line_of_arm-before.result c.line_of_arm-after.result
    (arm_line_at v.code labels picks at c.args.p c.args.arm) (arm_line_at v.code labels picks (at + 1) c.args.p c.args.arm)
    (c.line_of_arm-before.ensures ∙ line_here v labels picks at c.args.p c.args.arm c.args.walker.now.machine here.stands)
    (c.line_of_arm-after.ensures ∙ line_here v labels picks (at + 1) c.args.p c.args.arm next.machine there)
    c.differ.ensures

pub returns-clause-walks : goal.returns-clause-walks
returns-clause-walks c = (c.requires.walks.0, c.advance.ensures.walks c.requires.walks.0 c.requires.walks.1)
