use Rattle.std.proofs.Common.{◌+◌, ℕ, subst}
use Rattle.pb_code.specs.View.{labels_view}
use Rattle.pb_history.specs.Entries.{picks_of}
use Rattle.pb_history.specs.Positions.{IsAfterBy}
use Rattle.pb_debug_stops.proofs.StopLemmas.{arrives_here}
use Rattle.pb_debug_stops.proofs.stops.arrives_next.Goals as goal

pub returns-clause-walks : goal.returns-clause-walks
returns-clause-walks c = (c.requires.walks.0, c.advance.ensures.walks c.requires.walks.0 c.requires.walks.1)

pub returns-clause-behind : goal.returns-clause-behind
returns-clause-behind c = (c.requires.behind.0, c.advance-2.ensures.walks c.requires.behind.0 c.requires.behind.1)

pub returns-clause-arrives : goal.returns-clause-arrives
returns-clause-arrives c =
    let v = c.args.verified.now in
    let picks = picks_of c.args.trace.now.entries in
    let at = c.args.walker.now.at in
    let before = c.args.behind.now in
    let after = c.advance.new.self in
    let one = c.requires.behind.0 in
    let other = c.requires.walks.0 in
    let here : IsAfterBy one v picks at before.machine =
    subst (λ (n : ℕ). IsAfterBy one v picks n before.machine) c.requires.together c.requires.behind.1.stands in
    let there : IsAfterBy other v picks (at + 1) after.machine =
    subst (λ (n : ℕ). IsAfterBy other v picks n after.machine) c.advance.ensures.at (c.advance.ensures.walks other c.requires.walks.1).stands in
    arrives_here v (labels_view c.args.labels.now) picks at c.from-p.result c.args.lines.now c.pick-pick.result c.pick-pick.ensures
    c.from-p.ensures before.machine after.machine c.arrives-found.result here there c.arrives-found.ensures
