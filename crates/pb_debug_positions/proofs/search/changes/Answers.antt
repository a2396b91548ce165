use Rattle.std.proofs.Common.{◌+◌, ◌∙◌, subst}
use Rattle.pb_history.specs.Entries.{picks_of}
use Rattle.pb_debug_positions.specs.Searches.{value_at}
use Rattle.pb_history.specs.Positions.{IsAfterBy}
use Rattle.pb_debug_positions.proofs.Searches.{differ_here, value_here}
use Rattle.pb_debug_positions.proofs.search.changes.Goals as goal

pub returns-clause-changes : goal.returns-clause-changes
returns-clause-changes c =
    let v = c.args.verified.now in
    let picks = picks_of c.args.trace.now.entries in
    let at = c.args.walker.now.at in
    let p = c.args.p in
    let x = c.args.x in
    let next = c.advance.new.self in
    let lending = c.requires.walks.0 in
    let here = c.requires.walks.1 in
    let there : IsAfterBy lending v picks (at + 1) next.machine =
    subst (λ n. IsAfterBy lending v picks n next.machine) c.advance.ensures.at (c.advance.ensures.walks lending here).stands in
    differ_here c.differ.result c.value_of-before.result c.value_of-after.result (value_at v.code picks at p x) (value_at v.code picks (at + 1) p x)
    (c.value_of-before.ensures ∙ value_here v picks at p x c.args.walker.now.machine here.stands)
    (c.value_of-after.ensures ∙ value_here v picks (at + 1) p x next.machine there)
    c.differ.ensures

pub returns-clause-walks : goal.returns-clause-walks
returns-clause-walks c = (c.requires.walks.0, c.advance.ensures.walks c.requires.walks.0 c.requires.walks.1)
