use Rattle.std.proofs.Common.{◌+◌, ◌∙◌, subst}
use Rattle.pb_history.specs.Entries.{picks_of}
use Rattle.pb_debug_positions.specs.Searches.{faulted_at}
use Rattle.pb_history.specs.Positions.{IsAfterBy}
use Rattle.pb_debug_positions.proofs.Searches.{begins_as, faulted_here}
use Rattle.pb_debug_positions.proofs.search.faults.Goals as goal

pub returns-clause-faults : goal.returns-clause-faults
returns-clause-faults c =
    let v = c.args.verified.now in
    let picks = picks_of c.args.trace.now.entries in
    let at = c.args.walker.now.at in
    let p = c.args.p in
    let next = c.advance.new.self in
    let lending = c.requires.walks.0 in
    let here = c.requires.walks.1 in
    let there : IsAfterBy lending v picks (at + 1) next.machine =
    subst (λ n. IsAfterBy lending v picks n next.machine) c.advance.ensures.at (c.advance.ensures.walks lending here).stands in
    begins_as c.begins.result c.has_faulted-before.result c.has_faulted-after.result
    (faulted_at v.code picks at p) (faulted_at v.code picks (at + 1) p)
    (c.has_faulted-before.ensures ∙ faulted_here v picks at p c.args.walker.now.machine here.stands)
    (c.has_faulted-after.ensures ∙ faulted_here v picks (at + 1) p next.machine there)
    c.begins.ensures

pub returns-clause-walks : goal.returns-clause-walks
returns-clause-walks c = (c.requires.walks.0, c.advance.ensures.walks c.requires.walks.0 c.requires.walks.1)
