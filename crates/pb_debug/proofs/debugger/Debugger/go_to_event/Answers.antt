use Rattle.std.proofs.Common.{sym, subst, rules}
use Rattle.pb_base.specs.Lines.{NameTable, HasNames}
use Rattle.pb_history.specs.Entries.{picks_of}
use Rattle.pb_debug_positions.specs.Searches.{Shows}
use Rattle.pb_debug.proofs.NamedPicks.{shown_named}
use Rattle.pb_debug.proofs.debugger.Debugger.go_to_event.Goals as goal

pub put_event-requires : goal.put_event-requires
put_event-requires c =
    let i = c.self.inside in
    let v = i.verified.now in
    let picks = picks_of i.trace.entries in
    let k = c.in-Some.k in
    let event = c.in_ok-event.event in
    let shows : Shows v.code picks k event = rw (← c.self.view_is) at c.in_ok-event.ensures in
    subst (λ (n : NameTable). HasNames n event) (sym c.names.ensures)
    (shown_named v picks k event c.self.invariant.verified c.self.invariant.enabled shows)

pub returns-in-Ok-clause-said : goal.returns-in-Ok-clause-said
returns-in-Ok-clause-said c = search rules fits 100
