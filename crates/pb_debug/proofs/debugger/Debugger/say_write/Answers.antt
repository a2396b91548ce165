use Rattle.std.proofs.Common.{◌<◌, length, sym, subst}
use Rattle.pb_base.specs.Lines.{NameTable}
use Rattle.pb_history.specs.Entries.{picks_of}
use Rattle.pb_debug.proofs.NamedPicks.{pick_named}
use Rattle.pb_debug.proofs.debugger.Debugger.say_write.Goals as goal

pub put_wrote-requires : goal.put_wrote-requires
put_wrote-requires c =
    let i = c.self.inside in
    let pick = c.pick-pick.result in
    let named = pick_named i.verified.now (picks_of i.trace.entries) c.args.k pick c.self.invariant.verified c.self.invariant.enabled c.pick-pick.ensures in
    subst (λ (n : NameTable). pick.process < length n.processes) (sym c.names.ensures) named
