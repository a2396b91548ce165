use Rattle.std.proofs.Common.{refl}
use Rattle.pb_debug.proofs.ReadyArms.{goes_lent, lent_goes, lent_picked, picked_lent}
use Rattle.pb_debug.proofs.debugger.Debugger.can_be_picked.Goals as goal

pub returns-then-can_step : goal.returns-then-can_step
returns-then-can_step c =
    let d = c.args.self.now in
    let p = c.args.p in
    let a = c.args.arm in
    let why = c.args.why.now in
    let h = c.can_step.ensures.placed in (
      λ goes. lent_picked d h p a (c.if-can_step.ensures.can.0 refl) (goes_lent d p a why c.requires.why (c.may_go_on.ensures.0 goes)),
      λ picked. c.may_go_on.ensures.1 (lent_goes d p a why c.requires.why (picked_lent d h p a picked)),
    )
