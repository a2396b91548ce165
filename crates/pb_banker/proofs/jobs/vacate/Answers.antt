use Rattle.pb_banker.proofs.KeptSlots.{kept_left}
use Rattle.pb_banker.proofs.jobs.vacate.Goals as goal

pub returns-clause-kept : goal.returns-clause-kept
returns-clause-kept c =
    kept_left c.args.accounts.now c.args.order.now c.args.used.now c.requires.kept c.args.p c.requires.slot
    c.clear.new.accounts c.args.order.now c.clear.ensures.sound c.clear.ensures.state c.clear.ensures.finishes
