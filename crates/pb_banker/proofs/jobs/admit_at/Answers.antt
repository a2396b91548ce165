use Rattle.pb_banker.proofs.KeptSlots.{newcomer, kept_joined}
use Rattle.pb_banker.proofs.jobs.admit_at.Goals as goal

pub enter-requires-clause-newcomer : goal.enter-requires-clause-newcomer
enter-requires-clause-newcomer c =
    newcomer c.args.accounts.now c.args.order.now c.args.used.now c.requires.kept c.args.p c.args.claims.now c.requires.width c.requires.fits c.requires.free

pub returns-clause-kept : goal.returns-clause-kept
returns-clause-kept c =
    kept_joined c.args.accounts.now c.args.order.now c.args.used.now c.requires.kept c.args.p c.args.claims.now
    (newcomer c.args.accounts.now c.args.order.now c.args.used.now c.requires.kept c.args.p c.args.claims.now c.requires.width c.requires.fits c.requires.free)
    c.enter.new.accounts c.enter.new.order c.enter.ensures.sound c.enter.ensures.state c.enter.ensures.finishes
