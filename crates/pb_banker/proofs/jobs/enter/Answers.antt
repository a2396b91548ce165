use Rattle.pb_banker.proofs.Seats.{finishes_seated}
use Rattle.pb_banker.proofs.jobs.enter.Goals as goal

pub returns-clause-finishes : goal.returns-clause-finishes
returns-clause-finishes c =
    finishes_seated c.args.accounts.now c.seat.new.accounts c.args.p c.args.claims.now c.args.order.now c.put_last.new.order
    c.requires.sound c.seat.ensures.sound c.requires.finishes c.requires.newcomer c.seat.ensures.state c.put_last.ensures
