use Rattle.pb_banker.proofs.Seats.{left_is, left_finishes}
use Rattle.pb_banker.proofs.jobs.clear.Goals as goal

pub returns-clause-state : goal.returns-clause-state
returns-clause-state c =
    left_is c.args.accounts.now c.take_back_all.new.self c.seat.new.accounts c.take_back_all.ensures.sound c.args.p
    c.take_back_all.ensures.state c.seat.ensures.state

pub returns-clause-finishes : goal.returns-clause-finishes
returns-clause-finishes c =
    left_finishes c.args.accounts.now c.take_back_all.new.self c.seat.new.accounts c.requires.sound c.take_back_all.ensures.sound
    c.seat.ensures.sound c.args.p c.args.order.now c.requires.slot c.requires.finishes c.take_back_all.ensures.state c.seat.ensures.state
