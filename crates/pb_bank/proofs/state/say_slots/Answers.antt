use Rattle.pb_bank.specs.Answers.{job_said}
use Rattle.pb_bank.proofs.EachNumber.{all_next}
use Rattle.pb_bank.proofs.state.say_slots.Goals as goal

pub loop-p-preserved : goal.loop-p-preserved
loop-p-preserved c =
    all_next (job_said c.args.bank.now) c.loop-p.p c.args.out.now.items c.loop-p.out.items c.say_slot.new.out.items c.loop-p.invariant
    c.in_ok-say_slot.ensures
