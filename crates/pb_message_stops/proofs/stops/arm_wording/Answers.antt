use Rattle.std.proofs.Common.{IsTrue, subst, sym}
use Rattle.pb_message_stops.proofs.Hints.{made_too}
use Rattle.pb_message_stops.proofs.stops.arm_wording.Goals.{in-Some, in_default}
use Rattle.pb_message_stops.proofs.stops.arm_wording.Goals as goal
use Rattle.pb_message_stops.specs.Told.{TellsMade}
use Rattle.pb_mistakes.specs.declared.wording.Wording.{Wording}

pub returns : goal.returns
returns c =
    let stop = c.args.stop.now in
    elim c.match-machine_after.branch [
      | in-Some w ↦
          subst (λ (x : Wording). IsTrue x.is_whole → TellsMade stop x) (sym w.wording-is)
          (made_too stop c.made_wording-wording.result w.note_why.new.wording w.note_why.ensures c.made_wording-wording.ensures)
      | in_default w ↦
          subst (λ (x : Wording). IsTrue x.is_whole → TellsMade stop x) (sym w.wording-is) c.made_wording-wording.ensures
    ]
