use Rattle.pb_message_stops.proofs.Hints.{made_too}
use Rattle.pb_message_stops.proofs.stops.stop_wording.Goals as goal
use Rattle.pb_mistakes.proofs.Noted.{keeps_both, keeps_noted, note_there}

pub returns : goal.returns
returns c = λ whole.
    let hint = c.note_text.ensures whole in
    let first = c.in_ok-wording.wording in
    let second = c.note_line.new.wording in
    let third = c.note_text.new.self in (
      made_too c.args.stop.now first third
          (keeps_both first second third (keeps_noted first second _ c.note_line.ensures) (keeps_noted second third _ c.note_text.ensures))
          c.in_ok-wording.ensures whole,
      (keeps_noted second third _ c.note_text.ensures whole).3 _ (note_there first second _ c.note_line.ensures hint.0),
    )
