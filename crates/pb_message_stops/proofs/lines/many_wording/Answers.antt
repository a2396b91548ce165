use Rattle.std.proofs.Common.{◌∙◌, List, ◌++◌, ◌∷◌, [], ap}
use Rattle.pb_message_stops.proofs.lines.many_wording.Goals as goal
use Rattle.pb_mistakes.proofs.Noted.{keeps_noted, note_there}
use Rattle.pb_mistakes.specs.declared.wording.Spot.{Spot}

pub returns : goal.returns
returns c = λ whole.
    let hint = c.note_text.ensures whole in
    let line = c.note_line.ensures hint.0 in
    let spot = c.spot.ensures line.0 in
    let first = c.of-wording.ensures spot.0 in
    let there : Spot = record { label = c.new.result; at = c.args.at } in (
      there,
      hint.3 ∙ (line.3 ∙ (spot.3 ∙ ap (λ (spots : List Spot). spots ++ there ∷ []) first.2)),
      (keeps_noted c.note_line.new.wording c.note_text.new.self _ c.note_text.ensures whole).3 _
          (note_there c.spot.new.self c.note_line.new.wording _ c.note_line.ensures hint.0),
    )
