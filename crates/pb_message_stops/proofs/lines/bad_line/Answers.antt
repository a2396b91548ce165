use Rattle.std.proofs.Common.{List, ℕ, ◌++◌, codes, drop, subst}
use Rattle.std.specs.List.{Contains}
use Rattle.pb_message_stops.proofs.Hints.{some_too}
use Rattle.pb_message_stops.proofs.lines.bad_line.Goals as goal
use Rattle.pb_message_stops.specs.Ends.{ends_hint, ends_of}
use Rattle.std.proofs.lemmas.List.{take_rest}
use Rattle.pb_picks.specs.PickLines.{IsFirstLine}
use Rattle.pb_mistakes.proofs.Noted.{keeps_noted, note_there}
use Rattle.pb_mistakes.specs.Wordings.{notes_of}

pub returns : goal.returns
returns c = λ whole.
    let text = c.args.lines.text.now in
    let line = c.first_line.result.0.now in
    let noted = c.note_line.ensures whole in
    let old = c.line_wording-wording.result in
    let new = c.note_line.new.wording in
    let keeps = keeps_noted old new _ c.note_line.ensures whole in
    record {
      line = line;
      after = c.first_line.result.1.now;
      first = subst (λ (n : ℕ). IsFirstLine (drop n text) line c.first_line.result.1.now) c.min.ensures
          (subst (λ (t : List ℕ). IsFirstLine t line c.first_line.result.1.now) (take_rest text c.min.result) c.first_line.ensures);
      ends = some_too (λ ends. Contains (notes_of old) (codes "hint: " ++ ends_hint c.args.form ends))
          (λ ends. Contains (notes_of new) (codes "hint: " ++ ends_hint c.args.form ends)) (ends_of line)
          (λ ends there. keeps.3 _ there) (c.line_wording-wording.ensures noted.0);
      there = note_there old new _ c.note_line.ensures whole;
    }
