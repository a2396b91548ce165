use Rattle.std.proofs.Common.{◌≡◌, ◌++◌, take}
use Rattle.std.specs.List.{flat_map}
use Rattle.std.specs.Prelude.{string_bytes}
use Rattle.pb_messages.specs.Details.{note_row}
use Rattle.pb_messages.proofs.worded.put_notes.Given as goal

abbrev pub invariant-loop-note : goal.invariant-loop-note
invariant-loop-note l =
    l.out.items ≡ l.fn.out.items ++ flat_map (λ note. note_row l.width (string_bytes note)) (take l.note-index l.notes)
