use Rattle.std.proofs.Common.{◌≡◌, ◌++◌, take, drop}
use Rattle.pb_desk.specs.Entries.{after_field, field_of}
use Rattle.pb_desk.proofs.entry.cut.Given as goal

abbrev pub invariant-loop-i : goal.invariant-loop-i
invariant-loop-i l = record {
  first : take l.i l.text ++ field_of (drop l.i l.text) ≡ field_of l.text;
  rest : after_field (drop l.i l.text) ≡ after_field l.text;
}
