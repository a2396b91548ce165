use Rattle.std.proofs.Common.{◌≤◌, map}
use Rattle.pb_object.proofs.LineWords.{IsFound}
use Rattle.pb_object.proofs.words.words_into.Given as goal

abbrev pub invariant-loop-end : goal.invariant-loop-end
invariant-loop-end l = record {
  read : IsFound l.text (map (λ w. w.now) l.words.items) l.start l.end;
  start : l.start ≤ l.end;
}
