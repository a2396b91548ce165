use Rattle.std.proofs.Common.{◌≡◌, drop, map}
use Rattle.pb_message_excerpts.specs.Spelling.{nearest_from}
use Rattle.pb_message_excerpts.specs.Spelling.{nearest as nearest_spec}
use Rattle.pb_message_excerpts.proofs.spelling.nearest.Given as goal

abbrev pub invariant-loop-other : goal.invariant-loop-other
invariant-loop-other l = record {
  counted : l.number ≡ l.other-index;
  same : nearest_spec l.word (map (λ other. other.now) l.others)
      ≡ nearest_from l.word (map (λ other. other.now) (drop l.other-index l.others)) l.number l.bound l.best;
}
