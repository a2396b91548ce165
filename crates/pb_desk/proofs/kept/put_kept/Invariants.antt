use Rattle.std.proofs.Common.{◌≡◌, drop}
use Rattle.pb_desk.specs.Sessions.{text_of}
use Rattle.pb_desk.proofs.kept.put_kept.Given as goal

abbrev pub invariant-loop-one : goal.invariant-loop-one
invariant-loop-one l = record {
  same : text_of l.kept l.number ≡ text_of (drop l.one-index l.kept) l.number;
  out : l.out.items ≡ l.initial.out.items;
}
