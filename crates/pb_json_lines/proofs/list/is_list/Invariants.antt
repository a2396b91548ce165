use Rattle.std.proofs.Common.{◌≡◌, take}
use Rattle.std.specs.List.{fold}
use Rattle.pb_json_lines.specs.Lists.{next}
use Rattle.pb_json_lines.specs.declared.list.Mode.TheVariants.{Begin}
use Rattle.pb_json_lines.proofs.list.is_list.Given as goal

abbrev pub invariant-loop-byte : goal.invariant-loop-byte
invariant-loop-byte l = l.mode ≡ fold (next l.shape) Begin (take l.byte-index l.word)
