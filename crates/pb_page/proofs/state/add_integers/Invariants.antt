use Rattle.std.proofs.Common.{◌≡◌, ◌++◌}
use Rattle.pb_page.specs.Texts.{texts}
use Rattle.std.proofs.Common.{map, take}
use Rattle.pb_json.specs.Values.{integer_text}
use Rattle.pb_page.proofs.state.add_integers.Given as goal

abbrev pub invariant-loop-x : goal.invariant-loop-x
invariant-loop-x l = texts l.entries.items ≡ (texts l.initial.entries.items ++ map integer_text (take l.x l.values))
