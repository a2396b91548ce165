use Rattle.std.proofs.Common.{◌≡◌, ◌++◌}
use Rattle.pb_base.specs.Lines.{each_below}
use Rattle.std.specs.Fmt.{decimal}
use Rattle.std.specs.Prelude.{slice_index}
use Rattle.pb_json.specs.Values.{comma}
use Rattle.pb_page.proofs.state.order_text.Given as goal

abbrev pub invariant-loop-k : goal.invariant-loop-k
invariant-loop-k l = l.text.items ≡ (l.initial.text.items ++ each_below (λ j. comma j ++ decimal (slice_index l.order j)) l.k)
