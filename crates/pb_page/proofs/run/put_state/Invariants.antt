use Rattle.std.proofs.Common.{◌≡◌, ◌++◌}
use Rattle.pb_page.specs.Texts.{texts}
use Rattle.pb_base.specs.Lines.{each_below}
use Rattle.pb_json.specs.Values.{comma}
use Rattle.pb_page.specs.Texts.{entry_at}
use Rattle.pb_page.proofs.run.put_state.Given as goal

abbrev pub invariant-loop-k : goal.invariant-loop-k
invariant-loop-k l = l.out.items ≡ (l.initial.out.items ++ each_below (λ j. comma j ++ entry_at (texts l.entries) j) l.k)
