use Rattle.std.proofs.Common.{◌≡◌, ◌++◌}
use Rattle.pb_page.specs.Texts.{texts}
use Rattle.pb_base.specs.Lines.{each_below}
use Rattle.pb_page.specs.Rows as spec
use Rattle.pb_page.specs.Texts.{entry_at}
use Rattle.pb_page.proofs.row.put_changes.Given as goal

abbrev pub invariant-loop-k : goal.invariant-loop-k
invariant-loop-k l = l.out.items ≡ (l.initial.out.items ++ each_below (λ j. spec.change_text j (entry_at (texts l.before) j) (entry_at (texts l.after) j)) l.k)
