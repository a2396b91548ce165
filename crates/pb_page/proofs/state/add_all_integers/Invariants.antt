use Rattle.std.proofs.Common.{◌≡◌, ◌++◌}
use Rattle.pb_page.specs.Texts.{texts}
use Rattle.pb_page.specs.Parts.{parts_below}
use Rattle.pb_page.specs.States as spec
use Rattle.pb_machine.specs.Views.{machine_view}
use Rattle.pb_page.proofs.state.add_all_integers.Given as goal

abbrev pub invariant-loop-p : goal.invariant-loop-p
invariant-loop-p l = texts l.entries.items ≡ (texts l.initial.entries.items ++ parts_below (λ p. spec.integers_of (spec.process_at (machine_view l.machine) p)) l.p)
