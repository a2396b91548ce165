use Rattle.std.proofs.Common.{◌≡◌, ◌++◌, ◌∷◌, []}
use Rattle.pb_page.specs.Texts.{texts}
use Rattle.pb_page.specs.Parts.{parts_below}
use Rattle.pb_page.specs.States as spec
use Rattle.pb_machine.specs.Views.{proc_view}
use Rattle.pb_code.specs.Code.{thread}
use Rattle.pb_page.proofs.arms.add_operands.Given as goal

abbrev pub invariant-loop-arm : goal.invariant-loop-arm
invariant-loop-arm l = texts l.entries.items ≡ (texts l.initial.entries.items ++ parts_below (λ a. spec.operands_text (thread (proc_view l.process).threads a) ∷ []) l.arm)
