use Rattle.std.proofs.Common.{◌≡◌, ◌++◌, List, ℤ, Option, reverse, ap, ◌∙◌}
use Rattle.std.proofs.lemmas.List.{reverse-reverse}
use Rattle.pb_base.proofs.Results.{on_ok}
use Rattle.pb_code.specs.Code.{Instr}
use Rattle.pb_code.specs.View.{process_view}
use Rattle.pb_debug_texts.specs.Faults as said
use Rattle.pb_machine.specs.Views.{operands_of_thread, thread_view}
use Rattle.pb_debug_texts.proofs.fault.put_operation.Goals as goal

pub returns : goal.returns
returns c =
    let before = c.args.text.now.items in
    let thread = thread_view c.args.thread.now in
    let instr = said.instr_of (process_view c.args.code.now) thread in
    let stack : reverse c.operands.result.now ≡ operands_of_thread thread =
    ap reverse c.operands.ensures ∙ reverse-reverse (operands_of_thread thread) in
    on_ok c.put_applied.result _ _ c.put_applied.ensures (λ e.
    e c.args.code.now.bundles.items
    ∙ (ap (λ (i : Option Instr). before ++ said.operation_text i (reverse c.operands.result.now)) c.instr_of.ensures
    ∙ ap (λ (s : List ℤ). before ++ said.operation_text instr s) stack))
