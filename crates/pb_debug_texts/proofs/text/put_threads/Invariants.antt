use Rattle.std.proofs.Common.{◌≡◌, ◌++◌}
use Rattle.pb_code.specs.Code.{thread}
use Rattle.pb_machine.specs.Views.{proc_view}
use Rattle.pb_base.specs.Lines.{each_below}
use Rattle.pb_debug_texts.specs.Texts.{thread_text}
use Rattle.pb_debug_texts.proofs.text.put_threads.Given as goal

abbrev pub invariant-loop-arm : goal.invariant-loop-arm
invariant-loop-arm l =
    l.text.items ≡ l.initial.text.items ++ each_below (λ a. thread_text a (thread (proc_view l.process).threads a)) l.arm
