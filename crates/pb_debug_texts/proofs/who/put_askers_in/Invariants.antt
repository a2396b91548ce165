use Rattle.std.proofs.Common.{◌≡◌, ◌++◌}
use Rattle.pb_base.specs.Lines.{names_view, each_below}
use Rattle.pb_code.specs.Code.{thread}
use Rattle.pb_code.specs.View.{process_view}
use Rattle.pb_machine.specs.Views.{proc_view}
use Rattle.pb_debug_texts.specs.Resources.{amount_asked, asker_text}
use Rattle.pb_debug_texts.proofs.who.put_askers_in.Given as goal

abbrev pub invariant-loop-arm : goal.invariant-loop-arm
invariant-loop-arm l =
    l.text.items ≡ l.initial.text.items
    ++ each_below (λ a. asker_text (names_view l.names) l.r (record { process = l.p; arm = a })
    (amount_asked (process_view l.code) (thread (proc_view l.process).threads a) l.r)) l.arm
