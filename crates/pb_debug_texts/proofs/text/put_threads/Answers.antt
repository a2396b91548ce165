use Rattle.std.proofs.Common.{◌++◌, ℕ, List, ap, ◌∙◌}
use Rattle.pb_code.specs.Code.{Thread, thread}
use Rattle.pb_machine.specs.Views.{proc_view}
use Rattle.pb_debug_texts.specs.Texts.{thread_text}
use Rattle.pb_debug_texts.proofs.EachNumber.{each_next}
use Rattle.pb_debug_texts.proofs.text.put_threads.Goals as goal

pub loop-arm-preserved : goal.loop-arm-preserved
loop-arm-preserved c =
    let arm = c.loop-arm.arm in
    let here = c.loop-arm.text.items in
    let said : ℕ → List ℕ = λ a. thread_text a (thread (proc_view c.args.process.now).threads a) in
    each_next said arm c.args.text.now.items here c.put_thread.new.text.items c.loop-arm.invariant
    (c.in_ok-put_thread.ensures ∙ ap (λ (t : Thread). here ++ thread_text arm t) c.thread.ensures)
