use Rattle.std.proofs.Common.{◌++◌, ℕ, List, ap, ◌∙◌}
use Rattle.pb_base.specs.Lines.{names_view}
use Rattle.pb_code.specs.Code.{Thread, thread}
use Rattle.pb_code.specs.View.{process_view}
use Rattle.pb_machine.specs.Views.{proc_view}
use Rattle.pb_debug_texts.specs.Resources.{amount_asked, asker_text}
use Rattle.pb_debug_texts.proofs.EachNumber.{each_next}
use Rattle.pb_debug_texts.proofs.who.put_askers_in.Goals as goal

pub loop-arm-preserved : goal.loop-arm-preserved
loop-arm-preserved c =
    let names = names_view c.args.names.now in
    let r = c.args.r in
    let p = c.args.p in
    let code = process_view c.args.code.now in
    let arm = c.loop-arm.arm in
    let here = c.loop-arm.text.items in
    let said : ℕ → List ℕ = λ a. asker_text names r (record { process = p; arm = a })
    (amount_asked code (thread (proc_view c.args.process.now).threads a) r) in
    let asked = c.amount_asked-amount.ensures ∙ ap (λ (t : Thread). amount_asked code t r) c.thread.ensures in
    each_next said arm c.args.text.now.items here c.put_asker.new.text.items c.loop-arm.invariant
    (c.in_ok-put_asker.ensures ∙ ap (λ (n : ℕ). here ++ asker_text names r (record { process = p; arm = arm }) n) asked)
