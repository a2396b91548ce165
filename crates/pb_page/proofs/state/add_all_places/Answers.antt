use Rattle.std.proofs.Common.{◌++◌, sym, ap, ◌∙◌}
use Rattle.pb_code.specs.Code.{CodeProcess}
use Rattle.pb_machine.specs.Views.{machine_view}
use Rattle.pb_page.specs.States.{process_at, places_of}
use Rattle.pb_page.specs.Texts.{texts}
use Rattle.pb_page.proofs.PartsMore.{parts_next, process_is}
use Rattle.pb_page.proofs.state.add_all_places.Goals as goal

pub loop-p-preserved : goal.loop-p-preserved
loop-p-preserved c =
    let s = machine_view c.args.machine.now in
    let mid = texts c.loop-p.entries.items in
    parts_next (λ p. places_of (process_at s p)) c.loop-p.p (texts c.args.entries.now.items) mid (texts c.add_places.new.entries.items)
    c.loop-p.invariant
    (c.in_ok-add_places.ensures
    ∙ ap (λ (q : CodeProcess). mid ++ places_of q) (sym (process_is s c.loop-p.p _ c.proc.ensures.state)))
