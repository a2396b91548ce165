use Rattle.std.proofs.Common.{ℕ, List, ◌++◌, ap, ◌∙◌}
use Rattle.pb_debug_texts.proofs.EachNumber.{each_next}
use Rattle.pb_page.specs.Rows.{change_text}
use Rattle.pb_page.specs.Texts.{entry_at, texts}
use Rattle.pb_page.proofs.row.put_changes.Goals as goal

pub loop-k-preserved : goal.loop-k-preserved
loop-k-preserved c =
    let before = texts c.args.before.now in
    let after = texts c.args.after.now in
    let k = c.loop-k.k in
    let here = c.loop-k.out.items in
    each_next (λ j. change_text j (entry_at before j) (entry_at after j)) k c.args.out.now.items here c.put_change.new.out.items
    c.loop-k.invariant
    (c.in_ok-put_change.ensures
    ∙ (ap (λ (b : List ℕ). here ++ change_text k b c.entry-in-loop-k.result.now) c.entry.ensures
    ∙ ap (λ (a : List ℕ). here ++ change_text k (entry_at before k) a) c.entry-in-loop-k.ensures))
