use Rattle.std.proofs.Common.{codes}
use Rattle.pb_base.proofs.Results.{on_ok}
use Rattle.pb_base.specs.Lines.{names_view}
use Rattle.pb_debug_texts.specs.Does.{arms_text}
use Rattle.pb_debug_texts.proofs.Pieces.{two}
use Rattle.pb_debug_texts.proofs.does.put_goes_after.Goals as goal

pub returns : goal.returns
returns c =
    on_ok c.put_arms.result _ _ c.put_arms.ensures (λ e.
    two (codes "goes on after") (arms_text (names_view c.args.names.now) c.args.p c.args.first c.args.count) c.args.text.now.items
    c.put.new.out.items c.put_arms.new.text.items c.in_ok-put.ensures e)
