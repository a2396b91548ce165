use Rattle.std.proofs.Common.{codes}
use Rattle.std.specs.Fmt.{decimal}
use Rattle.pb_base.proofs.Results.{on_ok}
use Rattle.pb_base.specs.Lines.{names_view}
use Rattle.pb_debug_texts.specs.Does.{there_text}
use Rattle.pb_debug_texts.proofs.Pieces.{three}
use Rattle.pb_debug_texts.proofs.does.put_shortage.Goals as goal

pub returns : goal.returns
returns c =
    on_ok c.put_there.result _ _ c.put_there.ensures (λ e.
    three (codes ", and waits: only ") (decimal c.args.cash) (there_text (names_view c.args.names.now) c.args.resource) c.args.text.now.items
    c.put_number.new.out.items c.put_there.new.text.items c.in_ok-put_number.ensures e)
