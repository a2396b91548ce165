use Rattle.pb_banker.specs.Lenders.{lender_state}
use Rattle.pb_base.specs.Lines.{names_view}
use Rattle.pb_debug_texts.specs.Resources.{holder_text}
use Rattle.pb_debug_texts.proofs.EachNumber.{each_next}
use Rattle.pb_debug_texts.proofs.who.put_holders.Goals as goal

pub loop-p-preserved : goal.loop-p-preserved
loop-p-preserved c =
    each_next (holder_text (names_view c.args.names.now) (lender_state c.args.bank.now) c.args.r) c.loop-p.p c.args.text.now.items
    c.loop-p.text.items c.put_holder.new.text.items c.loop-p.invariant c.in_ok-put_holder.ensures
