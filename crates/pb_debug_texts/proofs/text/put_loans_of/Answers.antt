use Rattle.pb_banker.specs.Lenders.{lender_state}
use Rattle.pb_base.specs.Lines.{names_view}
use Rattle.pb_debug_texts.specs.Texts.{loan_text}
use Rattle.pb_debug_texts.proofs.EachNumber.{each_next}
use Rattle.pb_debug_texts.proofs.text.put_loans_of.Goals as goal

pub loop-r-preserved : goal.loop-r-preserved
loop-r-preserved c =
    each_next (loan_text (names_view c.args.names.now) (lender_state c.args.bank.now) c.args.p) c.loop-r.r c.args.text.now.items
    c.loop-r.text.items c.put_loan.new.text.items c.loop-r.invariant c.in_ok-put_loan.ensures
