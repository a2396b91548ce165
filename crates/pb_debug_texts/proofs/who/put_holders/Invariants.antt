use Rattle.std.proofs.Common.{◌≡◌, ◌++◌}
use Rattle.pb_banker.specs.Lenders.{lender_state}
use Rattle.pb_base.specs.Lines.{names_view, each_below}
use Rattle.pb_debug_texts.specs.Resources.{holder_text}
use Rattle.pb_debug_texts.proofs.who.put_holders.Given as goal

abbrev pub invariant-loop-p : goal.invariant-loop-p
invariant-loop-p l =
    l.text.items ≡ l.initial.text.items ++ each_below (holder_text (names_view l.names) (lender_state l.bank) l.r) l.p
