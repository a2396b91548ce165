use Rattle.std.proofs.Common.{◌≡◌, ◌++◌}
use Rattle.pb_banker.specs.Lenders.{lender_state}
use Rattle.pb_base.specs.Banker.{cash}
use Rattle.pb_base.specs.Lines.{names_view, each_below}
use Rattle.pb_debug_texts.specs.Texts.{cash_text}
use Rattle.pb_debug_texts.proofs.text.put_all_cash.Given as goal

abbrev pub invariant-loop-r : goal.invariant-loop-r
invariant-loop-r l =
    l.text.items ≡ l.initial.text.items
    ++ each_below (λ r. cash_text (names_view l.names) (cash (lender_state l.bank) r) r) l.r
