use Rattle.std.proofs.Common.{◌≡◌, ℕ, ◌++◌, ap, ◌∙◌, arith}
use Rattle.pb_banker.specs.Lenders.{lender_state}
use Rattle.pb_base.specs.Banker.{resources, cash}
use Rattle.pb_base.specs.Lines.{names_view, each_below}
use Rattle.pb_debug_texts.specs.Texts.{cash_text}
use Rattle.pb_debug_texts.proofs.EachNumber.{each_next}
use Rattle.pb_debug_texts.proofs.text.put_all_cash.Goals as goal

pub returns : goal.returns
returns c =
    let s = lender_state c.args.bank.now in
    let names = names_view c.args.names.now in
    let every : c.loop-r.r ≡ resources s = omega (arith, c.resources-r-end.ensures.number) in
    c.loop-r.invariant
    ∙ ap (λ n. c.args.text.now.items ++ each_below (λ r. cash_text names (cash s r) r) n) every

pub loop-r-preserved : goal.loop-r-preserved
loop-r-preserved c =
    let s = lender_state c.args.bank.now in
    let names = names_view c.args.names.now in
    let here = c.loop-r.text.items in
    each_next (λ r. cash_text names (cash s r) r) c.loop-r.r c.args.text.now.items here c.put_cash.new.text.items
    c.loop-r.invariant
    (c.in_ok-put_cash.ensures ∙ ap (λ (n : ℕ). here ++ cash_text names n c.loop-r.r) c.cash.ensures)
