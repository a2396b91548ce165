use Rattle.std.proofs.Common.{◌≡◌, ℕ, List, ◌++◌, ap, ◌∙◌, append_assoc, arith}
use Rattle.pb_banker.specs.Lenders.{lender_state}
use Rattle.pb_base.specs.Banker.{processes, resources, cash}
use Rattle.pb_base.specs.Lines.{names_view, each_below}
use Rattle.pb_debug_texts.specs.Texts.{loans_of, cash_text}
use Rattle.pb_debug_texts.proofs.EachNumber.{each_next}
use Rattle.pb_base.proofs.Results.{on_ok}
use Rattle.pb_debug_texts.proofs.text.put_loans.Goals as goal

pub returns : goal.returns
returns c =
    let s = lender_state c.args.bank.now in
    let names = names_view c.args.names.now in
    let old = c.args.text.now.items in
    let loans : ℕ → List ℕ = each_below (loans_of names s) in
    let cashes : List ℕ = each_below (λ r. cash_text names (cash s r) r) (resources s) in
    let all : c.loop-p.p ≡ processes s = omega (arith, c.processes-p-end.ensures.number) in
    on_ok c.put_all_cash.result _ _ c.put_all_cash.ensures (λ put.
    put ∙ (ap (λ (t : List ℕ). t ++ cashes) (c.loop-p.invariant ∙ ap (λ n. old ++ loans n) all)
    ∙ append_assoc old (loans (processes s)) cashes))

pub loop-p-preserved : goal.loop-p-preserved
loop-p-preserved c =
    each_next (loans_of (names_view c.args.names.now) (lender_state c.args.bank.now)) c.loop-p.p c.args.text.now.items
    c.loop-p.text.items c.put_loans_of.new.text.items c.loop-p.invariant c.in_ok-put_loans_of.ensures
