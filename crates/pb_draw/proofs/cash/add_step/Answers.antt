use Rattle.std.proofs.Common.{◌≡◌, ◌-◌, List, refl, sym, ◌∙◌, subst, arith}
use Rattle.pb_draw.specs.Cash.{ShowsCash}
use Rattle.pb_draw.specs.declared.drawing.CashStep.{CashStep}
use Rattle.pb_draw.proofs.Curves.{curve_changes_at, curve_stays_at}
use Rattle.pb_draw.proofs.cash.add_step.Goals as goal

pub returns-in_ok-push : goal.returns-in_ok-push
returns-in_ok-push c = λ f was is shows.
    subst (λ (steps : List CashStep). ShowsCash f c.args.at steps) (sym c.in_ok-push.ensures.items)
    (curve_changes_at (λ (s : CashStep). s.at) (λ (s : CashStep). s.cash) 0 (λ x y. x ≡ y) (λ i x. x ≡ f i) c.args.at c.args.steps.now.items
    (record { at = c.args.at; cash = c.args.cash }) c.requires shows refl is
    (λ same. (let shown = shows.shows (c.args.at - 1) (omega arith) in let other = c.if-cash-last.true in
    omega (arith, same, shown, was, other))))

pub returns-else-cash-last : goal.returns-else-cash-last
returns-else-cash-last c = λ f was is shows.
    let same : c.args.cash ≡ c.args.last = (let not = c.if-cash-last.false in omega arith) in
    curve_stays_at (λ (s : CashStep). s.at) (λ (s : CashStep). s.cash) 0 (λ x y. x ≡ y) (λ i x. x ≡ f i) c.args.at c.args.steps.now.items c.requires shows
    (shows.shows (c.args.at - 1) (omega arith) ∙ (sym was ∙ (sym same ∙ is)))
