use Rattle.std.proofs.Common.{ℕ, List, sym, subst}
use Rattle.pb_code.specs.View.{process_view}
use Rattle.pb_verifier.specs.declared.amounts.Amount.{Amount}
use Rattle.pb_verifier.specs.Amounts.{AmountFits, TurnsAmount, amount_after}
use Rattle.pb_verifier.specs.Faults.{in_holdings}
use Rattle.pb_verifier.specs.Flow.{IsGrown}
use Rattle.pb_verifier.specs.Given.{instrs_of}
use Rattle.pb_verifier.specs.Spread.{CanBeAnnotated, IsLeast, notes_of, rules_of}
use Rattle.pb_verifier.proofs.HeldAmounts.{amounts_by_rules, amounts_of}
use Rattle.pb_verifier.proofs.FaultFacts.{no_facts, table_of}
use Rattle.pb_verifier.proofs.amounts.amounts.Goals as goal

pub spread-requires-clause-grown : goal.spread-requires-clause-grown
spread-requires-clause-grown c = subst (λ (es : List ℕ). IsGrown es (instrs_of c.args.code.now) c.args.order.now) (sym
    c.deref.ensures.value) c.requires.order.grown

pub unreachable-requires : goal.unreachable-requires
unreachable-requires c =
    let none = rw c.in-Ok-None.field-0-is at c.in-Ok-None.ensures.no in
    let rules = rules_of (let x : ℕ × ℕ = (c.args.resource, 0) in x) AmountFits amount_after in
    no_facts (process_view c.args.code.now) TurnsAmount (rules_of (c.args.resource, 0) AmountFits amount_after)
    (amounts_by_rules c.args.resource) c.args.order.now c.requires.order.inside c.requires.order.reached
    (subst (λ (es : List ℕ). ¬ CanBeAnnotated (rules_of (c.args.resource, 0) AmountFits amount_after) es (instrs_of
    c.args.code.now)) c.deref.ensures.value none) (
      (λ p. (c.args.resource, in_holdings c.args.resource (c.requires.holdings.0 p))),
      amounts_of (process_view
          c.args.code.now) c.requires.small c.args.resource c.requires.holdings.0 c.requires.holdings.1,
    )

pub returns-in-Ok-Some-clause-amounts : goal.returns-in-Ok-Some-clause-amounts
returns-in-Ok-Some-clause-amounts c =
    let least = rw c.in-Ok-Some.field-0-is at c.in-Ok-Some.ensures.yes in
    table_of (process_view c.args.code.now) TurnsAmount (rules_of (c.args.resource, 0) AmountFits amount_after)
    (amounts_by_rules c.args.resource) c.args.order.now c.requires.order.inside c.requires.order.reached
    (notes_of (λ (a : Amount). let x : ℕ × ℕ = (a.resource, a.held) in x) c.in-Ok-Some.table.items)
    (subst (λ (es : List ℕ). IsLeast (rules_of (c.args.resource, 0) AmountFits amount_after) es (instrs_of
    c.args.code.now) (notes_of (λ (a : Amount). let x : ℕ × ℕ = (a.resource, a.held) in x)
    c.in-Ok-Some.table.items)) c.deref.ensures.value least)
