use Rattle.std.proofs.Common.{ℕ, List, sym, subst}
use Rattle.pb_code.specs.View.{process_view}
use Rattle.pb_verifier.specs.Faults.{TurnsHoldings}
use Rattle.pb_verifier.specs.Flow.{IsGrown}
use Rattle.pb_verifier.specs.Given.{instrs_of}
use Rattle.pb_verifier.specs.Holdings.{held_bundles}
use Rattle.pb_verifier.specs.Spread.{CanBeAnnotated, IsLeast, hold_rules, notes_of}
use Rattle.pb_verifier.proofs.FaultFacts.{holdings_by_rules, no_facts, table_of}
use Rattle.pb_verifier.proofs.OptionalResults.{none_weaker, some_weaker}
use Rattle.pb_verifier.proofs.holdings.holdings.Goals as goal

pub spread-requires-clause-grown : goal.spread-requires-clause-grown
spread-requires-clause-grown c = subst (λ (es : List ℕ). IsGrown es (instrs_of c.args.code.now) c.args.order.now) (sym c.deref.ensures.value) c.requires.grown

pub returns-clause-yes : goal.returns-clause-yes
returns-clause-yes c =
    some_weaker c.spread.result
    (λ table least.
    table_of (process_view c.args.code.now) TurnsHoldings hold_rules holdings_by_rules c.args.order.now
    c.requires.inside c.requires.reached (notes_of (held_bundles (instrs_of c.args.code.now) table.items) table.items)
    (subst (λ (es : List ℕ). IsLeast hold_rules es (instrs_of c.args.code.now) (notes_of (held_bundles (instrs_of
    c.args.code.now) table.items) table.items)) c.deref.ensures.value least))
    c.spread.ensures.yes

pub returns-clause-no : goal.returns-clause-no
returns-clause-no c =
    none_weaker c.spread.result
    (λ none.
    no_facts (process_view c.args.code.now) TurnsHoldings hold_rules holdings_by_rules c.args.order.now c.requires.inside c.requires.reached
    (subst (λ (es : List ℕ). ¬ CanBeAnnotated hold_rules es (instrs_of c.args.code.now)) c.deref.ensures.value none))
    c.spread.ensures.no
