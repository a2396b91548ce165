use Rattle.std.proofs.Common.{◌≡◌, true, false, refl, arith}
use Rattle.pb_code.specs.View.{process_view}
use Rattle.pb_verifier.specs.Ends.{IsClearAt}
use Rattle.pb_verifier.specs.Given.{instrs_of, plain}
use Rattle.pb_verifier.specs.Spread.{fact_at}
use Rattle.pb_code.proofs.ListElements.{each_more, each_all}
use Rattle.pb_verifier.proofs.EndTables.{clear_from, clear_of, clear_read}
use Rattle.pb_verifier.proofs.ends.ends_clear.Goals as goal

pub returns-then-not-is_clear : goal.returns-then-not-is_clear
returns-then-not-is_clear c =
    let n = c.places-place-end.ensures in
    let a = c.requires.few_depths in
    let b = c.requires.few_holdings in (
      λ t. let wrong : false ≡ true = t in cc,
      λ ends.
          c.if-not-is_clear.ensures.1
          ((clear_read c.args.depths.now c.args.holdings.now (plain c.args.code.now c.instr_at.result) c.loop-place.place _ _ (omega arith) (omega arith)).1
          (clear_of (process_view c.args.code.now) c.args.depths.now c.args.holdings.now c.requires.depths
          c.requires.holdings ends c.loop-place.place (plain c.args.code.now c.instr_at.result)
          c.instr_at.ensures)),
    )

pub loop-place-preserved : goal.loop-place-preserved
loop-place-preserved c =
    let n = c.places-place-end.ensures in
    let a = c.requires.few_depths in
    let b = c.requires.few_holdings in
    each_more (instrs_of c.args.code.now) c.loop-place.place (plain c.args.code.now c.instr_at.result) (λ p i.
    IsClearAt i (fact_at c.args.depths.now p) (fact_at c.args.holdings.now p)) c.instr_at.ensures
    c.loop-place.invariant
    ((clear_read c.args.depths.now c.args.holdings.now (plain c.args.code.now c.instr_at.result) c.loop-place.place _
    _ (omega arith) (omega arith)).0 (c.if-not-is_clear.ensures.0 refl))

pub returns : goal.returns
returns c =
    let n = c.places-place-end.ensures in (
      λ _. clear_from (process_view c.args.code.now) c.args.depths.now c.args.holdings.now c.requires.depths c.requires.holdings
          (each_all (instrs_of c.args.code.now) c.loop-place.place (λ p i. IsClearAt i (fact_at c.args.depths.now p)
          (fact_at c.args.holdings.now p)) (omega arith) c.loop-place.invariant),
      λ _. refl,
    )
