use Rattle.std.proofs.lemmas.Grind.{common_steps}
use Rattle.std.proofs.Common.{◌+◌, ◌≡◌, true, false, refl, sym, arith}
use Rattle.pb_verifier.specs.Given.{instrs_of, plain}
use Rattle.pb_verifier.specs.Spread.{AgreesAt}
use Rattle.pb_verifier.proofs.ReachSearch.{all_followers, next_follows, target_follows}
use Rattle.pb_verifier.proofs.facts.all_agree.Goals as goal

pub returns-then-not-agrees_at_target : goal.returns-then-not-agrees_at_target
returns-then-not-agrees_at_target g c =
    let at_target = c.if-not-agrees_at_target.ensures in (
      λ e. let wrong : false ≡ true = e in cc,
      λ all. at_target.1 (λ q to. all q (target_follows (plain c.args.code.now c.args.instr) c.args.place q to)),
    )

pub returns : goal.returns
returns g c =
    let at_target = c.if-not-agrees_at_target.ensures in
    let on = c.if-not-falls_through.ensures in
    let h = c.agrees.ensures in (
      λ e. all_followers (plain c.args.code.now c.args.instr) c.args.place (AgreesAt (g.F.Fact.value (instrs_of
          c.args.code.now) c.args.table.now) c.args.table.now c.args.fact) (at_target.0 refl) (λ _. h.0 e),
      λ all. h.1 (all (c.args.place + 1) (next_follows (plain c.args.code.now c.args.instr) c.args.place (sym (on c.args.code.now.bundles.items)))),
    )

pub agrees-requires-clause-place : goal.agrees-requires-clause-place
agrees-requires-clause-place g c = grind (arith, common_steps) steps 400000
