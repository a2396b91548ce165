use Rattle.std.proofs.Common.{◌≡◌, ℕ, Some, sym, subst, ◌∙◌}
use Rattle.pb_verifier.specs.Flow.{target_of}
use Rattle.pb_verifier.specs.Given.{instrs_of, plain}
use Rattle.pb_verifier.specs.Spread.{AgreesAt}
use Rattle.pb_verifier.proofs.facts.agrees_at_target.Goals as goal

pub returns-in-Some : goal.returns-in-Some
returns-in-Some g c =
    let t : Some c.in-Some.next ≡ target_of (plain c.args.code.now c.args.instr) = c.in-Some.ensures c.args.code.now.bundles.items in (
      λ e q to.
          let both : Some c.in-Some.next ≡ Some q = t ∙ to in
          let same : c.in-Some.next ≡ q = cc in
          subst (λ (x : ℕ). AgreesAt (g.F.Fact.value (instrs_of c.args.code.now) c.args.table.now) c.args.table.now c.args.fact x) same (c.agrees.ensures.0 e),
      λ all. c.agrees.ensures.1 (all c.in-Some.next (sym t)),
    )
