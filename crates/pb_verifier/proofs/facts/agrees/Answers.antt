use Rattle.std.proofs.Common.{◌≡◌, Some, None, sym, subst, ◌∙◌}
use Rattle.std.proofs.lemmas.List.{get_or_default}
use Rattle.pb_verifier.specs.Given.{instrs_of}
use Rattle.pb_verifier.specs.Spread.{fact_at}
use Rattle.pb_verifier.proofs.facts.agrees.Goals as goal

pub returns-in-Some : goal.returns-in-Some
returns-in-Some g c =
    let here : fact_at c.args.table.now c.args.place ≡ Some c.in-Some.found = get_or_default c.args.table.now
    c.args.place None _ c.requires.place ∙ c.in-Some.is in
    let Means : g.row.F.Denot → g.F.Fact.Value = λ x. g.F.Fact.value (instrs_of c.args.code.now) c.args.table.now x in
    let same = c.same.ensures in (
      λ e found there.
          let both : Some c.in-Some.found ≡ Some found = sym here ∙ there in
          let is : c.in-Some.found ≡ found = cc in
          subst (λ (x : g.row.F.Denot). Means x ≡ Means c.args.fact) is (same.0 e),
      λ all. same.1 (all c.in-Some.found here),
    )
