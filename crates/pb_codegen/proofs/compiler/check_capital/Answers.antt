use Rattle.std.proofs.Common.{◌≤◌, ℕ, List, subst, arith}
use Rattle.std.proofs.lemmas.Grind.{common_steps}
use Rattle.std.proofs.lemmas.List.Elements.{All-map}
use Rattle.pb_claims.specs.Fits.{FitCapital, IsFirstOver}
use Rattle.pb_names.specs.View.{resolved_view}
use Rattle.pb_codegen.proofs.VerifiedProcesses.{generatable}
use Rattle.pb_codegen.proofs.TextOutcomes.{capital_width, claims_width}
use Rattle.pb_codegen.proofs.compiler.check_capital.Goals as goal

pub capital-requires-clause-small : goal.capital-requires-clause-small
capital-requires-clause-small g c =
    let is = c.requires.1 in
    All-map (λ n. n ≤ 1000000) (λ r. r.capital) (resolved_view c.args.program.now).resources
    (generatable is.tree (resolved_view c.args.program.now) is.spelled.limits is.numbered).small

pub capital-requires-clause-few : goal.capital-requires-clause-few
capital-requires-clause-few g c =
    let is = c.requires.1 in
    (generatable is.tree (resolved_view c.args.program.now) is.spelled.limits is.numbered).few_resources

pub fits-requires : goal.fits-requires
fits-requires g c =
    let is = c.requires.1 in
    capital_width (resolved_view c.args.program.now) c.in_ok-capital.capital c.args.claims.now c.in_ok-capital.ensures
    (claims_width is.tree (resolved_view c.args.program.now) c.args.claims.now is.numbered is.claimed)

pub returns-in-Ok-clause-enough : goal.returns-in-Ok-clause-enough
returns-in-Ok-clause-enough g c =
    let same = c.in_ok-capital.ensures in
    subst (FitCapital c.args.claims.now) same c.in-Ok.ensures.fits

pub returns-clause-over : goal.returns-clause-over
returns-clause-over g c =
    let same = c.in_ok-capital.ensures in
    record {
      over = c.in-Err.over;
      first = subst (λ (amounts : List ℕ). IsFirstOver c.args.claims.now amounts c.in-Err.over) same c.in-Err.ensures.over;
      named = c.in_ok-name_claim-in-Err.ensures;
    }

pub name_claim-requires-clause-process : goal.name_claim-requires-clause-process
name_claim-requires-clause-process g c = grind (arith, common_steps) steps 400000

pub name_claim-requires-clause-resource : goal.name_claim-requires-clause-resource
name_claim-requires-clause-resource g c = grind (arith, common_steps) steps 400000
