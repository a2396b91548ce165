use Rattle.std.proofs.Common.{◌≡◌, ◌<◌, ◌∙◌, List, ℕ, ap, subst, sym}
use Rattle.std.proofs.lemmas.List.{length-map}
use Rattle.pb_base.specs.Steppers.{Table}
use Rattle.pb_claims.specs.Fits.{FitCapital}
use Rattle.pb_code.specs.Whole.{Code}
use Rattle.pb_names.specs.Program.{Program, capital_of}
use Rattle.pb_names.specs.View.{resolved_view}
use Rattle.pb_tests.proofs.agreement.sides.program_of.Goals as goal

pub returns : goal.returns
returns c =
    let program = resolved_view c.in_ok-analysis.analysis.program in
    let code = c.in_ok-compiled.compiled.verified.code in
    let is = c.in_ok-analysis.ensures.analyzed in
    let compiled = c.in_ok-compiled.ensures.compiled in
    let same = c.one_analysis.ensures c.args.text.now compiled.program program code.claims _ compiled.numbered is in
    let capital : code.capital ≡ capital_of program =
    ap (λ (x : Code). x.capital) compiled.generated ∙ ap (λ (p : Program). capital_of p) same.0 in
    let enough = subst (λ (t : Table). FitCapital t (capital_of program)) same.1
    (subst (λ (amounts : List ℕ). FitCapital code.claims amounts) capital compiled.enough) in
    c.resolved_programs_fit.ensures is.tree program _ is.numbered is.claimed
    (λ p r in_claims in_resources. enough p in_claims r
    (subst (λ count. r < count) (sym (length-map program.resources (λ resource. resource.capital))) in_resources))
