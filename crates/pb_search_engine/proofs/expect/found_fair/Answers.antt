use Rattle.std.proofs.Common.{subst}
use Rattle.std.proofs.lemmas.Result.{MatchResult-weaker}
use Rattle.pb_base.specs.declared.lending.Lending.{Lending}
use Rattle.pb_options.specs.Lends.{lending_for}
use Rattle.pb_search_fair.specs.CodeRuns.{TellsFairRuns}
use Rattle.pb_search_engine.specs.SourceOutcomes.{without_prints}
use Rattle.pb_verifier.specs.Verified.{VerifiedCode}
use Rattle.pb_search_engine.proofs.expect.found_fair.Goals as goal

pub returns : goal.returns
returns c =
    let told = c.in_ok-told.told in
    let states = c.args.options.states in
    let tells =
    subst (λ (v : VerifiedCode). TellsFairRuns (without_prints (lending_for c.args.options.lend)) v.code states told) c.verified.ensures
    (subst (λ (l : Lending). TellsFairRuns (without_prints l) c.verified.result.now.code states told) c.lending-lending.ensures c.in_ok-told.ensures) in
    MatchResult-weaker c.fair_answer.result c.fair_answer.ensures (λ a h. (told, tells, h.0, h.1)) (λ e h. h)
