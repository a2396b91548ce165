use Rattle.std.proofs.Common.{subst}
use Rattle.pb_base.specs.declared.lending.Lending.{Lending}
use Rattle.pb_options.specs.Lends.{lending_for}
use Rattle.pb_search_engine.specs.SourceOutcomes.{without_prints}
use Rattle.pb_search_engine.proofs.EndlessLemmas.{circle_said, ends_said, many_said}
use Rattle.pb_search_fair.specs.Circles.{TellsEndless}
use Rattle.pb_search_fair.specs.declared.endless.EndlessRun.{EndlessRun}
use Rattle.pb_verifier.specs.Verified.{VerifiedCode}
use Rattle.pb_search_engine.proofs.endless.endless_found.Goals as goal

pub returns-in-AllEnd-clause-said : goal.returns-in-AllEnd-clause-said
returns-in-AllEnd-clause-said c =
    let fair = c.args.options.fair in
    let lending = lending_for c.args.options.lend in
    let states = c.args.options.states in
    let code = c.args.compiled.now.verified.code in
    let told = c.in_ok-endless_run.field-0 in
    let tells = subst (λ (v : VerifiedCode). TellsEndless (without_prints lending) v.code fair states told) c.verified.ensures
    (subst (λ (l : Lending). TellsEndless (without_prints l) c.verified.result.now.code fair states told)
    c.lending-lending.ensures c.in_ok-endless_run.ensures) in
    let none = subst (λ (told : EndlessRun). TellsEndless (without_prints lending) code fair states told) c.in-AllEnd.is tells in
    ends_said fair lending code states c.alone.result none c.alone.ensures.items c.alone.ensures.status

pub returns-in-Some-clause-said : goal.returns-in-Some-clause-said
returns-in-Some-clause-said c =
    let fair = c.args.options.fair in
    let lending = lending_for c.args.options.lend in
    let states = c.args.options.states in
    let code = c.args.compiled.now.verified.code in
    let told = c.in_ok-endless_run.field-0 in
    let tells = subst (λ (v : VerifiedCode). TellsEndless (without_prints lending) v.code fair states told) c.verified.ensures
    (subst (λ (l : Lending). TellsEndless (without_prints l) c.verified.result.now.code fair states told)
    c.lending-lending.ensures c.in_ok-endless_run.ensures) in
    let goes = subst (λ (told : EndlessRun). TellsEndless (without_prints lending) code fair states told) c.in-Some.is tells in
    circle_said fair lending code states c.circle_found.result c.in-Some.circle.lead.items c.in-Some.circle.round.items goes
    c.circle_found.ensures.told

pub returns-in-TooMany-clause-said : goal.returns-in-TooMany-clause-said
returns-in-TooMany-clause-said c =
    let fair = c.args.options.fair in
    let lending = lending_for c.args.options.lend in
    let states = c.args.options.states in
    let code = c.args.compiled.now.verified.code in
    let told = c.in_ok-endless_run.field-0 in
    let tells = subst (λ (v : VerifiedCode). TellsEndless (without_prints lending) v.code fair states told) c.verified.ensures
    (subst (λ (l : Lending). TellsEndless (without_prints l) c.verified.result.now.code fair states told)
    c.lending-lending.ensures c.in_ok-endless_run.ensures) in
    let excess = subst (λ (told : EndlessRun). TellsEndless (without_prints lending) code fair states told) c.in-TooMany.is tells in
    many_said fair lending code states c.more_than.result excess c.more_than.ensures.items c.more_than.ensures.status
