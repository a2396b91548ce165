use Rattle.std.proofs.Common.{◌≤◌}
use Rattle.std.proofs.lemmas.List.Elements.{All-map}
use Rattle.pb_generator.proofs.Programs.{same_code}
use Rattle.pb_names.specs.View.{resolved_view}
use Rattle.pb_generator.proofs.generator.generate.Goals as goal

pub capital-requires-clause-few : goal.capital-requires-clause-few
capital-requires-clause-few g c = c.requires.few_resources

pub returns-clause-code : goal.returns-clause-code
returns-clause-code g c =
    same_code _ _ _ _ _ _ _ _ c.in_ok-names.ensures
    c.in_ok-capital.ensures
    c.in_ok-claims.ensures c.in_ok-processes.ensures.code

pub capital-requires-clause-small : goal.capital-requires-clause-small
capital-requires-clause-small g c =
    All-map (λ n. n ≤ 1000000) (λ r. r.capital) (resolved_view c.args.program.now).resources c.requires.small
