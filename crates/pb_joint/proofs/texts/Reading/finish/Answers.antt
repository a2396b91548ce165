use Rattle.std.proofs.Common.{Vec, Global, ℕ, Option, map, subst, arith}
use Rattle.std.proofs.lemmas.List.{length-map}
use Rattle.std.specs.Prelude.{option_map}
use Rattle.pb_names.specs.View.{process_view, resolved_view}
use Rattle.pb_names.specs.declared.resolved.Resolved.{Resolved}
use Rattle.pb_tree.specs.View.{program_view}
use Rattle.pb_joint.specs.View.{full_name}
use Rattle.pb_joint.specs.Texts.{AreSoFar}
use Rattle.pb_joint.proofs.TextLemmas.{named_all, not_none, read_as}
use Rattle.pb_joint.proofs.texts.Reading.finish.Goals as goal

pub unreachable-requires : goal.unreachable-requires
unreachable-requires c =
    not_none c.requires.2 c.requires.0 c.requires.1 (program_view c.args.self.whole) c.args.self.program resolved_view
    (map full_name c.args.self.names.items) c.requires.3 c.in_default.is c.requires.4

pub returns-clause-read : goal.returns-clause-read
returns-clause-read c texts trees several so_far =
    let names = map full_name c.args.self.names.items in
    read_as several texts trees (program_view c.args.self.whole) (resolved_view c.in-Some.program) names c.in_ok-claims.claims
    (subst (λ (o : Option (Resolved Global)). AreSoFar several texts trees (program_view c.args.self.whole) (option_map resolved_view o) names)
    c.in-Some.is so_far) c.in_ok-claims.ensures.exact

pub returns-clause-named : goal.returns-clause-named
returns-clause-named c =
    let names = map full_name c.args.self.names.items in
    let all = named_all c.requires.2 c.requires.0 c.requires.1 (program_view c.args.self.whole) (resolved_view c.in-Some.program) names
    (subst (λ (o : Option (Resolved Global)). AreSoFar c.requires.2 c.requires.0 c.requires.1 (program_view c.args.self.whole)
    (option_map resolved_view o) names) c.in-Some.is c.requires.3) in
    let a = length-map c.args.self.names.items full_name in
    let b = length-map c.in-Some.program.processes.items process_view in
    omega (arith, all, a, b)
