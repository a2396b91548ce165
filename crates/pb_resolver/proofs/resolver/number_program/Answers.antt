use Rattle.std.proofs.Common.{arith, map}
use Rattle.std.proofs.lemmas.List.{length-map}
use Rattle.pb_tree.specs.Syntax.{NameSyntax, ResourceSyntax}
use Rattle.pb_tree.specs.View.{program_view, resource_view}
use Rattle.pb_names.specs.declared.fault.Kind.TheVariants.{Resources}
use Rattle.pb_names.proofs.FirstCauses.{free_left, free_right}
use Rattle.pb_names.proofs.Wholes.{whole_program, each_fitting}
use Rattle.pb_resolver.proofs.resolver.number_program.Goals as goal

pub returns : goal.returns
returns g c =
    whole_program (program_view c.args.program.now) _ _ c.requires.complete c.requires.within c.requires.free
    c.in_ok-resources.ensures (rw c.in_ok-names.ensures at c.in_ok-processes.ensures)

pub number_processes-requires-clause-fitting : goal.number_processes-requires-clause-fitting
number_processes-requires-clause-fitting g c =
    each_fitting (program_view c.args.program.now) c.requires.within c.requires.complete

pub number_processes-requires-clause-free : goal.number_processes-requires-clause-free
number_processes-requires-clause-free g c = rw c.in_ok-names.ensures (free_right c.requires.free)

pub number_resources-requires : goal.number_resources-requires
number_resources-requires g c = free_left c.requires.free

pub number_processes-requires-clause-few_resources : goal.number_processes-requires-clause-few_resources
number_processes-requires-clause-few_resources g c =
    let rs = map resource_view c.args.program.now.resources.items in
    let names = map (λ (r : ResourceSyntax). r.name) rs in
    rw c.in_ok-names.ensures
    (omega (
      arith,
      length-map names (λ (n : NameSyntax). n.text),
      length-map rs (λ (r : ResourceSyntax). r.name),
      c.requires.within.within Resources,
    ))
