use Rattle.std.proofs.Common.{◌≡◌, ◌∙◌, ℕ, get_or, refl, subst, sym}
use Rattle.pb_codegen.proofs.TextNames.{process_name, resource_name}
use Rattle.pb_codegen.proofs.compiler.name_claim.Goals as goal

pub returns : goal.returns
returns g c =
    let given = c.args.program.now in
    let process = process_name given.processes.items c.args.over.process c.index-process.result.now c.requires.process
    (subst (λ (i : ℕ). c.index-process.result.now ≡ get_or given.processes.items i c.index-process.result.now) c.from.ensures c.index-process.ensures) in
    let resource = resource_name given.resources.items c.args.over.resource c.index-resource.result.now c.requires.resource
    (subst (λ (i : ℕ). c.index-resource.result.now ≡ get_or given.resources.items i c.index-resource.result.now) c.from-2.ensures c.index-resource.ensures) in
    record {
      process = c.in_ok-from_slice.ensures.items ∙ c.deref.ensures.value ∙ sym process;
      resource = c.in_ok-from_slice-2.ensures.items ∙ c.deref-2.ensures.value ∙ sym resource;
      claim = refl;
      capital = refl;
    }
