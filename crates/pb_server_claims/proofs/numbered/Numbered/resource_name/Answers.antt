use Rattle.std.proofs.Common.{◌∙◌, []}
use Rattle.pb_names.specs.View.{resource_view}
use Rattle.pb_server_claims.proofs.Lookups.{read_through}
use Rattle.pb_server_claims.proofs.numbered.Numbered.resource_name.Goals as goal

pub returns-in-Some : goal.returns-in-Some
returns-in-Some c =
    let at = c.in-Some.ensures.lookup in
    c.deref-in-Some.ensures.value
    ∙ read_through resource_view (λ resource. resource.name) c.deref.result.now c.args.self.now.program.resources.items c.args.r
    c.in-Some.resource.now [] c.deref.ensures.value at.3.0 at.1
