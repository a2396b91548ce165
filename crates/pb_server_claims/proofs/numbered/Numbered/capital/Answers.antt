use Rattle.pb_names.specs.View.{resource_view}
use Rattle.pb_server_claims.proofs.Lookups.{read_through}
use Rattle.pb_server_claims.proofs.numbered.Numbered.capital.Goals as goal

pub returns-in-Some : goal.returns-in-Some
returns-in-Some c =
    let at = c.in-Some.ensures.lookup in
    read_through resource_view (λ resource. resource.capital) c.deref.result.now c.args.self.now.program.resources.items c.args.r
    c.in-Some.resource.now 0 c.deref.ensures.value at.3.0 at.1
