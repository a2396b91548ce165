use Rattle.std.proofs.Common.{◌∙◌, []}
use Rattle.pb_tree.specs.View.{process_view}
use Rattle.pb_server_claims.proofs.Lookups.{read_through}
use Rattle.pb_server_claims.proofs.named.declared_name.Goals as goal

pub returns-in-Some : goal.returns-in-Some
returns-in-Some c =
    let at = c.in-Some.ensures.lookup in
    c.deref-in-Some.ensures.value
    ∙ read_through process_view (λ process. process.name.text) c.deref.result.now c.args.tree.now.processes.items c.args.p
    c.in-Some.process.now [] c.deref.ensures.value at.3.0 at.1
