use Rattle.std.proofs.Common.{◌≡◌, IfOk, subst}
use Rattle.pb_names.specs.Program.{Skip}
use Rattle.pb_names.specs.View.{process_view}
use Rattle.pb_plan.specs.Parts.{parts}
use Rattle.pb_server_claims.proofs.Lookups.{read_through}
use Rattle.pb_server_claims.proofs.numbered.Numbered.parts.Goals as goal

pub returns-in-Some : goal.returns-in-Some
returns-in-Some c =
    let at = c.in-Some.ensures.lookup in
    subst (λ body. IfOk c.claim_parts.result (λ found. found.items ≡ parts c.args.r body))
    (read_through process_view (λ process. process.body) c.deref.result.now c.args.self.now.program.processes.items c.args.p
    c.in-Some.process.now Skip c.deref.ensures.value at.3.0 at.1)
    c.claim_parts.ensures
