use Rattle.pb_claims.proofs.Bounds.{small_claims}
use Rattle.pb_names.specs.View.{resolved_view}
use Rattle.pb_server_claims.proofs.numbered.claims_of.Goals as goal

pub returns : goal.returns
returns c =
    c.infer.ensures.exact
    (small_claims c.requires.2 (resolved_view c.args.program.now) c.requires.4 c.requires.3.tree_of.small.nodes)
