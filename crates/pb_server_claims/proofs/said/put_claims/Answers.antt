use Rattle.std.proofs.Common.{◌∙◌, ℕ, List, ap}
use Rattle.pb_plan.specs.declared.part.Part.{Part}
use Rattle.pb_server_claims.specs.Numbered.{claim, claim_parts, numbered, resource_name}
use Rattle.pb_server_claims.specs.Said.{claim_words}
use Rattle.pb_server_claims.proofs.Each.{each_next}
use Rattle.pb_server_claims.proofs.said.put_claims.Goals as goal

pub loop-r-preserved : goal.loop-r-preserved
loop-r-preserved c =
    let n = numbered c.args.program.now in
    let p = c.args.p in
    let r = c.loop-r.r in
    let name = c.resource_name.result.now in
    let found = c.deref.result.now in
    each_next (λ k. claim_words (claim n p k) (resource_name n k) (claim_parts n p k))
    r c.args.out.now.items c.loop-r.out.items _ (claim_words c.claim.result name found)
    c.loop-r.invariant c.in_ok-put_claim.ensures
    (ap (λ (k : ℕ). claim_words k name found) c.claim.ensures
    ∙ ap (λ (t : List ℕ). claim_words (claim n p r) t found) c.resource_name.ensures
    ∙ ap (λ (l : List Part). claim_words (claim n p r) (resource_name n r) l)
    (c.deref.ensures.value ∙ c.in_ok-parts.ensures))
