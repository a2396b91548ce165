use Rattle.std.proofs.Common.{◌∙◌, ℕ, List, ap}
use Rattle.pb_server_claims.specs.Numbered.{claim, numbered, process_name}
use Rattle.pb_server_claims.specs.Said.{holder_words}
use Rattle.pb_server_claims.proofs.Each.{each_next}
use Rattle.pb_server_claims.proofs.said.put_holders.Goals as goal

pub loop-p-preserved : goal.loop-p-preserved
loop-p-preserved c =
    let n = numbered c.args.program.now in
    let r = c.args.r in
    let p = c.loop-p.p in
    let name = c.process_name.result.now in
    each_next (λ k. holder_words (process_name n k) (claim n k r)) p c.put.new.out.items c.loop-p.out.items _
    (holder_words name c.claim.result) c.loop-p.invariant c.in_ok-put_holder.ensures
    (ap (λ (k : ℕ). holder_words name k) c.claim.ensures
    ∙ ap (λ (t : List ℕ). holder_words t (claim n p r)) c.process_name.ensures)
