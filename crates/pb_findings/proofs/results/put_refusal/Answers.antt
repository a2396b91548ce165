use Rattle.std.proofs.Common.{List, ℕ, ◌++◌, codes}
use Rattle.pb_findings.specs.Rules.{rule_name}
use Rattle.pb_findings.specs.Sarif.{message_sarif, result_head, result_places}
use Rattle.pb_findings.specs.Spots.{spots_of}
use Rattle.pb_findings.proofs.ObjectLemmas.{on_ok, then}
use Rattle.pb_findings.proofs.results.put_refusal.Goals as goal

pub returns : goal.returns
returns c =
    let x0 : List ℕ = result_head (codes "error") (rule_name c.args.refusal.now.rule) in
    let x1 : List ℕ = message_sarif c.args.refusal.now in
    let x2 : List ℕ = result_places c.args.name.now (spots_of c.args.refusal.now) in
    on_ok c.put_places.result (λ last. (then c.args.out.now.items c.put_head.new.out.items c.put_places.new.out.items x0 (x1 ++ x2) (rw (c.as_bytes.ensures.value, c.name.ensures) at c.in_ok-put_head.ensures)
    (then c.put_head.new.out.items c.put_message.new.out.items c.put_places.new.out.items x1 x2 c.in_ok-put_message.ensures
    (rw (c.places.ensures) at last))))
    c.put_places.ensures
