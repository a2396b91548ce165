use Rattle.std.proofs.Common.{List, ℕ, ◌++◌, codes}
use Rattle.pb_findings.specs.Objects.{warnings_text}
use Rattle.pb_findings.proofs.ObjectLemmas.{on_ok, then}
use Rattle.pb_findings.proofs.object.put_acceptance.Goals as goal

pub returns : goal.returns
returns c =
    let x0 : List ℕ = codes ", \"accepted\": true" in
    let x1 : List ℕ = warnings_text c.args.warn c.args.warned.now in
    let x2 : List ℕ = codes "}\n" in
    on_ok c.put-2.result (λ last. (then c.args.out.now.items c.put.new.out.items c.put-2.new.out.items x0 (x1 ++ x2) c.in_ok-put.ensures
    (then c.put.new.out.items c.put_warnings.new.out.items c.put-2.new.out.items x1 x2 c.in_ok-put_warnings.ensures
    last)))
    c.put-2.ensures
