use Rattle.std.proofs.Common.{List, ℕ, ◌++◌, codes}
use Rattle.pb_findings.proofs.ObjectLemmas.{on_ok, then}
use Rattle.pb_findings.proofs.results.put_address.Goals as goal

pub returns : goal.returns
returns c =
    let x0 : List ℕ = codes "\"physicalLocation\": {\n                \"artifactLocation\": {\n                  \"uri\": \"" ++ c.args.name.now in
    let x1 : List ℕ = codes "\"\n                }" in
    on_ok c.put.result (λ last. (then c.args.out.now.items c.put_name.new.out.items c.put.new.out.items x0 x1 c.in_ok-put_name.ensures
    last))
    c.put.ensures
