use Rattle.std.proofs.Common.{List, ℕ, ◌++◌, codes, string_bytes}
use Rattle.pb_findings.specs.Sarif.{address_sarif, region_sarif, what_sarif}
use Rattle.pb_findings.proofs.ObjectLemmas.{on_ok, then}
use Rattle.pb_findings.proofs.results.put_place.Goals as goal

pub returns : goal.returns
returns c =
    let x0 : List ℕ = address_sarif c.args.name.now in
    let x1 : List ℕ = region_sarif c.args.spot.now.line c.args.spot.now.column in
    let x2 : List ℕ = codes "\n              }" in
    let x3 : List ℕ = what_sarif (string_bytes c.args.spot.now.what) in
    on_ok c.put_what.result (λ last. (then c.args.out.now.items c.put_address.new.out.items c.put_what.new.out.items x0 (x1 ++ (x2 ++ x3)) c.in_ok-put_address.ensures
    (then c.put_address.new.out.items c.put_region.new.out.items c.put_what.new.out.items x1 (x2 ++ x3) c.in_ok-put_region.ensures
    (then c.put_region.new.out.items c.put.new.out.items c.put_what.new.out.items x2 x3 c.in_ok-put.ensures
    (rw (c.as_bytes.ensures.value) at last)))))
    c.put_what.ensures
