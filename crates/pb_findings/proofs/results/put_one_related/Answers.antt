use Rattle.std.proofs.Common.{List, ℕ, ◌+◌, ◌++◌, codes, decimal}
use Rattle.pb_findings.specs.Sarif.{comma_before, place_sarif}
use Rattle.pb_findings.proofs.ObjectLemmas.{on_ok, then}
use Rattle.pb_findings.proofs.results.put_one_related.Goals as goal

pub returns : goal.returns
returns c =
    let x0 : List ℕ = comma_before c.args.number in
    let x1 : List ℕ = codes "\n            {\n              \"id\": " in
    let x2 : List ℕ = decimal (c.args.number + 1) in
    let x3 : List ℕ = codes ",\n              " in
    let x4 : List ℕ = place_sarif c.args.name.now c.args.spot.now in
    let x5 : List ℕ = codes "\n            }" in
    on_ok c.put-3.result (λ last. (then c.args.out.now.items c.put_comma.new.out.items c.put-3.new.out.items x0 (x1 ++ (x2 ++ (x3 ++ (x4 ++ x5)))) c.in_ok-put_comma.ensures
    (then c.put_comma.new.out.items c.put.new.out.items c.put-3.new.out.items x1 (x2 ++ (x3 ++ (x4 ++ x5))) c.in_ok-put.ensures
    (then c.put.new.out.items c.put_digits.new.out.items c.put-3.new.out.items x2 (x3 ++ (x4 ++ x5)) c.in_ok-put_digits.ensures
    (then c.put_digits.new.out.items c.put-2.new.out.items c.put-3.new.out.items x3 (x4 ++ x5) c.in_ok-put-2.ensures
    (then c.put-2.new.out.items c.put_place.new.out.items c.put-3.new.out.items x4 x5 c.in_ok-put_place.ensures
    last))))))
    c.put-3.ensures
