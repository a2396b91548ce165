use Rattle.std.proofs.Common.{◌≡◌, ◌+◌, ◌++◌, ◌∷◌, ◌∙◌, List, ap, append_assoc, arith, drop, sym}
use Rattle.std.proofs.lemmas.List.{drop_more}
use Rattle.pb_findings.specs.Sarif.{related_from, related_sarif}
use Rattle.pb_findings.specs.declared.spot.Spot.{Spot}
use Rattle.pb_findings.proofs.results.put_all_related.Goals as goal

pub loop-i-preserved : goal.loop-i-preserved
loop-i-preserved c =
    let name = c.args.name.now in
    let spots = c.args.spots.now in
    let i = c.loop-i.i in
    let spot : Spot = c.index-spots-i.result in
    let is = c.index-spots-i.is in
    let more = drop_more spots i spot c.loop-i-test.true in
    let cut : drop i spots ≡ spot ∷ drop (i + 1) spots = grind (arith, more, is) in
    rw c.in_ok-put_one_related.ensures
    (append_assoc c.loop-i.out.items (related_sarif name i spot) (related_from name (i + 1) (drop (i + 1) spots))
    ∙ (ap (λ (l : List Spot). c.loop-i.out.items ++ related_from name i l) (sym cut) ∙ c.loop-i.invariant))
