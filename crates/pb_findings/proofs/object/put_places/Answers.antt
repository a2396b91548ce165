use Rattle.std.proofs.Common.{List, ℕ, ◌++◌, codes}
use Rattle.pb_findings.specs.Objects.{first_text, offset_member, spot_text}
use Rattle.pb_findings.specs.Spots.{spots_of}
use Rattle.pb_findings.specs.Strings.{items_text}
use Rattle.pb_findings.specs.declared.spot.Spot.{Spot}
use Rattle.pb_findings.proofs.ObjectLemmas.{on_ok, then}
use Rattle.pb_findings.proofs.object.put_places.Goals as goal

pub returns : goal.returns
returns c =
    let spots : List Spot = spots_of c.args.refusal.now in
    let close : List ℕ = codes "]" in
    let items : List ℕ = items_text spot_text spots in
    let list : List ℕ = codes "[" ++ (items ++ close) in
    let named : List ℕ = codes ", \"places\": " ++ list in
    on_ok c.put-3.result
    (λ last.
    then c.args.out.now.items c.put_offset.new.out.items c.put-3.new.out.items (offset_member c.args.refusal.now.offset) (first_text spots ++ named)
    c.in_ok-put_offset.ensures
    (then c.put_offset.new.out.items c.put_first_spot.new.out.items c.put-3.new.out.items (first_text spots) named c.in_ok-put_first_spot.ensures
    (then c.put_first_spot.new.out.items c.put.new.out.items c.put-3.new.out.items (codes ", \"places\": ") list c.in_ok-put.ensures
    (then c.put.new.out.items c.put-2.new.out.items c.put-3.new.out.items (codes "[") (items ++ close) c.in_ok-put-2.ensures
    (then c.put-2.new.out.items c.put_all_spots.new.out.items c.put-3.new.out.items items close c.in_ok-put_all_spots.ensures last)))))
    c.put-3.ensures
