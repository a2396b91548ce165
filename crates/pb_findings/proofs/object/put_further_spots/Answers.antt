use Rattle.std.proofs.Common.{◌≡◌, ◌+◌, ◌++◌, ◌∷◌, [], List, arith, subst, sym, take}
use Rattle.std.specs.List.{flat_map}
use Rattle.std.proofs.lemmas.List.{take_more}
use Rattle.pb_findings.specs.Objects.{spot_text}
use Rattle.pb_findings.specs.Strings.{further}
use Rattle.pb_findings.specs.declared.spot.Spot.{Spot}
use Rattle.pb_findings.proofs.ObjectLemmas.{one_further}
use Rattle.pb_findings.proofs.object.put_further_spots.Goals as goal

pub loop-spot-preserved : goal.loop-spot-preserved
loop-spot-preserved c =
    let spots = c.args.spots.now in
    let i = c.loop-spot.spot-index in
    let spot : Spot = c.spot-item.result in
    let test = c.loop-spot-test.true in
    let is = c.spot-item.is in
    let one = take_more spots i spot test in
    let taken : take (i + 1) spots ≡ take i spots ++ spot ∷ [] = grind (arith, one, is) in
    subst (λ (those : List Spot). c.put_spot.new.out.items ≡ c.args.out.now.items ++ flat_map (further spot_text) those) (sym taken)
    (one_further spot_text c.args.out.now.items c.loop-spot.out.items c.put.new.out.items c.put_spot.new.out.items
    (take i spots) spot c.loop-spot.invariant c.in_ok-put.ensures c.in_ok-put_spot.ensures)
