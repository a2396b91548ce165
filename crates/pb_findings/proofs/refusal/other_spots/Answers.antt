use Rattle.std.proofs.Common.{All, List, subst, sym}
use Rattle.std.proofs.lemmas.List.Elements.{All-push}
use Rattle.pb_findings.specs.Findings.{IsSpotOf}
use Rattle.pb_findings.specs.declared.spot.Spot.{Spot}
use Rattle.pb_findings.proofs.refusal.other_spots.Goals as goal

pub loop-other-preserved : goal.loop-other-preserved
loop-other-preserved c =
    subst (λ (those : List Spot). All (IsSpotOf c.args.part.file.now) those) (sym c.in_ok-push.ensures.items)
    (All-push (IsSpotOf c.args.part.file.now) c.loop-other.spots.items c.in_ok-other_spot.field-0 c.loop-other.invariant c.in_ok-other_spot.ensures)
