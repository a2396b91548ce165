-- One lane more.
use Rattle.std.proofs.Common.{List, [], ◌∷◌, ◌++◌, inl, inr, subst}
use Rattle.pb_base.specs.declared.lending.Lending.{Lending}
use Rattle.pb_base.specs.declared.pick.Pick.{Pick}
use Rattle.pb_code.specs.Whole.{Code}
use Rattle.pb_draw.specs.Drawings.{AreLanes}
use Rattle.pb_draw.specs.Lanes.{IsLane}
use Rattle.pb_draw.specs.declared.drawing.Lane.{Lane}
use Rattle.pb_machine.proofs.BuiltLists.{at_push}

pub lanes_more : (lending : Lending) (code : Code) (picks : List Pick) (lanes : List Lane) (lane : Lane)
    → AreLanes lending code picks lanes → IsLane lending code picks lane → AreLanes lending code picks (lanes ++ lane ∷ [])
lanes_more lending code picks lanes lane before here = λ k x there.
    elim (at_push lanes lane x k there) [
      | inl earlier ↦ before k x earlier
      | inr last ↦ subst (λ (y : Lane). IsLane lending code picks y) last.1 here
    ]
