use Rattle.std.proofs.Common.{refl}
use Rattle.pb_draw_picture.specs.Svg.{style}
use Rattle.pb_draw_picture.proofs.svg.style.Goals as goal

pub returns : goal.returns
unfolding style
returns c = refl
