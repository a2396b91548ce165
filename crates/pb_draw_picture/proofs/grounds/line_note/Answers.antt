use Rattle.std.proofs.Common.{refl}
use Rattle.pb_draw_picture.specs.Grounds.{line_note}
use Rattle.pb_draw_picture.proofs.grounds.line_note.Goals as goal

pub returns : goal.returns
unfolding line_note
returns c = refl
