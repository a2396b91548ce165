use Rattle.std.proofs.Common.{refl}
use Rattle.pb_draw_picture.specs.Heads.{deadlock_note}
use Rattle.pb_draw_picture.proofs.heads.deadlock_note.Goals as goal

pub returns : goal.returns
unfolding deadlock_note
returns c = refl
