use Rattle.pb_circles.proofs.Deadlocks.{deadlocks_have_circles}
use Rattle.pb_circles.proofs.laws.deadlocks_have_circles.Goals as goal

pub returns : goal.returns
returns c = deadlocks_have_circles
