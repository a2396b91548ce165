use Rattle.pb_history.proofs.Positions.{replays_reach}
use Rattle.pb_history.proofs.laws.replays_reach_positions.Goals as goal

pub returns : goal.returns
returns c = replays_reach
