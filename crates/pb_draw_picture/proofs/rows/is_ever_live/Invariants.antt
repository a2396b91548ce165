use Rattle.std.proofs.Common.{◌≡◌, drop}
use Rattle.std.specs.List.{list_any}
use Rattle.pb_draw_picture.specs.Lanes.{is_ever_live, is_live}
use Rattle.pb_draw_picture.proofs.rows.is_ever_live.Given as goal

-- the arm is live in no state so far
abbrev pub invariant-loop-step : goal.invariant-loop-step
invariant-loop-step l = is_ever_live l.lane ≡ list_any (λ s. is_live s.standing) (drop l.step-index l.lane.steps.items)
