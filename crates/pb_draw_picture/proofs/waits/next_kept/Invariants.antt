use Rattle.std.proofs.Common.{◌≡◌, drop}
use Rattle.pb_draw_picture.specs.Waits as spec
use Rattle.pb_draw_picture.proofs.waits.next_kept.Given as goal

-- in none of the steps so far is the arm kept back
abbrev pub invariant-loop-step : goal.invariant-loop-step
invariant-loop-step l = spec.next_kept l.steps ≡ spec.next_kept (drop l.step-index l.steps)
