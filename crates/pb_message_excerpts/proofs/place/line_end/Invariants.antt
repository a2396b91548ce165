use Rattle.std.proofs.Common.{◌≡◌, ℕ, ◌<◌, ◌≤◌, get_or}
use Rattle.pb_message_excerpts.proofs.place.line_end.Given as goal

abbrev pub invariant-loop-end : goal.invariant-loop-end
invariant-loop-end l = (k : ℕ) → l.offset ≤ k → k < l.end → get_or l.text k 0 ≡ 10 → ⊥
