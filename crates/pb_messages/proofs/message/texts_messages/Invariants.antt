use Rattle.std.proofs.Common.{◌+◌, ◌≤◌, length}
use Rattle.pb_messages.specs.Said.{AreSaid}
use Rattle.pb_messages.proofs.message.texts_messages.Given as goal

-- the texts before the next one are told, and each of them has a byte at least
abbrev pub invariant-loop-out : goal.invariant-loop-out
invariant-loop-out l = AreSaid l.bytes l.number l.rest l.out.items × (l.number + length l.rest ≤ length l.bytes + 1)

abbrev pub decreases-loop-out : goal.decreases-loop-out
decreases-loop-out l = length l.rest
