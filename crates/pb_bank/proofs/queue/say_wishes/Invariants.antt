use Rattle.std.proofs.Common.{◌≡◌, ◌++◌, take}
use Rattle.pb_bank.specs.Queues.{wishes_said}
use Rattle.pb_bank.proofs.queue.say_wishes.Given as goal

abbrev pub invariant-loop-wish : goal.invariant-loop-wish
invariant-loop-wish l = l.out.items ≡ l.initial.out.items ++ wishes_said (take l.wish-index l.wishes)
