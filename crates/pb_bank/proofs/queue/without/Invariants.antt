use Rattle.std.proofs.Common.{◌≡◌, take}
use Rattle.pb_bank.specs.Queues.{without_wish}
use Rattle.pb_bank.proofs.queue.without.Given as goal

abbrev pub invariant-loop-wish : goal.invariant-loop-wish
invariant-loop-wish l = l.others.items ≡ without_wish (take l.wish-index l.wishes) l.job
