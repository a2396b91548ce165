use Rattle.std.proofs.Common.{◌≡◌, ◌≤◌, length, slice_index}
use Rattle.pb_base.specs.Lines.{each_below}
use Rattle.pb_bank.specs.Answers.{slot_if_in}
use Rattle.pb_bank.proofs.order.order_slots.Given as goal

abbrev pub invariant-loop-k : goal.invariant-loop-k
invariant-loop-k l = record {
  slots : l.slots ≡ each_below (λ k. slot_if_in l.bank.used (slice_index l.order k)) l.k;
  few : length l.slots ≤ l.k;
}
