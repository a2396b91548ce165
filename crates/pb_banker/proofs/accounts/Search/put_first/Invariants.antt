use Rattle.std.proofs.Common.{◌≡◌, ◌+◌, ◌++◌, false, filter, length, slice_index_or, take}
use Rattle.pb_banker.proofs.accounts.Search.put_first.Given as goal

abbrev pub invariant-loop-k : goal.invariant-loop-k
invariant-loop-k l =
    record {
      places : length l.next ≡ 64;
      count : l.count ≡ l.self.count + length (filter (λ p. slice_index_or l.self.waiting p false) (take l.k l.order));
      so_far : take l.count l.next ≡ take l.self.count l.self.order ++ filter (λ p. slice_index_or l.self.waiting p false) (take l.k l.order);
    }
