-- The slots of an order, and of names.
use Rattle.std.proofs.Common.{ℕ, ◌<◌, List, get_or, length, All, arith}
use Rattle.std.proofs.lemmas.List.Elements.{All-from_get_or}
use Rattle.std.proofs.lemmas.List.FromFn.{length-range_with_len, get_or-range_with_len}
use Rattle.std.proofs.lemmas.List.Sorted.{All-permutation}
use Rattle.pb_base.specs.Banker.{BankerState, IsLeastFirst, IsWellFormed, everyone, processes}

-- an order in which all finish names slots
pub order_is_below : (s : BankerState) (order : List ℕ) → IsWellFormed s → IsLeastFirst s order → All (λ p. p < 64) order
order_is_below s order good is =
    All-permutation (λ p. p < 64) (everyone s) order is.finishes.everyone
    (All-from_get_or (λ p. p < 64) (everyone s) 0 below)
  where
    below : (i : ℕ) → i < length (everyone s) → get_or (everyone s) i 0 < 64
    below i less =
        let few = good.few_processes in
        let all = length-range_with_len 0 (processes s) in
        let at = get_or-range_with_len 0 (processes s) i 0 (omega (arith, less, all)) in
        omega (arith, less, all, at, few)
