-- Who fits by one resource along an order.
use Rattle.std.proofs.Common.{◌≡◌, ℕ, ◌+◌, ◌<◌, ◌≤◌, List, length, get_or, take, arith, ap, ◌∙◌}
use Rattle.std.specs.List.Sorted.{IsPermutation}
use Rattle.std.proofs.lemmas.List.{length-take, take_more, take-take, get_or-take}
use Rattle.std.proofs.lemmas.List.FromFn.{length-range_with_len}
use Rattle.std.proofs.lemmas.List.Sums.{sum_by_push}
use Rattle.std.proofs.lemmas.List.Sorted.{length_permutation}
use Rattle.pb_base.specs.Banker.{BankerState, resources, processes, loan, cash, held_by, remaining_claim, everyone}
use Rattle.pb_base.proofs.Safety.{all_held}
use Rattle.pb_base.proofs.Tails.{sum_by_parts}
use Rattle.pb_banker.specs.declared.accounts.Accounts.{Accounts}
use Rattle.pb_banker.specs.Accounts.{state_of, IsSound}
use Rattle.pb_banker.specs.Askers.{FitBy}
use Rattle.pb_banker.proofs.TableCells.{processes_of, resources_of}

module _ (a : Accounts) (h : IsSound a) (order : List ℕ) (k r : ℕ)
    (all : IsPermutation (everyone (state_of a)) (take a.processes order)) (l : k < a.processes) where
  many : length (take a.processes order) ≡ a.processes
  many =
      length_permutation (everyone (state_of a)) (take a.processes order) all
      ∙ length-range_with_len 0 (processes (state_of a))
      ∙ processes_of a h

  -- the next loan fits beside the cash and the loans before it
  pub room_by : r < a.resources
      → cash (state_of a) r + held_by (state_of a) (take k order) r + loan (state_of a) (get_or order k 0) r ≤ 1000000
  room_by lr =
      let lr' : r < resources (state_of a) = (let e = resources_of a h in omega (arith, e, lr)) in
      let n = many in
      let parts = sum_by_parts (λ q. loan (state_of a) q r) (take a.processes order) k (omega (arith, n, l)) in
      let front : held_by (state_of a) (take k (take a.processes order)) r ≡ held_by (state_of a) (take k order) r =
      ap (λ (xs : List ℕ). held_by (state_of a) xs r) (take-take k a.processes order (omega (arith, l))) in
      let at : loan (state_of a) (get_or (take a.processes order) k 0) r ≡ loan (state_of a) (get_or order k 0) r =
      ap (λ (q : ℕ). loan (state_of a) q r) (get_or-take a.processes order k 0 l) in
      let whole = all_held (state_of a) (take a.processes order) r all in
      let within = h.well_formed.lent r lr' in
      let small = h.well_formed.small r lr' in
      omega (arith, parts, front, at, whole, within, small)

  -- with one more
  pub held_more : held_by (state_of a) (take (k + 1) order) r
      ≡ held_by (state_of a) (take k order) r + loan (state_of a) (get_or order k 0) r
  held_more =
      let n = many in
      let m = length-take a.processes order in
      ap (λ (xs : List ℕ). held_by (state_of a) xs r) (take_more order k 0 (omega (arith, n, m, l)))
      ∙ sum_by_push (λ q. loan (state_of a) q r) (take k order) (get_or order k 0)

-- those before a place fit if each fits after those before it
pub fit_by : (s : BankerState) (order : List ℕ) (place r : ℕ)
    → ((j : ℕ) → j < place → remaining_claim s (get_or order j 0) r ≤ cash s r + held_by s (take j order) r)
    → FitBy s (take place order) r
fit_by s order place r each k l =
    let many = length-take place order in
    let below : k < place = omega (arith, many, l) in
    let at : get_or (take place order) k 0 ≡ get_or order k 0 = get_or-take place order k 0 below in
    let front : take k (take place order) ≡ take k order = take-take k place order (omega (arith, below)) in
    rw (at, front) (each k below)
