-- The reached places of a process can be listed, so that its arms have greatest amounts.
use Rattle.std.proofs.Common.{◌≡◌, ◌⊎◌, ◌↔◌, inl, inr, ℕ, zero, suc, ◌+◌, ◌-◌, ◌<◌, ◌≤◌, Bool, true, false}
use Rattle.std.proofs.Common.{List, [], ◌∷◌, length, get_or, set, replicate, Option, Some, refl, sym, ◌∙◌, subst}
use Rattle.std.proofs.Common.{arith, length-set, get_or-set_same, get_or-set_other}
use Rattle.std.specs.Prelude.{Contains}
use Rattle.std.proofs.lemmas.Bool.{cases_lt}
use Rattle.std.proofs.lemmas.List.{get_or_default}
use Rattle.std.proofs.lemmas.Option.{slice_get-get_or, slice_get_within}
use Rattle.pb_base.specs.Steppers.{Bundle}
use Rattle.pb_code.specs.Code.{Instr, End, ProcessCode}
use Rattle.pb_verifier.specs.declared.amounts.Amount.{Amount}
use Rattle.pb_verifier.specs.Amounts.{IsPeakOf, clamped, held_at}
use Rattle.pb_verifier.specs.Faults.{ArePeaks, HasArms, HasForks, in_holdings, in_joined}
use Rattle.pb_verifier.specs.Flow.{IsReachedPlace, StaysInside, followers, with_marks, with_places}
use Rattle.pb_verifier.specs.Limits.{IsSmallProcess}
use Rattle.pb_verifier.specs.Places.{InstrAt, IsInArm, Reached, arm_end, arms, entry}
use Rattle.pb_verifier.proofs.ArmOrder.{arm_lies, rise_of}
use Rattle.pb_verifier.proofs.FaultFacts.{is_listed, listed_from, listed_to, reached_from, reached_to}
use Rattle.pb_verifier.proofs.ContainedCode.{stays_inside}
use Rattle.pb_verifier.proofs.ArmPlaces.{place_has}
use Rattle.pb_verifier.proofs.PeakTables.{AreLast, IsBest, best_more, best_over, best_skip, best_start, last_more}
use Rattle.pb_verifier.proofs.PeakTables.{last_none, replicate_read}
use Rattle.pb_verifier.proofs.ReachSearch.{IsSearch, entries_visited, extends_contains, hand_done, hand_inside}
use Rattle.pb_verifier.proofs.ReachSearch.{search_over}

-- ---- the reached places

module _ (entries : List ℕ) (instrs : List Instr) (inside : StaysInside entries instrs) where
  -- a list of the reached places
  abbrev ListsReached : List ℕ → Type 0
  ListsReached order = (p : ℕ) → Contains order p ↔ IsReachedPlace entries instrs p

  -- the search goes on until what follows each found place is found
  search_on : (fuel next : ℕ) (found : List Bool) (order : List ℕ) → length instrs ≤ next + fuel → IsSearch entries instrs next found order
      → ((p : ℕ) → Contains entries p → Contains order p) → (all : List ℕ) × ListsReached all
  search_on zero next found order enough h starts = (
    order,
    λ p. (
      h.reached p,
      search_over entries instrs next found
          order h (let n = h.counted in omega (arith, n, enough)) starts p,
    ),
  )
  search_on (suc fuel) next found order enough h starts = elim (cases_lt next (length order)) [
    | inr over ↦ (order, λ p. (h.reached p, search_over entries instrs next found order h over starts p))
    | inl u ↦
        let here : get_or order next 0 < length instrs = hand_inside entries instrs next found order inside h u in
        let i : Instr = get_or instrs (get_or order next 0) End in
        let done = hand_done entries instrs next found order (get_or order next 0) i record {
          inside = inside;
          search
              = h;
          within = u;
          read = get_or_default order next 0 (get_or order next 0) u;
          instr = slice_get-get_or
              instrs (get_or order next 0) End here;
        } in
        search_on fuel (next + 1) (with_marks found (followers i (get_or order next 0))) (with_places found order
        (followers i (get_or order next 0))) (omega (arith, enough)) done.1
        (λ p c. extends_contains order (with_places found order (followers i (get_or order next 0))) p done.0.extends (starts p c))
  ]

  pub reached_list : (all : List ℕ) × ((p : ℕ) → Contains all p ↔ IsReachedPlace entries instrs p)
  reached_list =
      let none : List Bool = replicate (length instrs) false in
      let first = entries_visited entries instrs inside in
      search_on (length instrs) 0 (with_marks none entries) (with_places none [] entries) (omega arith) first.search first.there

-- ---- the greatest amounts

-- these amounts at the first n places
abbrev listed_amounts : (ℕ → ℕ) → ℕ → List (Option Amount)
listed_amounts amount zero = []
listed_amounts amount (suc n) = Some (record { resource = 0; held = amount 0 }) ∷ listed_amounts (λ k. amount (suc k)) n

amount_at : (amount : ℕ → ℕ) (n p : ℕ) → p < n → held_at (listed_amounts amount n) p ≡ amount p
amount_at amount zero p u = absurd (omega arith)
amount_at amount (suc n) zero u = refl
amount_at amount (suc n) (suc p) u = amount_at (λ k. amount (suc k)) n p (omega arith)

module _ (code : ProcessCode) (lie : HasArms code) (fork : HasForks code) (small : IsSmallProcess code) where
  some : 1 ≤ arms code
  some = small.some_arms.0

  -- a place is reached or not
  is_reached : (p : ℕ) → Reached code p ⊎ (Reached code p → ⊥)
  is_reached p = go (is_listed all.0 p) refl
    where
      all : (all : List ℕ) × ((p : ℕ) → Contains all p ↔ IsReachedPlace code.entries code.instrs p)
      all = reached_list code.entries code.instrs (stays_inside code lie some small.some_places.1)

      go : (b : Bool) → is_listed all.0 p ≡ b → Reached code p ⊎ (Reached code p → ⊥)
      go true e = inl (reached_from code p ((all.1 p).0 (listed_from all.0 p e)))
      go false e = inr (λ reached. let yes = listed_to all.0 p ((all.1 p).1 (reached_to code p reached)) in let wrong : true ≡ false = sym yes ∙ e in cc)

  module _ (table : List (Option Amount)) where
    -- the greatest amount of an arm before a place
    best_to : (peak : ℕ → ℕ) (a : ℕ) → a < arms code → (k n : ℕ) → n ≡ entry code a + k → n ≤ arm_end code a → (best :
        ℕ) × IsBest code lie fork some table peak a n best
    best_to peak a u zero n e within = (
      0,
      subst (λ (m : ℕ). IsBest code lie fork some table peak a m 0) (omega
          (arith, e)) (best_start code lie fork some table peak a),
    )
    best_to peak a u (suc k) n e within =
        let m : ℕ = entry code a + k in
        let next : m + 1 ≡ n = omega (arith, e) in
        let here : IsInArm code a m = (u, omega arith, omega (arith, next, within)) in
        let before = best_to peak a u k m refl (omega (arith, next, within)) in
        subst (λ (x : ℕ). (best : ℕ) × IsBest code lie fork some table peak a x best) next (go m here before (is_reached m))
      where
        go : (m : ℕ) → IsInArm code a m → ((best : ℕ) × IsBest code lie fork some table peak a m best) → Reached code
            m ⊎ (Reached code m → ⊥) → (best : ℕ) × IsBest code lie fork some table peak a (m + 1) best
        go m here before (inr none) = (before.0, best_skip code lie fork some table peak a m before.0 before.1 none)
        go m here before (inl reached) = more (place_has code lie a m here) (cases_lt before.0 (clamped (held_at table
            m + in_joined peak (place_has code lie a m here).0)))
          where
            more : (i : (i : Instr) × InstrAt code m i) → (before.0 < clamped (held_at table m + in_joined peak i.0))
                ⊎ (clamped (held_at table m + in_joined peak i.0) ≤ before.0)
                → (best : ℕ) × IsBest code lie fork some table peak a (m + 1) best
            more i (inl over) = (
              clamped (held_at table m + in_joined peak i.0),
              best_more code lie fork some table
                  peak a m before.0 (clamped (held_at table m + in_joined peak i.0)) i.0 before.1 here reached i.1 (inl
                  (refl, over)),
            )
            more i (inr under) = (before.0, best_more code lie fork some table peak a m before.0 before.0 i.0 before.1 here reached i.1 (inr (refl, under)))

    -- the peaks of the last arms
    lasts : (done : ℕ) → done ≤ arms code → (peaks : List ℕ) × AreLast code lie fork some table done peaks
    lasts zero u =
        let none : List ℕ = replicate 64 0 in
        let sized : length none ≡ 64 = refl in
        (none, last_none code lie fork some table none sized (λ b. replicate_read 64 b 0))
    lasts (suc done) u =
        let before = lasts done (omega (arith, u)) in
        one_more before.0 before.1 (arms code - suc done) (omega (arith, u))
      where
        one_more : (peaks : List ℕ) (h : AreLast code lie fork some table done peaks) (arm : ℕ) → arm + 1 + done ≡
            arms code → (later : List ℕ) × AreLast code lie fork some table (suc done) later
        one_more peaks h arm e =
            let inside : arm < arms code = omega (arith, e) in
            let lies = (arm_lies code (rise_of code lie) arm inside).0 in
            let best = best_to h.peak arm inside (arm_end code arm - entry code arm) (arm_end code arm) (omega (arith, lies)) (omega arith) in
            let over = best_over code lie fork some table h.peak arm (arm_end code arm) best.0 inside (omega arith) best.1 in
            let cut : best.0 ≡ clamped over.0 = over.1 in
            let long : length peaks ≡ 64 = h.sized in
            let few = small.some_arms.1 in
            let there : arm < length peaks = omega (arith, inside, long, few) in
            let next : done + 1 ≡ suc done = omega arith in (
              set peaks arm best.0,
              subst (λ (n : ℕ). AreLast code lie fork some table n (set peaks arm best.0)) next
                  (last_more code lie fork some table done arm best.0 peaks (set peaks arm best.0) h e (omega (arith, cut)) over
                  (length-set peaks arm best.0 ∙ long) (get_or-set_same peaks arm best.0 0 there) (λ b other. get_or-set_other peaks arm b best.0 0 other)),
            )

  -- whatever is held at places, each arm has a peak
  pub peaks_of : (held : ℕ → List Bundle) (r : ℕ) → (peak : ℕ → ℕ) × ArePeaks code held r peak
  peaks_of held r = (last.1.peak, (λ a place i within reached at. under a place i within reached at, λ a u. exact a (are a u).attained))
    where
      amount : ℕ → ℕ
      amount p = in_holdings r (held p)

      table : List (Option Amount)
      table = listed_amounts (λ p. in_holdings r (held p)) (length code.instrs)

      last : (peaks : List ℕ) × AreLast code lie fork some table (arms code) peaks
      last = lasts table (arms code) (omega arith)

      are : (a : ℕ) → a < arms code → IsPeakOf code table last.1.peak a (last.1.peak a)
      are a u = last.1.are a (omega arith) u

      same : (place : ℕ) (i : Instr) → InstrAt code place i → held_at table place ≡ in_holdings r (held place)
      same place i at = amount_at (λ p. in_holdings r (held p)) (length code.instrs) place (slice_get_within code.instrs place i at)

      under : (a place : ℕ) (i : Instr) → IsInArm code a place → Reached code place → InstrAt code place i →
          in_holdings r (held place) + in_joined last.1.peak i ≤ last.1.peak a
      under a place i within reached at =
          let e = same place i at in
          let most = (are a within.0).above place i within reached at in
          omega (arith, e, most)

      exact : (a : ℕ) → ((place : ℕ) × (i : Instr) × IsInArm code a place × Reached code place × InstrAt code place i
          × (last.1.peak a ≡ held_at table place + in_joined last.1.peak i))
          → (place : ℕ) × (i : Instr) × IsInArm code a place × Reached code place × InstrAt code place i ×
          (last.1.peak a ≡ in_holdings r (held place) + in_joined last.1.peak i)
      exact a x =
          let e = same x.0 x.1 x.4 in
          let v = x.5 in
          (x.0, x.1, x.2, x.3, x.4, omega (arith, e, v))
