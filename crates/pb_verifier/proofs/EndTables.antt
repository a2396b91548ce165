-- What tables say of ends, and of the greatest depth of an arm.
use Rattle.std.proofs.Common.{◌≡◌, ◌⊎◌, inl, inr, ℕ, zero, suc, ◌+◌, ◌<◌, ◌≤◌, List, [], Option, Some, None, length}
use Rattle.std.proofs.Common.{get_or, refl, sym, ap, ◌∙◌, subst, arith}
use Rattle.std.specs.Prelude.{option_map, unwrap_or}
use Rattle.std.proofs.lemmas.Bool.{cases_lt}
use Rattle.std.proofs.lemmas.List.{get_or_default}
use Rattle.pb_base.specs.Steppers.{Bundle}
use Rattle.pb_code.specs.Code.{Instr, End, ProcessCode}
use Rattle.pb_verifier.specs.declared.depths.Depth.{Depth}
use Rattle.pb_verifier.specs.declared.holdings.Holding.{Holding}
use Rattle.pb_verifier.specs.Ends.{IsClearAt}
use Rattle.pb_verifier.specs.Faults.{EndsClear, TurnsDepth, TurnsHoldings}
use Rattle.pb_verifier.specs.Holdings.{held, held_bundles}
use Rattle.pb_verifier.specs.Places.{InstrAt, Reached, at_entry, IsInArm, entry}
use Rattle.pb_verifier.specs.Spread.{IsTableOf, fact_at, notes_of}
use Rattle.pb_verifier.specs.Verified.{IsDepthOf}
use Rattle.pb_verifier.proofs.Chains.{held_length}

-- a noted value comes from a fact
pub fact_of : {F M : Type 0} (value : F → M) (table : List (Option F)) (p : ℕ) (m : M) → notes_of value table p ≡ Some
    m → (f : F) × (fact_at table p ≡ Some f) × (value f ≡ m)
fact_of {F = F} {M = M} value table p m e = go (fact_at table p) refl
  where
    go : (o : Option F) → fact_at table p ≡ o → (f : F) × (fact_at table p ≡ Some f) × (value f ≡ m)
    go None n = let wrong : option_map value None ≡ Some m = ap (option_map value) (sym n) ∙ e in cc
    go (Some f) n = let both : Some (value f) ≡ Some m = ap (option_map value) (sym n) ∙ e in let same : value f ≡ m = cc in (f, n, same)

-- a fact that was read is the one at that place
pub clear_read : (ds : List (Option Depth)) (hs : List (Option Holding)) (i : Instr) (p : ℕ) (x : Option Depth) (y :
    Option Holding) → p < length ds → p < length hs
    → (IsClearAt i (get_or ds p x) (get_or hs p y) → IsClearAt i (fact_at ds p) (fact_at hs p)) × (IsClearAt i
    (fact_at ds p) (fact_at hs p) → IsClearAt i (get_or ds p x) (get_or hs p y))
clear_read ds hs i p x y u v =
    let e : get_or ds p x ≡ fact_at ds p = get_or_default ds p x None u in
    let f : get_or hs p y ≡ fact_at hs p = get_or_default hs p y None v in (
      λ c. subst (λ (o : Option Holding). IsClearAt i (fact_at ds p) o) f (subst (λ (o : Option Depth). IsClearAt i o (get_or hs p y)) e c),
      λ c. subst (λ (o : Option Holding). IsClearAt i (get_or ds p x) o) (sym f) (subst (λ (o : Option Depth). IsClearAt i o (fact_at hs p)) (sym e) c),
    )

module _ (code : ProcessCode) (depths : List (Option Depth)) where
  abbrev Depths : ℕ → Option ℕ
  Depths = notes_of (λ (d : Depth). d.count) depths

  module _ (holdings : List (Option Holding)) (is_depths : IsTableOf code TurnsDepth 0 Depths) (is_holdings :
      IsTableOf code TurnsHoldings [] (notes_of (held_bundles code.instrs holdings) holdings)) where
    abbrev Holds : ℕ → Option (List Bundle)
    Holds = notes_of (held_bundles code.instrs holdings) holdings

    none_left : (n last : ℕ) → n ≡ 0 → held code.instrs holdings n last ≡ []
    none_left zero last e = refl
    none_left (suc n) last e = absurd (omega arith)

    pub clear_from : ((p : ℕ) (i : Instr) → InstrAt code p i → IsClearAt i (fact_at depths p) (fact_at holdings p)) → EndsClear code
    clear_from clear depth held are_depths are_holdings p r read =
        let c = clear p End read refl in
        let nd : (x : ℕ) × (Depths p ≡ Some x) = is_depths.noted p r in
        let nh : (x : List Bundle) × (Holds p ≡ Some x) = is_holdings.noted p r in
        let d = fact_of (λ (d : Depth). d.count) depths p nd.0 nd.1 in
        let h = fact_of (held_bundles code.instrs holdings) holdings p nh.0 nh.1 in (
          is_depths.agrees depth are_depths p nd.0 nd.1 ∙ sym d.2 ∙ c.0 d.0 d.1,
          is_holdings.agrees held are_holdings p nh.0 nh.1 ∙ sym h.2 ∙ none_left h.0.count h.0.last (c.1 h.0 h.1),
        )

    pub clear_of : EndsClear code → (p : ℕ) (i : Instr) → InstrAt code p i → IsClearAt i (fact_at depths p) (fact_at holdings p)
    clear_of ends p i read is =
        let end : InstrAt code p End = read ∙ ap Some is in
        let clear = λ (r : Reached code p). ends (λ place. unwrap_or (Depths place) 0) (λ place. unwrap_or (Holds
        place) []) is_depths.spreads is_holdings.spreads p r end in (
          λ d e.
              let n : Depths p ≡ Some d.count = ap (option_map (λ (d : Depth). d.count)) e in
              let z = (clear (is_depths.only p d.count n)).0 in
              sym (ap (λ (o : Option ℕ). unwrap_or o 0) n) ∙ z,
          λ h e.
              let n : Holds p ≡ Some (held_bundles code.instrs holdings h) = ap (option_map (held_bundles code.instrs holdings)) e in
              let z = (clear (is_holdings.only p (held_bundles code.instrs holdings h) n)).1 in
              let empty : held_bundles code.instrs holdings h ≡ [] = sym (ap (λ (o : Option (List Bundle)). unwrap_or o []) n) ∙ z in
              sym (held_length code.instrs holdings h.count h.last) ∙ ap length empty,
        )

  -- a depth of the arm that none before a place passes
  pub record IsBestBefore (a n best : ℕ) : Type 0 where
    pub above : (p : ℕ) (d : Depth) → entry code a ≤ p → p < n → fact_at depths p ≡ Some d → d.count ≤ best
    pub attained : (p : ℕ) × IsInArm code a p × (Depths p ≡ Some best)

  module _ (is_depths : IsTableOf code TurnsDepth 0 Depths) where
    pub best_start : (a : ℕ) → IsInArm code a (entry code a) → IsBestBefore a (entry code a) 0
    best_start a within =
        let r : Reached code (entry code a) = at_entry a (entry code a) within.0 refl in
        let n : (x : ℕ) × (Depths (entry code a) ≡ Some x) = is_depths.noted (entry code a) r in
        let zero_there : n.0 ≡ 0 = sym (ap (λ (o : Option ℕ). unwrap_or o 0) n.1) ∙ is_depths.spreads.starts a within.0 in
        record { above = λ p d u v. absurd (omega arith); attained = (entry code a, within, n.1 ∙ ap Some zero_there) }

    pub best_over : (a n best : ℕ) → IsBestBefore a n best → ((p : ℕ) → IsInArm code a p → p < n) → IsDepthOf code a best
    best_over a n best b all depth are_depths = (
      λ p within r.
          let noted : (x : ℕ) × (Depths p ≡ Some x) = is_depths.noted p r in
          let d = fact_of (λ (d : Depth). d.count) depths p noted.0 noted.1 in
          let e : depth p ≡ d.0.count = is_depths.agrees depth are_depths p noted.0 noted.1 ∙ sym d.2 in
          let u : d.0.count ≤ best = b.above p d.0 within.1 (all p within) d.1 in
          omega arith,
      (b.attained.0, b.attained.1, is_depths.only b.attained.0 best b.attained.2, is_depths.agrees depth are_depths b.attained.0 best b.attained.2),
    )

  best_above : (a n best new : ℕ) → IsBestBefore a n best → best ≤ new → ((d : Depth) → fact_at depths n ≡ Some d → d.count ≤ new)
      → (p : ℕ) (d : Depth) → entry code a ≤ p → p < n + 1 → fact_at depths p ≡ Some d → d.count ≤ new
  best_above a n best new b u here p d v w e = go (cases_lt p n)
    where
      go : (p < n) ⊎ (n ≤ p) → d.count ≤ new
      go (inl x) = let y : d.count ≤ best = b.above p d v x e in omega arith
      go (inr x) = let same : p ≡ n = omega arith in here d (ap (fact_at depths) (sym same) ∙ e)

  pub best_keeps : (a n best : ℕ) → IsBestBefore a n best → ((d : Depth) → fact_at depths n ≡ Some d → d.count ≤ best) → IsBestBefore a (n + 1) best
  best_keeps a n best b here = record { above = best_above a n best best b (omega arith) here; attained = b.attained }

  pub best_takes : (a n best : ℕ) (new : Depth) → IsBestBefore a n best → IsInArm code a n → fact_at depths n ≡ Some
      new → best < new.count → IsBestBefore a (n + 1) new.count
  best_takes a n best new b within e u = record {
    above = best_above a n best new.count b (omega arith) (λ d f. let both : Some new ≡ Some d = sym e ∙ f in let same
        : new ≡ d = cc in let s : new.count ≡ d.count = ap (λ (x : Depth). x.count) same in omega arith);
    attained = (n, within, ap (option_map (λ (d : Depth). d.count)) e);
  }
