-- Lists of holds that share what was held before their last hold.
use Rattle.std.proofs.Common.{◌≡◌, ◌≢◌, ◌⊎◌, inl, inr, ℕ, zero, suc, ◌-◌, ◌<◌, ◌≤◌, List, ◌∷◌, length, set, Option}
use Rattle.std.proofs.Common.{Some, None, refl, sym, ap, ◌∙◌, subst, length-set, get_or-set_same, get_or-set_other}
use Rattle.std.specs.Prelude.{slice_get, option_map}
use Rattle.std.proofs.lemmas.Bool.{cases_eq, cases_lt}
use Rattle.std.proofs.lemmas.List.{get_or_past}
use Rattle.pb_code.specs.Code.{Instr}
use Rattle.pb_verifier.specs.declared.holdings.Holding.{Holding}
use Rattle.pb_verifier.specs.Spread.{fact_at, notes_of, tail, AllReadable, IsKept}
use Rattle.pb_verifier.specs.Holdings.{taken, last_of, held, IsChain, held_bundles, CanBeRead}
use Rattle.pb_verifier.proofs.Chains.{held_before}
use Rattle.pb_verifier.proofs.FactTables.{kept_twice}

-- a fact at a place, and one in its place that means the same
record Swap (instrs : List Instr) (table : List (Option Holding)) (p : ℕ) (old new : Holding) : Type 0 where
  inside : p < length table
  here : fact_at table p ≡ Some old
  count : new.count ≡ old.count
  readable : CanBeRead instrs table new
  means : held_bundles instrs table new ≡ held_bundles instrs table old

module _ (instrs : List Instr) (table : List (Option Holding)) (p : ℕ) (old new : Holding)
    (swap : Swap instrs table p old new) where
  abbrev Later : List (Option Holding)
  Later = set table p (Some new)

  abbrev KeepsList : ℕ → ℕ → Type 0
  KeepsList n last = IsChain instrs Later n last × (held instrs Later n last ≡ held instrs table n last)

  list_longer : (n last : ℕ) → IsChain instrs table (suc n) last
      → ((l : ℕ) → IsChain instrs table n l → KeepsList n l) → KeepsList (suc n) last
  list_longer n last (bundle, before, read, noted, count, rest) shorter = go (cases_eq last p)
    where
      go : (last ≡ p) ⊎ (last ≢ p) → KeepsList (suc n) last
      go (inl e) =
          let both : Some before ≡ Some old = sym noted ∙ ap (fact_at table) e ∙ swap.here in
          let was : before ≡ old = cc in
          let old_count : old.count ≡ n = ap (λ (h : Holding). h.count) (sym was) ∙ count in
          let new_count : new.count ≡ n = swap.count ∙ old_count in
          let chain : IsChain instrs table n new.last =
          subst (λ (k : ℕ). IsChain instrs table k new.last) new_count swap.readable.0
          in
          let below : KeepsList n new.last = shorter new.last chain in
          let now : fact_at Later last ≡ Some new =
          ap (fact_at Later) e ∙ get_or-set_same table p (Some new) None swap.inside
          in
          let same : held instrs table n new.last ≡ held instrs table n before.last =
          ap (λ (k : ℕ). held instrs table k new.last) (sym new_count) ∙ swap.means
          ∙ ap (λ (k : ℕ). held instrs table k old.last) old_count
          ∙ ap (λ (h : Holding). held instrs table n h.last) (sym was)
          in (
            (bundle, new, read, now, new_count, below.0),
            ap (λ xs. taken (slice_get instrs last) ∷ xs)
                (ap (held instrs Later n) (ap last_of now) ∙ below.1 ∙ same
                ∙ ap (held instrs table n) (sym (ap last_of noted))),
          )
      go (inr other) =
          let now : fact_at Later last ≡ fact_at table last =
          get_or-set_other table p last (Some new) None other in
          let below : KeepsList n before.last = shorter before.last rest in (
            (bundle, before, read, now ∙ noted, count, below.0),
            ap (λ xs. taken (slice_get instrs last) ∷ xs)
                (ap (held instrs Later n) (ap last_of (now ∙ noted)) ∙ below.1
                ∙ ap (held instrs table n) (sym (ap last_of noted))),
          )

  swap_list : (n last : ℕ) → IsChain instrs table n last → KeepsList n last
  swap_list zero last chain = (tt, refl)
  swap_list (suc n) last chain = list_longer n last chain (swap_list n)

  swap_kept : AllReadable (CanBeRead instrs table) table
      → IsKept (held_bundles instrs) (CanBeRead instrs) table Later
  swap_kept all = record {
    sized = length-set table p (Some new);
    readable = λ q f e. readable q f e (cases_eq q p);
    facts = facts;
    notes = λ q. notes q (cases_eq q p);
  }
    where
      facts : (f : Holding) → CanBeRead instrs table f
          → CanBeRead instrs Later f × (held_bundles instrs Later f ≡ held_bundles instrs table f)
      facts f r = let k : KeepsList f.count f.last = swap_list f.count f.last r.0 in ((k.0, r.1), k.1)

      now : (q : ℕ) → q ≡ p → fact_at Later q ≡ Some new
      now q e = ap (fact_at Later) e ∙ get_or-set_same table p (Some new) None swap.inside

      readable : (q : ℕ) (f : Holding) → fact_at Later q ≡ Some f → (q ≡ p) ⊎ (q ≢ p)
          → CanBeRead instrs Later f
      readable q f e (inl same) =
          let both : Some new ≡ Some f = sym (now q same) ∙ e in
          let is : new ≡ f = cc in
          subst (CanBeRead instrs Later) is (facts new swap.readable).0
      readable q f e (inr other) =
          (facts f (all q f (sym (get_or-set_other table p q (Some new) None other) ∙ e))).0

      noted : (q : ℕ) (o : Option Holding) → fact_at table q ≡ o
          → option_map (held_bundles instrs Later) (fact_at table q)
          ≡ option_map (held_bundles instrs table) (fact_at table q)
      noted q None e =
          ap (option_map (held_bundles instrs Later)) e ∙ sym (ap (option_map (held_bundles instrs table)) e)
      noted q (Some f) e =
          ap (option_map (held_bundles instrs Later)) e ∙ ap Some (facts f (all q f e)).1
          ∙ sym (ap (option_map (held_bundles instrs table)) e)

      notes : (q : ℕ) → (q ≡ p) ⊎ (q ≢ p)
          → notes_of (held_bundles instrs Later) Later q ≡ notes_of (held_bundles instrs table) table q
      notes q (inl same) =
          ap (option_map (held_bundles instrs Later)) (now q same)
          ∙ ap Some ((facts new swap.readable).1 ∙ swap.means)
          ∙ sym (ap (option_map (held_bundles instrs table)) (ap (fact_at table) same ∙ swap.here))
      notes q (inr other) =
          ap (option_map (held_bundles instrs Later)) (get_or-set_other table p q (Some new) None other)
          ∙ noted q (fact_at table q) refl

-- two equal lists of n holds in a table that came from another
pub record AreEqual (instrs : List Instr) (first table : List (Option Holding)) (n a b : ℕ) : Type 0 where
  pub one : IsChain instrs table n a
  pub two : IsChain instrs table n b
  pub same : held instrs table n a ≡ held instrs table n b
  pub kept : IsKept (held_bundles instrs) (CanBeRead instrs) first table

noted_inside : (table : List (Option Holding)) (p : ℕ) (f : Holding)
    → fact_at table p ≡ Some f → p < length table
noted_inside table p f e = go (cases_lt p (length table))
  where
    go : (p < length table) ⊎ (length table ≤ p) → p < length table
    go (inl u) = u
    go (inr u) = let wrong : None ≡ Some f = sym (get_or_past table p None u) ∙ e in cc

-- the second list goes on as the first does
pub share_step : (instrs : List Instr) (first table : List (Option Holding)) (n a b : ℕ) (x y : Holding)
    → AreEqual instrs first table n a b → 0 < n → fact_at table a ≡ Some x → fact_at table b ≡ Some y
    → AreEqual instrs first (set table b (Some x)) (n - 1) x.last y.last
share_step instrs first table n a b x y equal u notex notey =
    let one = held_before instrs table n a x u equal.one notex in
    let two = held_before instrs table n b y u equal.two notey in
    let tails : held instrs table (n - 1) x.last ≡ held instrs table (n - 1) y.last =
    one.2 ∙ ap tail equal.same ∙ sym two.2
    in
    let swap : Swap instrs table b y x = record {
      inside = noted_inside table b y notey;
      here = notey;
      count = one.0 ∙ sym two.0;
      readable = equal.kept.readable a x notex;
      means = ap (λ (k : ℕ). held instrs table k x.last) one.0 ∙ tails
          ∙ sym (ap (λ (k : ℕ). held instrs table k y.last) two.0);
    }
    in
    let onward = swap_list instrs table b y x swap (n - 1) x.last one.1 in
    let other = swap_list instrs table b y x swap (n - 1) y.last two.1 in
    record {
      one = onward.0;
      two = other.0;
      same = onward.1 ∙ tails ∙ sym other.1;
      kept = kept_twice (held_bundles instrs) (CanBeRead instrs) first table (set table b (Some x)) equal.kept
          (swap_kept instrs table b y x swap equal.kept.readable);
    }
