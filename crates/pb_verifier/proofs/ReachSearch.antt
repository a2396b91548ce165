-- What the search for reached places keeps.
use Rattle.std.proofs.Common.{◌≡◌, ◌≢◌, ◌⊎◌, inl, inr, ℕ, zero, suc, ◌+◌, ◌<◌, ◌≤◌, Bool, true, false, cond, List, []}
use Rattle.std.proofs.Common.{◌∷◌, ◌++◌, length, get_or, set, take, replicate, Option, Some, None, refl, sym, ap, ◌∙◌}
use Rattle.std.proofs.Common.{subst, arith, length-set, length-append, get_or-set_other, append_assoc}
use Rattle.std.specs.Prelude.{sum_by, Contains, slice_get, IfSome, option_to_list}
use Rattle.std.proofs.lemmas.List.{get_or-replicate, get_or_append_left, get_or_default, get_or_past}
use Rattle.std.proofs.lemmas.List.{length-replicate, set-get_or}
use Rattle.std.proofs.lemmas.List.Folds.{sum_by-replicate}
use Rattle.std.proofs.Math.Seq.{get_or-append_seam}
use Rattle.std.proofs.lemmas.List.Sums.{sum_by-set}
use Rattle.std.proofs.lemmas.List.Elements.{Contains-append_left, Contains-push, Contains-push_cases, Contains-get_or}
use Rattle.std.proofs.lemmas.Bool.{cases_lt, cases_eq, both_ways}
use Rattle.pb_code.specs.Code.{Instr}
use Rattle.pb_verifier.specs.Flow.{FlowsTo, followers, IsReachedPlace, reached_entry, reached_next, StaysInside}
use Rattle.pb_verifier.specs.Flow.{IsGrown, LeadsBelow, target_of, goes_on, with_marks, with_place, with_places}

-- how many places are not found yet
abbrev pub unmarked : List Bool → ℕ
unmarked found = sum_by (λ b. cond {A = ℕ} b 0 1) found

abbrev pub Marks : List Bool → List ℕ → Type 0
Marks found order = (p : ℕ) → p < length found → get_or found p true ≡ true → Contains order p

-- what followed the first `next` places of the order was found
pub record IsSearch (entries : List ℕ) (instrs : List Instr) (next : ℕ) (found : List Bool) (order : List ℕ) : Type 0 where
  pub sized : length found ≡ length instrs
  pub counted : length order + unmarked found ≡ length instrs
  pub next_in : next ≤ length order
  pub marked : Marks found order
  pub reached : (p : ℕ) → Contains order p → IsReachedPlace entries instrs p
  pub closed : (k q : ℕ) → k < next → FlowsTo instrs (get_or order k 0) q → Contains order q
  pub grown : IsGrown entries instrs order

-- what makes a place worth visiting: it is an entry, or follows the place at hand
abbrev pub IsDue : List ℕ → List Instr → ℕ → List ℕ → ℕ → Type 0
IsDue entries instrs next order p = Contains entries p ⊎ ((next < length order) × FlowsTo instrs (get_or order next 0) p)

-- the order grew
abbrev pub Extends : List ℕ → List ℕ → Type 0
Extends order longer = (rest : List ℕ) × (longer ≡ order ++ rest)

pub extends_contains : (order longer : List ℕ) (p : ℕ) → Extends order longer → Contains order p → Contains longer p
extends_contains order longer p e h = subst (λ (xs : List ℕ). Contains xs p) (sym e.1) (Contains-append_left order e.0 p h)

pub extends_at : (order longer : List ℕ) (k : ℕ) → Extends order longer → k < length order → get_or longer k 0 ≡ get_or order k 0
extends_at order longer k e u = ap (λ (xs : List ℕ). get_or xs k 0) e.1 ∙ get_or_append_left order e.0 0 k u

pub extends_length : (order longer : List ℕ) → Extends order longer → length order ≤ length longer
extends_length order longer e = let l : length longer ≡ length order + length e.0 = ap length e.1 ∙ length-append order e.0 in omega arith

pub extends_same : (order : List ℕ) → Extends order order
extends_same order = ([], sym (append_nil order))
  where
    append_nil : (xs : List ℕ) → xs ++ [] ≡ xs
    append_nil [] = refl
    append_nil (x ∷ xs) = ap (λ ys. x ∷ ys) (append_nil xs)

pub extends_more : (a b c : List ℕ) → Extends a b → Extends b c → Extends a c
extends_more a b c e f = (e.0 ++ f.0, f.1 ∙ ap (λ xs. xs ++ f.0) e.1 ∙ append_assoc a e.0 f.0)

pub record Visited (entries : List ℕ) (instrs : List Instr) (next : ℕ) (found : List Bool) (order : List ℕ) (p : ℕ)
    (found' : List Bool) (order' : List ℕ) : Type 0 where
  pub search : IsSearch entries instrs next found' order'
  pub extends : Extends order order'
  pub there : Contains order' p

abbrev pub IsGrownAt : List ℕ → List Instr → List ℕ → ℕ → ℕ → Type 0
IsGrownAt entries instrs order k p = Contains entries p ⊎ ((j : ℕ) × (j < k) × FlowsTo instrs (get_or order j 0) p)

pub grown_extends : (entries : List ℕ) (instrs : List Instr) (order longer : List ℕ) (k p : ℕ) → Extends order longer
    → k ≤ length order → IsGrownAt entries instrs order k p → IsGrownAt entries instrs longer k p
grown_extends entries instrs order longer k p e u (inl c) = inl c
grown_extends entries instrs order longer k p e u (inr f) =
    let b : f.0 < k = f.1 in
    let w : f.0 < length order = omega arith in
    inr (f.0, f.1, subst (λ (x : ℕ). FlowsTo instrs x p) (sym (extends_at order longer f.0 e w)) f.2)

visit_new : (entries : List ℕ) (instrs : List Instr) (next : ℕ) (found : List Bool) (order : List ℕ) (p : ℕ) →
    IsSearch entries instrs next found order → p < length found → IsDue entries instrs next order p
    → get_or found p true ≡ false → Visited entries instrs next found order p (set found p true) (order ++ p ∷ [])
visit_new entries instrs next found order p h u due fresh =
    let grew : Extends order (order ++ p ∷ []) = (p ∷ [], refl) in
    let longer : length (order ++ p ∷ []) ≡ length order + 1 = length-append order (p ∷ []) in
    let fewer : unmarked (set found p true) + 1 ≡ unmarked found =
    let e : unmarked (set found p true) + cond {A = ℕ} (get_or found p true) 0 1 ≡ unmarked found + 0 = sum_by-set (λ
    b. cond {A = ℕ} b 0 1) found p true true u in
    let e' : unmarked (set found p true) + 1 ≡ unmarked found + 0 = rw fresh at e in
    omega arith
    in
    record {
      search = record {
        sized = length-set found p true ∙ h.sized;
        counted = let c : length order + unmarked found ≡ length instrs = h.counted in omega arith;
        next_in = let c : next ≤ length order = h.next_in in omega arith;
        marked = λ q v e. marks q v e (cases_eq q p);
        reached = λ q c. reaches q (Contains-push_cases order p q c);
        closed = λ k q v f.
            let w : k < length order = let c : next ≤ length order = h.next_in in omega arith in
            Contains-append_left order (p ∷ []) q (h.closed k q v (subst (λ (x : ℕ). FlowsTo instrs x q) (extends_at order (order ++ p ∷ []) k grew w) f));
        grown = λ k v. grows k v (cases_lt k (length order));
      };
      extends = grew;
      there = Contains-push order p;
    }
  where
    marks : (q : ℕ) → q < length (set found p true) → get_or (set found p true) q true ≡ true → (q ≡ p) ⊎ (q ≢ p) → Contains (order ++ p ∷ []) q
    marks q v e (inl same) = subst (λ (x : ℕ). Contains (order ++ p ∷ []) x) (sym same) (Contains-push order p)
    marks q v e (inr other) =
        let l : length (set found p true) ≡ length found = length-set found p true in
        Contains-append_left order (p ∷ []) q (h.marked q (omega arith) (sym (get_or-set_other found p q true true other) ∙ e))

    due_reached : IsDue entries instrs next order p → IsReachedPlace entries instrs p
    due_reached (inl c) = reached_entry p c
    due_reached (inr f) = reached_next (get_or order next 0) p (h.reached (get_or order next 0) (Contains-get_or order next 0 f.0)) f.1

    reaches : (q : ℕ) → Contains order q ⊎ (p ≡ q) → IsReachedPlace entries instrs q
    reaches q (inl c) = h.reached q c
    reaches q (inr same) = subst (λ (x : ℕ). IsReachedPlace entries instrs x) same (due_reached due)

    grew : Extends order (order ++ p ∷ [])
    grew = (p ∷ [], refl)

    grows : (k : ℕ) → k < length (order ++ p ∷ []) → (k < length order) ⊎ (length order ≤ k) → IsGrownAt entries
        instrs (order ++ p ∷ []) k (get_or (order ++ p ∷ []) k 0)
    grows k v (inl w) =
        let u : k ≤ length order = omega arith in
        subst (λ (x : ℕ). IsGrownAt entries instrs (order ++ p ∷ []) k x) (sym (extends_at order (order ++ p ∷ []) k grew w))
        (grown_extends entries instrs order (order ++ p ∷ []) k (get_or order k 0) grew u (h.grown k w))
    grows k v (inr w) =
        let l : length (order ++ p ∷ []) ≡ length order + 1 = length-append order (p ∷ []) in
        let last : k ≡ length order = omega arith in
        let e : get_or (order ++ p ∷ []) k 0 ≡ p = ap (λ (i : ℕ). get_or (order ++ p ∷ []) i 0) last ∙ get_or-append_seam order p [] 0 in
        subst (λ (x : ℕ). IsGrownAt entries instrs (order ++ p ∷ []) k x) (sym e) (newest k w due)
      where
        newest : (k : ℕ) → length order ≤ k → IsDue entries instrs next order p → IsGrownAt entries instrs (order ++ p ∷ []) k p
        newest k w (inl c) = inl c
        newest k w (inr f) =
            let b : next < length order = f.0 in
            let b' : next < k = omega arith in
            inr (next, b', subst (λ (x : ℕ). FlowsTo instrs x p) (sym (extends_at order (order ++ p ∷ []) next grew f.0)) f.1)

-- a place that is found already is marked again
visit_old : (entries : List ℕ) (instrs : List Instr) (next : ℕ) (found : List Bool) (order : List ℕ) (p : ℕ) →
    IsSearch entries instrs next found order → p < length found
    → get_or found p true ≡ true → Visited entries instrs next found order p (set found p true) order
visit_old entries instrs next found order p h u old =
    let same : set found p true ≡ found = set_same found p true u old in
    record { search = subst (λ (xs : List Bool). IsSearch entries instrs next xs order) (sym same) h; extends = extends_same order; there = h.marked p u old }
  where
    set_same : (xs : List Bool) (i : ℕ) (b : Bool) → i < length xs → get_or xs i true ≡ b → set xs i b ≡ xs
    set_same xs i b u e = ap (λ (x : Bool). set xs i x) (sym e) ∙ set-get_or xs i true

pub visit_one : (entries : List ℕ) (instrs : List Instr) (next : ℕ) (found : List Bool) (order : List ℕ) (p : ℕ) →
    IsSearch entries instrs next found order → p < length found → IsDue entries instrs next order p
    → Visited entries instrs next found order p (set found p true) (with_place found order p)
visit_one entries instrs next found order p h u due = go (get_or found p true) refl
  where
    go : (b : Bool) → get_or found p true ≡ b → Visited entries instrs next found order p (set found p true) (with_place found order p)
    go true e = subst (λ (xs : List ℕ). Visited entries instrs next found order p (set found p true) xs) (sym (ap (λ
        (b : Bool). cond b order (order ++ p ∷ [])) e)) (visit_old entries instrs next found order p h u e)
    go false e = subst (λ (xs : List ℕ). Visited entries instrs next found order p (set found p true) xs) (sym (ap (λ
        (b : Bool). cond b order (order ++ p ∷ [])) e)) (visit_new entries instrs next found order p h u due e)

pub record VisitedAll (entries : List ℕ) (instrs : List Instr) (next : ℕ) (order : List ℕ) (places : List ℕ) (found' :
    List Bool) (order' : List ℕ) : Type 0 where
  pub search : IsSearch entries instrs next found' order'
  pub extends : Extends order order'
  pub there : (p : ℕ) → Contains places p → Contains order' p

due_extends : (entries : List ℕ) (instrs : List Instr) (next : ℕ) (order longer : List ℕ) (p : ℕ) → Extends order
    longer → IsDue entries instrs next order p → IsDue entries instrs next longer p
due_extends entries instrs next order longer p e (inl c) = inl c
due_extends entries instrs next order longer p e (inr f) =
    let a : next < length order = f.0 in
    let b : length order ≤ length longer = extends_length order longer e in
    let u : next < length longer = omega arith in
    inr (u, subst (λ (x : ℕ). FlowsTo instrs x p) (sym (extends_at order longer next e f.0)) f.1)

pub contains_head : (p : ℕ) (ps : List ℕ) → Contains (p ∷ ps) p
contains_head p ps = (0, omega arith, refl)

pub contains_tail : (x p : ℕ) (ps : List ℕ) → Contains ps p → Contains (x ∷ ps) p
contains_tail x p ps c = let u : c.0 < length ps = c.1 in (suc c.0, omega arith, c.2)

pub contains_cases : (x p : ℕ) (ps : List ℕ) → Contains (x ∷ ps) p → (x ≡ p) ⊎ Contains ps p
contains_cases x p ps (zero, u, e) = inl e
contains_cases x p ps (suc k, u, e) = let v : k < length ps = omega arith in inr (k, v, e)

pub visit_all : (entries : List ℕ) (instrs : List Instr) (next : ℕ) (found : List Bool) (order : List ℕ) (places :
    List ℕ) → IsSearch entries instrs next found order
    → ((p : ℕ) → Contains places p → (p < length found) × IsDue entries instrs next order p)
    → VisitedAll entries instrs next order places (with_marks found places) (with_places found order places)
visit_all entries instrs next found order [] h due = record { search = h; extends = extends_same order; there = λ p c. none p c }
  where
    none : (p : ℕ) → Contains [] p → Contains order p
    none p c = let u : c.0 < 0 = c.1 in absurd (omega arith)
visit_all entries instrs next found order (p ∷ places) h due =
    let one : Visited entries instrs next found order p (set found p true) (with_place found order p) = visit_one
    entries instrs next found order p h (due p (contains_head p places)).0 (due p (contains_head p places)).1 in
    let l : length (set found p true) ≡ length found = length-set found p true in
    let rest : VisitedAll entries instrs next (with_place found order p) places (with_marks (set found p true) places)
    (with_places (set found p true) (with_place found order p) places) =
    visit_all entries instrs next (set found p true) (with_place found order p) places one.search
    (λ q c.
    let d : (q < length found) × IsDue entries instrs next order q = due q (contains_tail p q places c) in
    let u : q < length (set found p true) = let w : q < length found = d.0 in omega arith in
    (u, due_extends entries instrs next order (with_place found order p) q one.extends d.1))
    in
    record {
      search = rest.search;
      extends = extends_more order (with_place found order p) (with_places (set found p true) (with_place found order p) places) one.extends rest.extends;
      there = λ q c. there q one.there rest (contains_cases p q places c);
    }
  where
    there : (q : ℕ) → Contains (with_place found order p) p
        → VisitedAll entries instrs next (with_place found order p) places (with_marks (set found p true) places)
        (with_places (set found p true) (with_place found order p) places)
        → (p ≡ q) ⊎ Contains places q → Contains (with_places (set found p true) (with_place found order p) places) q
    there q here rest (inl e) = extends_contains (with_place found order p) (with_places (set found p true)
        (with_place found order p) places) q rest.extends (subst (λ (x : ℕ). Contains (with_place found order p) x) e
        here)
    there q here rest (inr c) = rest.there q c

-- the place at hand is done once all that follow it are found
pub search_next : (entries : List ℕ) (instrs : List Instr) (next : ℕ) (found : List Bool) (order : List ℕ) → IsSearch
    entries instrs next found order → next < length order
    → ((q : ℕ) → FlowsTo instrs (get_or order next 0) q → Contains order q) → IsSearch entries instrs (next + 1) found order
search_next entries instrs next found order h u all =
    let w : next + 1 ≤ length order = omega arith in
    record {
      sized = h.sized;
      counted = h.counted;
      next_in = w;
      marked = h.marked;
      reached = h.reached;
      closed = λ k q
          v. closed k q v (cases_lt k next);
      grown = h.grown;
    }
  where
    closed : (k q : ℕ) → k < next + 1 → (k < next) ⊎ (next ≤ k) → FlowsTo instrs (get_or order k 0) q → Contains order q
    closed k q v (inl w) f = h.closed k q w f
    closed k q v (inr w) f =
        let e : k ≡ next = omega arith in
        all q (subst (λ (x : ℕ). FlowsTo instrs (get_or order x 0) q) e f)

-- at the end exactly the reached places are found
pub search_over : (entries : List ℕ) (instrs : List Instr) (next : ℕ) (found : List Bool) (order : List ℕ) → IsSearch
    entries instrs next found order → length order ≤ next
    → ((p : ℕ) → Contains entries p → Contains order p) → (p : ℕ) → IsReachedPlace entries instrs p → Contains order p
search_over entries instrs next found order h u starts _ (reached_entry p c) = starts p c
search_over entries instrs next found order h u starts _ (reached_next p q r f) = next_of p q (search_over entries instrs next found order h u starts p r) f
  where
    next_of : (p q : ℕ) → Contains order p → FlowsTo instrs p q → Contains order q
    next_of p q c f =
        let w : c.0 < length order = c.1 in
        let v : c.0 < next = omega arith in
        h.closed c.0 q v (subst (λ (x : ℕ). FlowsTo instrs x q) (sym (get_or_default order c.0 0 p c.1 ∙ c.2)) f)

pub search_start : (entries : List ℕ) (instrs : List Instr) (found : List Bool) → length found ≡ length instrs →
    unmarked found ≡ length instrs → ((p : ℕ) → get_or found p false ≡ false) → IsSearch entries instrs 0 found []
search_start entries instrs found l n none =
    record {
      sized = l;
      counted = omega arith;
      next_in = omega arith;
      marked = λ p u e. marked p u e;
      reached = λ p c.
          let u : c.0 < 0 = c.1 in absurd (omega arith);
      closed = λ k q u f. absurd (omega arith);
      grown = λ k u. absurd
          (omega arith);
    }
  where
    marked : (p : ℕ) → p < length found → get_or found p true ≡ true → Contains [] p
    marked p u e = absurd (both_ways (get_or found p true) (get_or_default found p true false u ∙ none p) e)

-- nothing is marked at the start
pub none_marked : (n p : ℕ) → get_or (replicate n false) p false ≡ false
none_marked n p = go (cases_lt p n)
  where
    go : (p < n) ⊎ (n ≤ p) → get_or (replicate n false) p false ≡ false
    go (inl u) = get_or-replicate n p false false u
    go (inr u) = get_or_past (replicate n false) p false (omega (arith, u, length-replicate n false))

-- and then the entries are
pub entries_visited : (entries : List ℕ) (instrs : List Instr) → StaysInside entries instrs
    → VisitedAll entries instrs 0 [] entries (with_marks (replicate (length instrs) false) entries)
    (with_places (replicate (length instrs) false) [] entries)
entries_visited entries instrs inside =
    let n : ℕ = length instrs in
    let sized = length-replicate n false in
    let each = sum_by-replicate (λ (b : Bool). cond {A = ℕ} b 0 1) n false in
    let begun = search_start entries instrs (replicate n false) sized (omega (arith, each)) (none_marked n) in
    visit_all entries instrs 0 (replicate n false) [] entries begun
    (λ p c. let u = inside.starts p c in (omega (arith, u, sized), inl c))

pub reached_inside : (entries : List ℕ) (instrs : List Instr) → StaysInside entries instrs → (p : ℕ) → IsReachedPlace entries instrs p → p < length instrs
reached_inside entries instrs inside _ (reached_entry p c) = inside.starts p c
reached_inside entries instrs inside _ (reached_next p q r f) = inside.next p q f

-- the place at hand and its instruction
pub record AtHand (entries : List ℕ) (instrs : List Instr) (next : ℕ) (found : List Bool) (order : List ℕ) (p : ℕ) (i : Instr) : Type 0 where
  pub inside : StaysInside entries instrs
  pub search : IsSearch entries instrs next found order
  pub within : next < length order
  pub read : p ≡ get_or order next p
  pub instr : slice_get instrs p ≡ Some i

pub hand_inside : (entries : List ℕ) (instrs : List Instr) (next : ℕ) (found : List Bool) (order : List ℕ) →
    StaysInside entries instrs → IsSearch entries instrs next found order → next < length order → get_or order next 0
    < length instrs
hand_inside entries instrs next found order inside h u = reached_inside entries instrs inside (get_or order next 0)
    (h.reached (get_or order next 0) (Contains-get_or order next 0 u))

module _ (entries : List ℕ) (instrs : List Instr) (next : ℕ) (found : List Bool) (order : List ℕ) (p : ℕ) (i : Instr)
    (h : AtHand entries instrs next found order p i) where
  hand_place : p ≡ get_or order next 0
  hand_place = h.read ∙ get_or_default order next p 0 h.within

  pub hand_here : p < length instrs
  hand_here = subst (λ (x : ℕ). x < length instrs) (sym hand_place) (hand_inside entries instrs next found order h.inside h.search h.within)

  pub hand_small : p < 40000
  hand_small = let few : length instrs ≤ 40000 = h.inside.few in omega (arith, hand_here)

  pub hand_read : slice_get instrs p ≡ Some i
  hand_read = h.instr

  pub hand_due : (q : ℕ) → Contains (followers i p) q → (q < length found) × IsDue entries instrs next order q
  hand_due q c =
      let f : FlowsTo instrs p q = (i, hand_read, c) in
      let l : length found ≡ length instrs = h.search.sized in
      let u : q < length instrs = h.inside.next p q f in
      (omega arith, inr (h.within, subst (λ (x : ℕ). FlowsTo instrs x q) hand_place f))

  pub hand_target : IfSome (target_of i) (λ q. q < length found)
  hand_target = go (target_of i) (λ q e. (hand_due q (jumps q e)).0)
    where
      go : (o : Option ℕ) → ((q : ℕ) → o ≡ Some q → q < length found) → IfSome o (λ q. q < length found)
      go None f = tt
      go (Some q) f = f q refl

      jumps : (q : ℕ) → target_of i ≡ Some q → Contains (followers i p) q
      jumps q e = subst (λ (o : Option ℕ). Contains (option_to_list o ++ cond (goes_on i) ((p + 1) ∷ []) []) q) (sym
          e) (contains_head q (cond (goes_on i) ((p + 1) ∷ []) []))

  pub hand_next : goes_on i ≡ true → p + 1 < length found
  hand_next e = (hand_due (p + 1) (falls (target_of i) (goes_on i) e)).0
    where
      falls : (o : Option ℕ) (b : Bool) → b ≡ true → Contains (option_to_list o ++ cond b ((p + 1) ∷ []) []) (p + 1)
      falls None true e = contains_head (p + 1) []
      falls (Some q) true e = contains_tail q (p + 1) ((p + 1) ∷ []) (contains_head (p + 1) [])
      falls None false e = cc
      falls (Some q) false e = cc

  pub hand_done : VisitedAll entries instrs next order (followers i p) (with_marks found (followers i p)) (with_places found order (followers i p))
      × IsSearch entries instrs (next + 1) (with_marks found (followers i p)) (with_places found order (followers i p))
  hand_done =
      let all : VisitedAll entries instrs next order (followers i p) (with_marks found (followers i p)) (with_places
      found order (followers i p)) = visit_all entries instrs next found order (followers i p) h.search hand_due
      in
      let l : length order ≤ length (with_places found order (followers i p)) = extends_length order (with_places found order (followers i p)) all.extends in
      let w : next < length order = h.within in
      let u : next < length (with_places found order (followers i p)) = omega arith in
      let same : get_or (with_places found order (followers i p)) next 0 ≡ p = extends_at order (with_places found
      order (followers i p)) next all.extends h.within ∙ sym hand_place in (
        all,
        search_next entries instrs next (with_marks found (followers i p)) (with_places found order (followers i p)) all.search u
            (λ q f. follows q (subst (λ (x : ℕ). FlowsTo instrs x q) same f)),
      )
    where
      follows : (q : ℕ) → FlowsTo instrs p q → Contains (with_places found order (followers i p)) q
      follows q f =
          let e : Some f.0 ≡ Some i = sym f.1 ∙ hand_read in
          let e' : f.0 ≡ i = cc in
          (visit_all entries instrs next found order (followers i p) h.search hand_due).there q (subst (λ (x : Instr). Contains (followers x p) q) e' f.2)

-- ---- places visited one after another

pub marks_more : (found : List Bool) (places : List ℕ) (k : ℕ) → k < length places
    → with_marks found (take (suc k) places) ≡ set (with_marks found (take k places)) (get_or places k 0) true
marks_more found [] k u = absurd (omega arith)
marks_more found (p ∷ places) zero u = refl
marks_more found (p ∷ places) (suc k) u = marks_more (set found p true) places k (omega arith)

pub places_more : (found : List Bool) (order places : List ℕ) (k : ℕ) → k < length places
    → with_places found order (take (suc k) places)
    ≡ with_place (with_marks found (take k places)) (with_places found order (take k places)) (get_or places k 0)
places_more found order [] k u = absurd (omega arith)
places_more found order (p ∷ places) zero u = refl
places_more found order (p ∷ places) (suc k) u =
    places_more (set found p true) (with_place found order p) places k (omega arith)

-- what follows an instruction is its target and the next place
pub target_follows : (i : Instr) (p q : ℕ) → target_of i ≡ Some q → Contains (followers i p) q
target_follows i p q e = subst (λ (o : Option ℕ). Contains (option_to_list o ++ cond (goes_on i) ((p + 1) ∷ []) []) q)
    (sym e) (contains_head q (cond (goes_on i) ((p + 1) ∷ []) []))

pub next_follows : (i : Instr) (p : ℕ) → goes_on i ≡ true → Contains (followers i p) (p + 1)
next_follows i p e = falls (target_of i) (goes_on i) e
  where
    falls : (o : Option ℕ) (b : Bool) → b ≡ true → Contains (option_to_list o ++ cond b ((p + 1) ∷ []) []) (p + 1)
    falls None true e = contains_head (p + 1) []
    falls (Some q) true e = contains_tail q (p + 1) ((p + 1) ∷ []) (contains_head (p + 1) [])
    falls None false e = cc
    falls (Some q) false e = cc

pub all_followers : (i : Instr) (p : ℕ) (P : ℕ → Type 0) → ((q : ℕ) → target_of i ≡ Some q → P q) → (goes_on i ≡ true
    → P (p + 1)) → (q : ℕ) → Contains (followers i p) q → P q
all_followers i p P at_target at_next = go (target_of i) (goes_on i) at_target at_next
  where
    fall : (b : Bool) → (b ≡ true → P (p + 1)) → (q : ℕ) → Contains (cond b ((p + 1) ∷ []) []) q → P q
    fall true h q c = one (contains_cases (p + 1) q [] c)
      where
        one : (p + 1 ≡ q) ⊎ Contains [] q → P q
        one (inl e) = subst P e (h refl)
        one (inr n) = let w : n.0 < 0 = n.1 in absurd (omega arith)
    fall false h q c = let w : c.0 < 0 = c.1 in absurd (omega arith)

    go : (o : Option ℕ) (b : Bool) → ((q : ℕ) → o ≡ Some q → P q) → (b ≡ true → P (p + 1)) → (q : ℕ) → Contains
        (option_to_list o ++ cond b ((p + 1) ∷ []) []) q → P q
    go None b f h q c = fall b h q c
    go (Some t) b f h q c = two (contains_cases t q (cond b ((p + 1) ∷ []) []) c)
      where
        two : (t ≡ q) ⊎ Contains (cond b ((p + 1) ∷ []) []) q → P q
        two (inl e) = subst P e (f t refl)
        two (inr d) = fall b h q d

pub leads_below : (entries : List ℕ) (instrs : List Instr) (p n : ℕ) (i : Instr) → StaysInside entries instrs → p <
    length instrs → slice_get instrs p ≡ Some i → n ≡ length instrs → LeadsBelow i p n
leads_below entries instrs p n i inside u read l = record {
  small = let few : length instrs ≤ 40000 = inside.few in omega arith;
  target = at_target (target_of i) (λ q e. below q (target_follows i p q e));
  next = λ e. below (p + 1) (next_follows i p e);
}
  where
    below : (q : ℕ) → Contains (followers i p) q → q < n
    below q c = let w : q < length instrs = inside.next p q (i, read, c) in omega arith

    at_target : (o : Option ℕ) → ((q : ℕ) → o ≡ Some q → q < n) → IfSome o (λ q. q < n)
    at_target None f = tt
    at_target (Some q) f = f q refl
