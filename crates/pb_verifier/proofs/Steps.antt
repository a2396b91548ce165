-- A step of the spread over a table.
use Rattle.std.proofs.Common.{◌≡◌, ◌≢◌, ◌⊎◌, ◌↔◌, inl, inr, ℕ, ◌+◌, ◌<◌, ◌≤◌, true, false, List, length, get_or, set, Option, Some}
use Rattle.std.proofs.Common.{None, refl, sym, ap, ◌∙◌, subst, arith, get_or-set_same, get_or-set_other}
use Rattle.std.specs.Prelude.{Contains, slice_get, option_map}
use Rattle.std.proofs.lemmas.List.{get_or_default}
use Rattle.std.proofs.lemmas.List.Elements.{Contains-get_or}
use Rattle.std.proofs.lemmas.Bool.{cases_eq, cases_lt}
use Rattle.pb_code.specs.Code.{Instr}
use Rattle.pb_verifier.specs.Flow.{followers, IsGrown, IsReachedPlace, reached_entry, reached_next, StaysInside}
use Rattle.pb_verifier.specs.Flow.{LeadsBelow}
use Rattle.pb_verifier.specs.Spread.{Rules, IsAnnotation, CanBeAnnotated, fact_at, notes_of, AllReadable, AgreesAt}
use Rattle.pb_verifier.specs.Spread.{IsKept, IsOpening, with_notes}
use Rattle.pb_verifier.proofs.ReachSearch.{reached_inside, leads_below}
use Rattle.pb_verifier.proofs.FactSpread.{IsSpread, Extended, spread_noted, refuted_fit, next_agrees, spread_same}
use Rattle.pb_verifier.proofs.FactSpread.{spread_step}
use Rattle.pb_verifier.proofs.EndTables.{fact_of}
use Rattle.pb_verifier.proofs.FactTables.{kept_agrees}
use Rattle.pb_verifier.proofs.FactNotes.{Noted, note_all}

-- the order of the reached places
pub record IsOrder (entries : List ℕ) (instrs : List Instr) (order : List ℕ) : Type 0 where
  pub inside : StaysInside entries instrs
  pub reached : (p : ℕ) → Contains order p ↔ IsReachedPlace entries instrs p
  pub grown : IsGrown entries instrs order

module _ (entries : List ℕ) (instrs : List Instr) (order : List ℕ) (h : IsOrder entries instrs order) where
  pub order_inside : (k : ℕ) → k < length order → get_or order k 0 < length instrs
  order_inside k u = reached_inside entries instrs h.inside (get_or order k 0) ((h.reached (get_or order k 0)).0 (Contains-get_or order k 0 u))

  pub order_next : (k : ℕ) → k < length order → (i : Instr) → slice_get instrs (get_or order k 0) ≡ Some i → (q : ℕ) →
      Contains (followers i (get_or order k 0)) q → Contains order q
  order_next k u i read q c = (h.reached q).1 (reached_next (get_or order k 0) q ((h.reached (get_or order k 0)).0 (Contains-get_or order k 0 u)) (i, read, c))

-- what is known when the first places of the order, `done` of them, were followed
module _ {F M : Type 0} (value : List (Option F) → F → M) (IsReadable : List (Option F) → F → Type 0) (rules : Rules
    M) (entries : List ℕ) (instrs : List Instr) (order : List ℕ) where
  pub record IsTable (done : ℕ) (table : List (Option F)) : Type 0 where
    pub sized : length table ≡ length instrs
    pub readable : AllReadable (IsReadable table) table
    pub spread : IsSpread rules entries instrs order done (notes_of (value table) table)

  -- the place at hand, its instruction and what is known there
  pub record IsHere (done : ℕ) (table : List (Option F)) (i : Instr) (f : F) : Type 0 where
    pub ordered : IsOrder entries instrs order
    pub kept : IsTable done table
    pub within : done < length order
    pub read : slice_get instrs (get_or order done 0) ≡ Some i
    pub here : fact_at table (get_or order done 0) ≡ Some f

-- ---- the place at hand

module _ {F M : Type 0} {value : List (Option F) → F → M} {IsReadable : List (Option F) → F → Type 0} {rules : Rules M}
    {entries : List ℕ} {instrs : List Instr} {order : List ℕ} where
  -- the next place of the order is one of the table
  pub place_within : {done : ℕ} {table : List (Option F)} → IsOrder entries instrs order → IsTable value IsReadable rules entries instrs order done table
      → done < length order → get_or order done 0 < length table
  place_within {done = done} o t u =
      let inside = order_inside entries instrs order o done u in
      let sized = t.sized in
      omega arith

  pub table_noted : {done : ℕ} {table : List (Option F)} → IsOrder entries instrs order → IsTable value IsReadable rules entries instrs order done table
      → done < length order → (f : F) × (fact_at table (get_or order done 0) ≡ Some f)
  table_noted {done = done} {table = table} o t u =
      let n : (m : M) × (notes_of (value table) table (get_or order done 0) ≡ Some m) = spread_noted rules entries
      instrs order done (notes_of (value table) table) t.spread o.grown u in
      go (fact_at table (get_or order done 0)) refl n.1
    where
      go : {m : M} (x : Option F) → fact_at table (get_or order done 0) ≡ x → notes_of (value table) table (get_or
          order done 0) ≡ Some m → (f : F) × (fact_at table (get_or order done 0) ≡ Some f)
      go None e n = let e' = ap (option_map (value table)) (sym e) ∙ n in cc
      go (Some f) e n = (f, e)

  -- a place of the order has a fact, so nothing else is read there
  pub never_unknown : {done : ℕ} {table : List (Option F)} {read : Option F} → IsOrder entries instrs order
      → IsTable value IsReadable rules entries instrs order done table → done < length order → read ≡ get_or table (get_or order done 0) read
      → ((f : F) → read ≡ Some f → ⊥) → ⊥
  never_unknown {done = done} {table = table} {read = read} o t u found not_some =
      let f = table_noted o t u in
      not_some f.0 (found ∙ get_or_default table (get_or order done 0) read None (place_within o t u) ∙ f.1)

  pub is_here : {done : ℕ} {table : List (Option F)} {i : Instr} {f : F} {read : Option F}
      → IsOrder entries instrs order → IsTable value IsReadable rules entries instrs order done table → done < length order
      → slice_get instrs (get_or order done 0) ≡ Some i
      → read ≡ get_or table (get_or order done 0) read → read ≡ Some f → IsHere value IsReadable rules entries instrs order done table i f
  is_here {done = done} {table = table} {read = read} o t u at found is = record {
    ordered = o;
    kept = t;
    within = u;
    read = at;
    here = get_or_default table (get_or order done 0) None read (place_within o t u) ∙ sym found ∙ is;
  }

  table_kept : (done : ℕ) (table later : List (Option F)) → IsTable value IsReadable rules entries instrs order done table
      → IsKept value IsReadable table later
      → IsTable value IsReadable rules entries instrs order done later
  table_kept done table later t kept = record {
    sized = kept.sized ∙ t.sized;
    readable = kept.readable;
    spread = spread_same rules entries instrs order done (notes_of (value table) table)
        (notes_of (value later) later) kept.notes t.spread;
  }

  module _ {done : ℕ} {table : List (Option F)} {i : Instr} {f : F} (h : IsHere value IsReadable rules entries instrs order done table i f) where
    abbrev place : ℕ
    place = get_or order done 0

    here_inside : place < length instrs
    here_inside = order_inside entries instrs order h.ordered done h.within

    pub here_leads : (n : ℕ) → n ≡ length table → LeadsBelow i place n
    here_leads n l = leads_below entries instrs place n i h.ordered.inside here_inside h.read (l ∙ h.kept.sized)

    here_noted : notes_of (value table) table place ≡ Some (value table f)
    here_noted = ap (option_map (value table)) h.here

    -- a fact for the places that follow
    module _ (next : F) (means : value table next ≡ rules.after i (value table f)) where
      here_agrees : CanBeAnnotated rules entries instrs → (q : ℕ) → Contains (followers i place) q
          → AgreesAt (value table) table next q
      here_agrees a q c found e =
          next_agrees rules entries instrs order done (notes_of (value table) table) h.kept.spread place
          (value table f) i here_noted h.read a q (value table found) c
          (ap (option_map (value table)) e) ∙ sym means

      here_done : ((table : List (Option F)) (p : ℕ) (new fact : F) → fact_at table p ≡ None → IsReadable table fact
          → IsReadable (set table p (Some new)) fact × (value (set table p (Some new)) fact ≡ value table fact))
          → rules.Fits i (value table f) → IsReadable table next
          → ((q : ℕ) → Contains (followers i place) q → AgreesAt (value table) table next q)
          → IsTable value IsReadable rules entries instrs order (done + 1) (with_notes table next (followers i place))
      here_done keeps fits readable agree =
          let inside : (q : ℕ) → Contains (followers i place) q → q < length table = λ q c.
          let u : q < length instrs = h.ordered.inside.next place q (i, h.read, c) in
          let l : length table ≡ length instrs = h.kept.sized in
          omega arith
          in
          let later : List (Option F) = with_notes table next (followers i place) in
          let n : Noted value IsReadable keeps table next (followers i place) later =
          note_all value IsReadable keeps table next (followers i place) h.kept.readable readable
          (λ q c. (inside q c, agree q c))
          in
          record {
            sized = n.sized ∙ h.kept.sized;
            readable = n.readable;
            spread = spread_step rules entries instrs order done (notes_of (value table) table)
                (notes_of (value later) later) h.kept.spread (value table f) i here_noted h.read fits
                (subst (λ (v : M). Extended (notes_of (value table) table) (followers i place) v
                (notes_of (value later) later)) means n.extended)
                (order_next entries instrs order h.ordered done h.within i h.read);
          }

    -- ---- what a body reads and finds, with the table borrowed as `facts`

    module _ {facts : List (Option F)} (borrowed : facts ≡ table) where
      pub here_there : fact_at facts place ≡ Some f
      here_there = ap (λ (xs : List (Option F)). fact_at xs place) borrowed ∙ h.here

      pub here_readable : IsReadable facts f
      here_readable = subst (λ (xs : List (Option F)). IsReadable xs f) (sym borrowed) (h.kept.readable place f h.here)

      pub all_readable : AllReadable (IsReadable facts) facts
      all_readable = subst (λ (xs : List (Option F)). AllReadable (IsReadable xs) xs) (sym borrowed) h.kept.readable

      -- if the fact does not serve the instruction, no annotation is there
      pub here_misfit : ((false ≡ true) ↔ rules.Fits i (value facts f)) → ¬ CanBeAnnotated rules entries instrs
      here_misfit test =
          refuted_fit rules entries instrs order done (notes_of (value table) table) h.kept.spread
          place (value table f) i here_noted h.read
          (λ fits. let no : false ≡ true = test.1 (subst (λ (xs : List (Option F)). rules.Fits i (value xs f))
          (sym borrowed) fits) in cc)

      -- nor if the places that follow know something else
      pub here_disagrees : (next : F) → value facts next ≡ rules.after i (value facts f)
          → ((false ≡ true) ↔ ((q : ℕ) → Contains (followers i place) q → AgreesAt (value facts) facts next q))
          → ¬ CanBeAnnotated rules entries instrs
      here_disagrees next means test a =
          let means' = subst (λ (xs : List (Option F)). value xs next ≡ rules.after i (value xs f)) borrowed means in
          let no : false ≡ true = test.1 (subst
          (λ (xs : List (Option F)). (q : ℕ) → Contains (followers i place) q → AgreesAt (value xs) xs next q)
          (sym borrowed) (here_agrees next means' a)) in
          cc

      pub here_agreed : (next : F)
          → ((true ≡ true) ↔ ((q : ℕ) → Contains (followers i place) q → AgreesAt (value facts) facts next q))
          → (q : ℕ) → Contains (followers i place) q → AgreesAt (value table) table next q
      here_agreed next test =
          subst (λ (xs : List (Option F)). (q : ℕ) → Contains (followers i place) q → AgreesAt (value xs) xs next q)
          borrowed (test.0 refl)

  -- in a later table, in which whatever was known means what it meant, the places that follow get the fact
  pub here_shared : {done : ℕ} {table facts : List (Option F)} {i : Instr} {f : F}
      → IsHere value IsReadable rules entries instrs order done table i f → facts ≡ table
      → (next : F) (later noted : List (Option F))
      → ((table : List (Option F)) (p : ℕ) (new fact : F) → fact_at table p ≡ None → IsReadable table fact
      → IsReadable (set table p (Some new)) fact × (value (set table p (Some new)) fact ≡ value table fact))
      → ((true ≡ true) ↔ rules.Fits i (value facts f))
      → value facts next ≡ rules.after i (value facts f) → IsReadable facts next
      → ((true ≡ true) ↔ ((q : ℕ) → Contains (followers i (get_or order done 0)) q
      → AgreesAt (value facts) facts next q))
      → IsKept value IsReadable table later → noted ≡ with_notes later next (followers i (get_or order done 0))
      → IsTable value IsReadable rules entries instrs order (done + 1) noted
  here_shared {done = done} {table = table} {i = i} {f = f} h borrowed next later noted keeps fit means readable
      agree kept is =
      let means' = subst (λ (xs : List (Option F)). value xs next ≡ rules.after i (value xs f)) borrowed means in
      let readable' = subst (λ (xs : List (Option F)). IsReadable xs next) borrowed readable in
      let fits = subst (λ (xs : List (Option F)). rules.Fits i (value xs f)) borrowed (fit.0 refl) in
      let place : ℕ = get_or order done 0 in
      let now = fact_of (value later) later place (value table f) (kept.notes place ∙ here_noted h) in
      let here : IsHere value IsReadable rules entries instrs order done later i now.0 = record {
        ordered = h.ordered;
        kept = table_kept done table later h.kept kept;
        within = h.within;
        read = h.read;
        here = now.1;
      }
      in
      let carried : value later next ≡ rules.after i (value later now.0) =
      (kept.facts next readable').1 ∙ means' ∙ ap (rules.after i) (sym now.2) in
      subst (IsTable value IsReadable rules entries instrs order (done + 1)) (sym is) (here_done here next carried keeps
      (subst (rules.Fits i) (sym now.2) fits) (kept.facts next readable').0
      (λ q c. kept_agrees value IsReadable table later next q kept readable' (here_agreed h borrowed next agree q c)))

  -- at the start only entries have a fact
  pub table_start : {table : List (Option F)} {first : F} → IsOrder entries instrs order
      → IsOpening entries (length instrs) first table
      → IsReadable table first × (value table first ≡ rules.start) → IsTable value IsReadable rules entries instrs order 0 table
  table_start {table = table} {first = first} o opening (readable, means) = record {
    sized = opening.sized;
    readable = λ p f e. subst (IsReadable table) (sym (opening.only p f e).1) readable;
    spread = record {
      starts = λ p c. starts p c;
      flows = λ k u. absurd (omega arith);
      within = λ p m e. within p m (noted_at p m e);
      least = λ other a p m e. least other a p m (noted_at p m e);
    };
  }
    where
      starts : (p : ℕ) → Contains entries p → notes_of (value table) table p ≡ Some rules.start
      starts p c =
          let here : get_or entries c.0 0 ≡ p = get_or_default entries c.0 0 p c.1 ∙ c.2 in
          subst (λ (x : ℕ). notes_of (value table) table x ≡ Some rules.start) here
          (ap (option_map (value table)) (opening.started c.0 c.1) ∙ ap Some means)

      noted_at : (p : ℕ) (m : M) → notes_of (value table) table p ≡ Some m
          → (f : F) × (fact_at table p ≡ Some f) × (value table f ≡ m)
      noted_at p m e = go (fact_at table p) refl
        where
          go : (x : Option F) → fact_at table p ≡ x → (f : F) × (fact_at table p ≡ Some f) × (value table f ≡ m)
          go None u = let e' : option_map (value table) None ≡ Some m = ap (option_map (value table)) (sym u) ∙ e in cc
          go (Some f) u =
              let e' : Some (value table f) ≡ Some m = ap (option_map (value table)) (sym u) ∙ e in
              let e'' : value table f ≡ m = cc in
              (f, u, e'')

      within : (p : ℕ) (m : M) → (f : F) × (fact_at table p ≡ Some f) × (value table f ≡ m) → Contains order p
      within p m (f, u, e) = (o.reached p).1 (reached_entry p (opening.only p f u).0)

      least : (other : ℕ → Option M) → IsAnnotation rules entries instrs other → (p : ℕ) (m : M)
          → (f : F) × (fact_at table p ≡ Some f) × (value table f ≡ m) → other p ≡ Some m
      least other a p m (f, u, e) =
          a.starts p (opening.only p f u).0
          ∙ ap Some (sym means ∙ ap (value table) (sym (opening.only p f u).1) ∙ e)

-- ---- filling the table

pub started_more : {F : Type 0} (table : List (Option F)) (entries : List ℕ) (n : ℕ) (first : F) → get_or entries n 0
    < length table → ((k : ℕ) → k < n → fact_at table (get_or entries k 0) ≡ Some first)
    → (k : ℕ) → k < n + 1 → fact_at (set table (get_or entries n 0) (Some first)) (get_or entries k 0) ≡ Some first
started_more table entries n first w h k u = go (cases_eq (get_or entries k 0) (get_or entries n 0)) (cases_lt k n)
  where
    go : (get_or entries k 0 ≡ get_or entries n 0) ⊎ (get_or entries k 0 ≢ get_or entries n 0) → (k < n) ⊎ (n ≤ k) →
        fact_at (set table (get_or entries n 0) (Some first)) (get_or entries k 0) ≡ Some first
    go (inl same) _ = ap (fact_at (set table (get_or entries n 0) (Some first))) same ∙ get_or-set_same table (get_or entries n 0) (Some first) None w
    go (inr other) (inl v) = get_or-set_other table (get_or entries n 0) (get_or entries k 0) (Some first) None other ∙ h k v
    go (inr other) (inr v) = let e : k ≡ n = omega arith in absurd (other (ap (λ (x : ℕ). get_or entries x 0) e))

pub only_more : {F : Type 0} (table : List (Option F)) (entries : List ℕ) (n : ℕ) (first : F) → get_or entries n 0 <
    length table → n < length entries → ((p : ℕ) (f : F) → fact_at table p ≡ Some f → Contains entries p × (f ≡
    first))
    → (p : ℕ) (f : F) → fact_at (set table (get_or entries n 0) (Some first)) p ≡ Some f → Contains entries p × (f ≡ first)
only_more {F = F} table entries n first w v h p f e = go (cases_eq p (get_or entries n 0))
  where
    go : (p ≡ get_or entries n 0) ⊎ (p ≢ get_or entries n 0) → Contains entries p × (f ≡ first)
    go (inl same) =
        let both : Some f ≡ Some first = sym e ∙ ap (fact_at (set table (get_or entries n 0) (Some first))) same ∙
        get_or-set_same table (get_or entries n 0) (Some first) None w in
        let f' : f ≡ first = cc in
        (subst (λ (x : ℕ). Contains entries x) (sym same) (Contains-get_or entries n 0 v), f')
    go (inr other) = h p f (sym (get_or-set_other table (get_or entries n 0) p (Some first) None other) ∙ e)
