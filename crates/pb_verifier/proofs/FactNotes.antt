-- Facts noted in a table.
use Rattle.std.proofs.Common.{◌≡◌, ◌≢◌, ◌⊎◌, inl, inr, ℕ, ◌<◌, List, [], ◌∷◌, length, set, Option, Some, None, refl}
use Rattle.std.proofs.Common.{sym, ap, ◌∙◌, subst, arith, length-set, get_or-set_same, get_or-set_other}
use Rattle.std.specs.Prelude.{Contains, option_map}
use Rattle.std.proofs.lemmas.Bool.{cases_eq}
use Rattle.pb_verifier.specs.Spread.{fact_at, notes_of, AllReadable, AgreesAt, with_note, with_notes}
use Rattle.pb_verifier.proofs.ReachSearch.{contains_head, contains_tail, contains_cases}
use Rattle.pb_verifier.proofs.FactSpread.{Extended}

module _ {F M : Type 0} (value : List (Option F) → F → M) (IsReadable : List (Option F) → F → Type 0)
    (keeps : (table : List (Option F)) (p : ℕ) (new fact : F) → fact_at table p ≡ None → IsReadable table fact
    → IsReadable (set table p (Some new)) fact × (value (set table p (Some new)) fact ≡ value table fact)) where
  -- a table, and a later one with the fact noted at places
  pub record Noted (table : List (Option F)) (fact : F) (places : List ℕ) (later : List (Option F)) : Type 0 where
    pub sized : length later ≡ length table
    pub readable : AllReadable (IsReadable later) later
    pub carried : IsReadable later fact × (value later fact ≡ value table fact)
    pub extended : Extended (notes_of (value table) table) places (value table fact) (notes_of (value later) later)
    pub old : (p : ℕ) (f : F) → fact_at table p ≡ Some f → (fact_at later p ≡ Some f) × (value later f ≡ value table f)
    pub new : (p : ℕ) (f : F) → fact_at later p ≡ Some f → (fact_at table p ≡ Some f) ⊎ (Contains places p × (f ≡ fact))

  pub noted_at : (table : List (Option F)) (p : ℕ) (m : M) → notes_of (value table) table p ≡ Some m → (f : F) ×
      (fact_at table p ≡ Some f) × (value table f ≡ m)
  noted_at table p m e = go (fact_at table p) refl
    where
      go : (o : Option F) → fact_at table p ≡ o → (f : F) × (fact_at table p ≡ Some f) × (value table f ≡ m)
      go None u = let e' : option_map (value table) None ≡ Some m = ap (option_map (value table)) (sym u) ∙ e in cc
      go (Some f) u =
          let e' : Some (value table f) ≡ Some m = ap (option_map (value table)) (sym u) ∙ e in
          let e'' : value table f ≡ m = cc in
          (f, u, e'')

  -- the extension follows from what happens to facts
  extended_from : (table : List (Option F)) (fact : F) (places : List ℕ) (later : List (Option F))
      → ((p : ℕ) (f : F) → fact_at table p ≡ Some f → (fact_at later p ≡ Some f) × (value later f ≡ value table f))
      → ((p : ℕ) (f : F) → fact_at later p ≡ Some f → (fact_at table p ≡ Some f) ⊎ (Contains places p × (f ≡ fact)))
      → value later fact ≡ value table fact
      → ((q : ℕ) → Contains places q → notes_of (value later) later q ≡ Some (value table fact))
      → Extended (notes_of (value table) table) places (value table fact) (notes_of (value later) later)
  extended_from table fact places later old new same there = record {
    kept = λ p m e. kept p m (noted_at table p m e);
    there = there;
    only = λ p m e. only p m (noted_at later p m e);
  }
    where
      kept : (p : ℕ) (m : M) → (f : F) × (fact_at table p ≡ Some f) × (value table f ≡ m) → notes_of (value later) later p ≡ Some m
      kept p m (f, u, e) = ap (option_map (value later)) (old p f u).0 ∙ ap Some ((old p f u).1 ∙ e)

      only : (p : ℕ) (m : M) → (f : F) × (fact_at later p ≡ Some f) × (value later f ≡ m) → (notes_of (value table)
          table p ≡ Some m) ⊎ (Contains places p × (m ≡ value table fact))
      only p m (f, u, e) = from (new p f u)
        where
          from : (fact_at table p ≡ Some f) ⊎ (Contains places p × (f ≡ fact)) → (notes_of (value table) table p ≡
              Some m) ⊎ (Contains places p × (m ≡ value table fact))
          from (inl w) = inl (ap (option_map (value table)) w ∙ ap Some (sym (old p f w).1 ∙ e))
          from (inr w) = inr (w.0, sym e ∙ ap (value later) w.1 ∙ same)

  noted_none : (table : List (Option F)) (fact : F) → AllReadable (IsReadable table) table → IsReadable table fact → Noted table fact [] table
  noted_none table fact all r = record {
    sized = refl;
    readable = all;
    carried = (r, refl);
    extended = record { kept = λ p m e. e; there = λ q c. none q c; only = λ p m e. inl e };
    old = λ p f e. (e, refl);
    new = λ p f e. inl e;
  }
    where
      none : (q : ℕ) → Contains [] q → notes_of (value table) table q ≡ Some (value table fact)
      none q c = let u : c.0 < 0 = c.1 in absurd (omega arith)

  -- one place
  pub note_one : (table : List (Option F)) (fact : F) (p : ℕ) → AllReadable (IsReadable table) table → IsReadable
      table fact → p < length table → AgreesAt (value table) table fact p
      → Noted table fact (p ∷ []) (with_note table fact p)
  note_one table fact p all r u agrees = go (fact_at table p) refl
    where
      single : (later : List (Option F)) → notes_of (value later) later p ≡ Some (value table fact) → (q : ℕ) →
          Contains (p ∷ []) q → notes_of (value later) later q ≡ Some (value table fact)
      single later e q c = from (contains_cases p q [] c)
        where
          from : (p ≡ q) ⊎ Contains [] q → notes_of (value later) later q ≡ Some (value table fact)
          from (inl same) = subst (λ (x : ℕ). notes_of (value later) later x ≡ Some (value table fact)) same e
          from (inr n) = let w : n.0 < 0 = n.1 in absurd (omega arith)

      at_none : fact_at table p ≡ None → Noted table fact (p ∷ []) (set table p (Some fact))
      at_none e =
          let later : List (Option F) = set table p (Some fact) in
          let here : fact_at later p ≡ Some fact = get_or-set_same table p (Some fact) None u in
          record {
            sized = length-set table p (Some fact);
            readable = λ q f n. readable q f (new q f n (cases_eq q p));
            carried = keeps table p fact fact e r;
            extended = extended_from table fact (p ∷ []) later old (λ q f n. new q f n (cases_eq q p)) (keeps table p fact fact e r).1
                (single later (ap (option_map (value later)) here ∙ ap Some (keeps table p fact fact e r).1));
            old = old;
            new = λ q f n. new q f n (cases_eq q p);
          }
        where
          old : (q : ℕ) (f : F) → fact_at table q ≡ Some f → (fact_at (set table p (Some fact)) q ≡ Some f) × (value
              (set table p (Some fact)) f ≡ value table f)
          old q f n =
              let other : q ≢ p = λ same. let clash : Some f ≡ None = sym n ∙ ap (fact_at table) same ∙ e in cc in
              (get_or-set_other table p q (Some fact) None other ∙ n, (keeps table p fact f e (all q f n)).1)

          new : (q : ℕ) (f : F) → fact_at (set table p (Some fact)) q ≡ Some f → (q ≡ p) ⊎ (q ≢ p) → (fact_at table q
              ≡ Some f) ⊎ (Contains (p ∷ []) q × (f ≡ fact))
          new q f n (inl same) =
              let both : Some f ≡ Some fact = sym n ∙ ap (fact_at (set table p (Some fact))) same ∙ get_or-set_same table p (Some fact) None u in
              let f' : f ≡ fact = cc in
              inr (subst (λ (x : ℕ). Contains (p ∷ []) x) (sym same) (contains_head p []), f')
          new q f n (inr other) = inl (sym (get_or-set_other table p q (Some fact) None other) ∙ n)

          readable : (q : ℕ) (f : F) → (fact_at table q ≡ Some f) ⊎ (Contains (p ∷ []) q × (f ≡ fact)) → IsReadable (set table p (Some fact)) f
          readable q f (inl n) = (keeps table p fact f e (all q f n)).0
          readable q f (inr n) = subst (λ (x : F). IsReadable (set table p (Some fact)) x) (sym n.1) (keeps table p fact fact e r).0

      at_some : (found : F) → fact_at table p ≡ Some found → Noted table fact (p ∷ []) table
      at_some found e = record {
        sized = refl;
        readable = all;
        carried = (r, refl);
        extended = extended_from table fact (p ∷ []) table (λ q f n. (n, refl)) (λ q f n. inl n) refl (single table
            (ap (option_map (value table)) e ∙ ap Some (agrees found e)));
        old = λ q f n. (n, refl);
        new = λ q f n. inl n;
      }

      go : (o : Option F) → fact_at table p ≡ o → Noted table fact (p ∷ []) (with_note table fact p)
      go None e = subst (λ (x : List (Option F)). Noted table fact (p ∷ []) x) (sym (ap (λ (o : Option F). elim o [
        | None ↦ set table p (Some fact)
        | Some found ↦ table
      ]) e)) (at_none e)
      go (Some found) e = subst (λ (x : List (Option F)). Noted table fact (p ∷ []) x) (sym (ap (λ (o : Option F).
          elim o [ None ↦ set table p (Some fact) | Some found ↦ table ]) e)) (at_some found e)

  -- the rest still agree, since what is new is the fact itself
  agrees_later : (table later : List (Option F)) (fact : F) (places : List ℕ) (q : ℕ) → Noted table fact places later
      → AgreesAt (value table) table fact q → AgreesAt (value later) later fact q
  agrees_later table later fact places q n a found e = from (n.new q found e)
    where
      from : (fact_at table q ≡ Some found) ⊎ (Contains places q × (found ≡ fact)) → value later found ≡ value later fact
      from (inl w) = (n.old q found w).1 ∙ a found w ∙ sym n.carried.1
      from (inr w) = ap (value later) w.1

  -- two notings in a row
  noted_more : (table middle later : List (Option F)) (fact : F) (p : ℕ) (places : List ℕ) → Noted table fact (p ∷ [])
      middle → Noted middle fact places later → Noted table fact (p ∷ places) later
  noted_more table middle later fact p places a b = record {
    sized = b.sized ∙ a.sized;
    readable = b.readable;
    carried = (b.carried.0, b.carried.1 ∙ a.carried.1);
    extended = extended_from table fact (p ∷ places) later old (λ q f n. new q f (b.new q f n)) (b.carried.1 ∙
        a.carried.1) (λ q c. there q (contains_cases p q places c));
    old = old;
    new = λ q f n. new q f (b.new q f n);
  }
    where
      old : (q : ℕ) (f : F) → fact_at table q ≡ Some f → (fact_at later q ≡ Some f) × (value later f ≡ value table f)
      old q f n = let m = a.old q f n in let l = b.old q f m.0 in (l.0, l.1 ∙ m.1)

      new : (q : ℕ) (f : F) → (fact_at middle q ≡ Some f) ⊎ (Contains places q × (f ≡ fact)) → (fact_at table q ≡ Some
          f) ⊎ (Contains (p ∷ places) q × (f ≡ fact))
      new q f (inr w) = inr (contains_tail p q places w.0, w.1)
      new q f (inl w) = from (a.new q f w)
        where
          from : (fact_at table q ≡ Some f) ⊎ (Contains (p ∷ []) q × (f ≡ fact)) → (fact_at table q ≡ Some f) ⊎ (Contains (p ∷ places) q × (f ≡ fact))
          from (inl v) = inl v
          from (inr v) = inr (head (contains_cases p q [] v.0), v.1)
            where
              head : (p ≡ q) ⊎ Contains [] q → Contains (p ∷ places) q
              head (inl same) = subst (λ (x : ℕ). Contains (p ∷ places) x) same (contains_head p places)
              head (inr z) = let w : z.0 < 0 = z.1 in absurd (omega arith)

      there : (q : ℕ) → (p ≡ q) ⊎ Contains places q → notes_of (value later) later q ≡ Some (value table fact)
      there q (inl same) = b.extended.kept q (value table fact) (a.extended.there q (subst (λ (x : ℕ). Contains (p ∷ []) x) same (contains_head p [])))
      there q (inr c) = b.extended.there q c ∙ ap Some a.carried.1

  pub note_all : (table : List (Option F)) (fact : F) (places : List ℕ) → AllReadable (IsReadable table) table →
      IsReadable table fact → ((q : ℕ) → Contains places q → (q < length table) × AgreesAt (value table) table fact q)
      → Noted table fact places (with_notes table fact places)
  note_all table fact [] all r agree = noted_none table fact all r
  note_all table fact (p ∷ places) all r agree =
      let one : Noted table fact (p ∷ []) (with_note table fact p) = note_one table fact p all r (agree p
      (contains_head p places)).0 (agree p (contains_head p places)).1 in
      let l : length (with_note table fact p) ≡ length table = one.sized in
      let rest : Noted (with_note table fact p) fact places (with_notes (with_note table fact p) fact places) =
      note_all (with_note table fact p) fact places one.readable one.carried.0
      (λ q c.
      let a : (q < length table) × AgreesAt (value table) table fact q = agree q (contains_tail p q places c) in
      let u : q < length (with_note table fact p) = let w : q < length table = a.0 in omega arith in
      (u, agrees_later table (with_note table fact p) fact (p ∷ []) q one a.1))
      in
      noted_more table (with_note table fact p) (with_notes (with_note table fact p) fact places) fact p places one rest
