-- The picks of the spans that entries fall into.
use Rattle.std.proofs.Common.{◌≡◌, ℕ, zero, suc, ◌+◌, ◌<◌, ◌≤◌, List, [], ◌∷◌, ◌++◌, length, take, replicate, Bool}
use Rattle.std.proofs.Common.{true, false, Some, refl, sym, ap, ◌∙◌, subst, append-nil, append_assoc, length-append}
use Rattle.std.proofs.Common.{arith}
use Rattle.std.specs.Prelude.{cond, not, ◌&&◌, slice_get}
use Rattle.std.proofs.lemmas.List.{length-map, length-replicate, take_all}
use Rattle.pb_base.specs.declared.pick.Pick.{Pick}
use Rattle.pb_base.proofs.Cases.{both_true}
use Rattle.pb_history.specs.Entries.{Entry, all_picks, are_same, before, is_shown, picks_of, spans_of}
use Rattle.pb_history.specs.Replays.{spread}
use Rattle.pb_history.specs.declared.counted.CountedPick.{CountedPick}
use Rattle.pb_history.specs.declared.span.Span.{Span}
use Rattle.pb_history.proofs.SpansOfEntries.{same_pick}

-- one entry before spans is one pick before theirs
before_picks : (e : Entry) (spans : List Span) → all_picks (before e spans) ≡ e.pick ∷ all_picks spans
before_picks e [] = refl
before_picks e (s ∷ spans) = go (not (is_shown e.event) && are_same e.pick s.pick) refl
  where
    go : (joins : Bool) → (not (is_shown e.event) && are_same e.pick s.pick) ≡ joins
        → all_picks (cond joins (record s { count = s.count + 1 } ∷ spans) (record { pick = e.pick; count = 1; shows = is_shown e.event } ∷ (s ∷ spans)))
        ≡ e.pick ∷ all_picks (s ∷ spans)
    go true is =
        let same : e.pick ≡ s.pick = same_pick e.pick s.pick (both_true (not (is_shown e.event)) (are_same e.pick s.pick) is).1 in
        let one : s.count + 1 ≡ suc s.count = omega arith in
        ap (λ (n : ℕ). replicate n s.pick ++ all_picks spans) one
        ∙ ap (λ (p : Pick). p ∷ (replicate s.count s.pick ++ all_picks spans)) (sym same)
    go false is = refl

-- the picks of the spans are the picks of the entries
pub picks_of_spans : (entries : List Entry) → all_picks (spans_of entries) ≡ picks_of entries
picks_of_spans [] = refl
picks_of_spans (e ∷ entries) = before_picks e (spans_of entries) ∙ ap (λ (ps : List Pick). e.pick ∷ ps) (picks_of_spans entries)

-- each span has a pick
some_before : (e : Entry) (spans : List Span) → ((i : ℕ) (s : Span) → slice_get spans i ≡ Some s → 0 < s.count)
    → (i : ℕ) (s : Span) → slice_get (before e spans) i ≡ Some s → 0 < s.count
some_before e [] each zero s there =
    subst (λ (t : Span). 0 < t.count) (let is : record { pick = e.pick; count = 1; shows = is_shown e.event } ≡ s = cc in is) (omega arith)
some_before e [] each (suc i) s there = absurd cc
some_before e (t ∷ spans) each i s there = go (not (is_shown e.event) && are_same e.pick t.pick) i there
  where
    go : (joins : Bool) (i : ℕ)
        → slice_get (cond joins (record t { count = t.count + 1 } ∷ spans) (record { pick = e.pick; count = 1; shows = is_shown e.event } ∷ (t ∷ spans))) i
        ≡ Some s
        → 0 < s.count
    go true zero there = subst (λ (u : Span). 0 < u.count) (let is : record t { count = t.count + 1 } ≡ s = cc in is) (omega arith)
    go true (suc i) there = each (suc i) s there
    go false zero there =
        subst (λ (u : Span). 0 < u.count) (let is : record { pick = e.pick; count = 1; shows = is_shown e.event } ≡ s = cc in is) (omega arith)
    go false (suc i) there = each i s there

pub some_picks : (entries : List Entry) (i : ℕ) (s : Span) → slice_get (spans_of entries) i ≡ Some s → 0 < s.count
some_picks [] i s there = absurd cc
some_picks (e ∷ entries) i s there = some_before e (spans_of entries) (some_picks entries) i s there

-- the picks of the first spans, and of one more
pub one_more_span : (spans : List Span) (i : ℕ) (s : Span) → slice_get spans i ≡ Some s
    → all_picks (take (i + 1) spans) ≡ all_picks (take i spans) ++ replicate s.count s.pick
one_more_span [] i s there = absurd cc
one_more_span (t ∷ spans) zero s there =
    append-nil (replicate t.count t.pick) ∙ ap (λ (u : Span). replicate u.count u.pick) (let is : t ≡ s = cc in is)
one_more_span (t ∷ spans) (suc i) s there =
    ap (λ (n : ℕ). all_picks (take n (t ∷ spans))) (let next : suc i + 1 ≡ suc (i + 1) = omega arith in next)
    ∙ ap (λ (ps : List Pick). replicate t.count t.pick ++ ps) (one_more_span spans i s there)
    ∙ sym (append_assoc (replicate t.count t.pick) (all_picks (take i spans)) (replicate s.count s.pick))

-- the first spans have no more picks than all
few_of_first : (n : ℕ) (spans : List Span) → length (all_picks (take n spans)) ≤ length (all_picks spans)
few_of_first zero spans = omega arith
few_of_first (suc n) [] = omega arith
few_of_first (suc n) (s ∷ spans) =
    let a = length-append (replicate s.count s.pick) (all_picks (take n spans)) in
    let b = length-append (replicate s.count s.pick) (all_picks spans) in
    let le = few_of_first n spans in
    omega (arith, a, b, le)

-- ---- counted picks

-- the picks of the first spans were counted
abbrev pub AreCounted : List CountedPick → List Entry → ℕ → Type 0
AreCounted picks entries n = spread picks ≡ all_picks (take n (spans_of entries))

-- those of the next span fit
pub next_fits : (picks : List CountedPick) (entries : List Entry) (i : ℕ) (s : Span) → AreCounted picks entries i
    → slice_get (spans_of entries) i ≡ Some s → length entries ≤ 10000000 → length (spread picks) + s.count ≤ 10000000
next_fits picks entries i s counted there few =
    let spans = spans_of entries in
    let now = ap (λ (ps : List Pick). length ps) counted in
    let more = ap (λ (ps : List Pick). length ps) (one_more_span spans i s there) in
    let both = length-append (all_picks (take i spans)) (replicate s.count s.pick) in
    let n = length-replicate s.count s.pick in
    let le = few_of_first (i + 1) spans in
    let all = ap (λ (ps : List Pick). length ps) (picks_of_spans entries) in
    let many = length-map entries (λ (e : Entry). e.pick) in
    omega (arith, now, more, both, n, le, all, many, few)

pub counted_one : (picks more : List CountedPick) (entries : List Entry) (i : ℕ) (s : Span) → AreCounted picks entries i
    → slice_get (spans_of entries) i ≡ Some s → spread more ≡ spread picks ++ replicate s.count s.pick → AreCounted more entries (i + 1)
counted_one picks more entries i s counted there is =
    is ∙ (ap (λ (ps : List Pick). ps ++ replicate s.count s.pick) counted ∙ sym (one_more_span (spans_of entries) i s there))

pub counted_all : (picks : List CountedPick) (entries : List Entry) (i : ℕ) → AreCounted picks entries i → length (spans_of entries) ≤ i
    → spread picks ≡ picks_of entries
counted_all picks entries i counted all =
    counted ∙ (ap all_picks (take_all i (spans_of entries) all) ∙ picks_of_spans entries)
