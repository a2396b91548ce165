-- Spans that end one after another.
use Rattle.std.proofs.Common.{◌≡◌, ℕ, zero, suc, ◌+◌, ◌-◌, ◌<◌, ◌≤◌, List, [], ◌∷◌, ◌++◌, length, get_or, take}
use Rattle.std.proofs.Common.{replicate, Bool, true, false, Some, refl, sym, ap, ◌∙◌, subst, arith}
use Rattle.std.specs.Prelude.{cond, not, ◌&&◌, slice_get}
use Rattle.pb_base.specs.declared.pick.Pick.{Pick}
use Rattle.pb_history.specs.Entries.{added, all_picks, are_same, size}
use Rattle.pb_history.specs.Ends.{Rise, goes_on, spans_from}
use Rattle.pb_history.specs.declared.span.Span.{Span}
use Rattle.pb_history.specs.declared.spans.SpanEnd.{SpanEnd}

pub item_there : {X : Type 0} (xs : List X) (i : ℕ) (d : X) → i < length xs → slice_get xs i ≡ Some (get_or xs i d)
item_there [] i d lt = absurd (omega arith)
item_there (x ∷ xs) zero d lt = refl
item_there (x ∷ xs) (suc i) d lt = item_there xs i d (omega arith)

pub length_from : (start : ℕ) (ends : List SpanEnd) → length (spans_from start ends) ≡ length ends
length_from start [] = refl
length_from start (e ∷ ends) = ap suc (length_from e.end ends)

pub size_from : (start len : ℕ) (ends : List SpanEnd) → Rise start ends len → start + size (spans_from start ends) ≡ len
size_from start len [] h = omega (arith, h)
size_from start len (e ∷ ends) h =
    let r = size_from e.end len ends h.1 in
    let l = h.0 in
    omega (arith, r, l)

-- ---- the span with a number

-- the number of the last pick of a span, counted from 1
abbrev pub end_of : List SpanEnd → ℕ → ℕ
end_of [] k = 0
end_of (e ∷ ends) zero = e.end
end_of (e ∷ ends) (suc k) = end_of ends k

pub end_is : (ends : List SpanEnd) (k : ℕ) (e : SpanEnd) → slice_get ends k ≡ Some e → end_of ends k ≡ e.end
end_is [] k e h = cc
end_is (x ∷ ends) zero e h = let same : x ≡ e = cc in ap (λ (t : SpanEnd). t.end) same
end_is (x ∷ ends) (suc k) e h = end_is ends k e h

-- the picks before a span are those up to the end of the one before it
pub start_is : (start len : ℕ) (ends : List SpanEnd) (k : ℕ) → Rise start ends len → k < length ends
    → start + size (take (suc k) (spans_from start ends)) ≡ end_of ends k
start_is start len [] k h lt = absurd (omega arith)
start_is start len (e ∷ ends) zero h lt = let l = h.0 in omega (arith, l)
start_is start len (e ∷ ends) (suc k) h lt =
    let r = start_is e.end len ends k h.1 (omega arith) in
    let l = h.0 in
    omega (arith, r, l)

pub starts_before : (start len : ℕ) (ends : List SpanEnd) (k : ℕ) (e : SpanEnd) → Rise start ends len → slice_get ends k ≡ Some e
    → start + size (take k (spans_from start ends)) < e.end
starts_before start len [] k e h there = cc
starts_before start len (x ∷ ends) zero e h there =
    let same : x ≡ e = cc in
    let l : start < e.end = subst (λ (t : SpanEnd). start < t.end) same h.0 in
    omega (arith, l)
starts_before start len (x ∷ ends) (suc k) e h there =
    let r = starts_before x.end len ends k e h.1 there in
    let l = h.0 in
    omega (arith, r, l)

-- a span begins by a number if those before it end by it
pub begins_by : (start len i : ℕ) (ends : List SpanEnd) (k : ℕ) → Rise start ends len → k < length ends → start ≤ i
    → ((j : ℕ) → j < k → end_of ends j ≤ i) → start + size (take k (spans_from start ends)) ≤ i
begins_by start len i ends zero h lt le before = omega (arith, le)
begins_by start len i ends (suc k) h lt le before =
    let r = start_is start len ends k h (omega (arith, lt)) in
    let b = before k (omega arith) in
    omega (arith, r, b)

abbrev pub span_to : ℕ → SpanEnd → Span
span_to start e = record { pick = e.pick; count = e.end - start; shows = e.shows }

pub span_at : (start len : ℕ) (ends : List SpanEnd) (k : ℕ) (e : SpanEnd) → Rise start ends len → slice_get ends k ≡ Some e
    → slice_get (spans_from start ends) k ≡ Some (span_to (start + size (take k (spans_from start ends))) e)
span_at start len [] k e h there = cc
span_at start len (x ∷ ends) zero e h there =
    let same : x ≡ e = cc in
    ap (λ (t : SpanEnd). Some (span_to start t)) same
    ∙ ap (λ (n : ℕ). Some (span_to n e)) (let z : start ≡ start + 0 = omega arith in z)
span_at start len (x ∷ ends) (suc k) e h there =
    let l = h.0 in
    let z : x.end + size (take k (spans_from x.end ends)) ≡ start + (x.end - start + size (take k (spans_from x.end ends))) = omega (arith, l) in
    span_at x.end len ends k e h.1 there ∙ ap (λ (n : ℕ). Some (span_to n e)) z

-- ---- the pick with a number

-- spans end one after another
ends_after : (start len : ℕ) (ends : List SpanEnd) (k : ℕ) → Rise start ends len → k < length ends → start < end_of ends k
ends_after start len [] k h lt = absurd (omega arith)
ends_after start len (e ∷ ends) zero h lt = h.0
ends_after start len (e ∷ ends) (suc k) h lt =
    let r = ends_after e.end len ends k h.1 (omega arith) in
    let l = h.0 in
    omega (arith, r, l)

pub ends_rise : (start len : ℕ) (ends : List SpanEnd) (j k : ℕ) → Rise start ends len → j ≤ k → k < length ends → end_of ends j ≤ end_of ends k
ends_rise start len [] j k h le lt = absurd (omega arith)
ends_rise start len (e ∷ ends) zero zero h le lt = omega arith
ends_rise start len (e ∷ ends) zero (suc k) h le lt =
    let r = ends_after e.end len ends k h.1 (omega arith) in
    omega (arith, r)
ends_rise start len (e ∷ ends) (suc j) zero h le lt = absurd (omega arith)
ends_rise start len (e ∷ ends) (suc j) (suc k) h le lt = ends_rise e.end len ends j k h.1 (omega arith) (omega arith)

-- if all spans end by a number, it is past the picks
pub all_before : (start len i : ℕ) (ends : List SpanEnd) → Rise start ends len → start ≤ i → ((k : ℕ) → k < length ends → end_of ends k ≤ i) → len ≤ i
all_before start len i [] h le all = omega (arith, h, le)
all_before start len i (e ∷ ends) h le all =
    all_before e.end len i ends h.1 (all 0 (omega arith)) (λ k lt. all (suc k) (omega arith))

within_first : {X : Type 0} (n : ℕ) (x : X) (ys : List X) (i : ℕ) → i < n → slice_get (replicate n x ++ ys) i ≡ Some x
within_first zero x ys i lt = absurd (omega arith)
within_first (suc n) x ys zero lt = refl
within_first (suc n) x ys (suc i) lt = within_first n x ys i (omega arith)

past_first : {X : Type 0} (n : ℕ) (x : X) (ys : List X) (i : ℕ) → slice_get (replicate n x ++ ys) (n + i) ≡ slice_get ys i
past_first zero x ys i = ap (slice_get ys) (let e : 0 + i ≡ i = omega arith in e)
past_first (suc n) x ys i = ap (slice_get (x ∷ (replicate n x ++ ys))) (let e : suc n + i ≡ suc (n + i) = omega arith in e) ∙ past_first n x ys i

-- a number from the end of the spans before one, and below its own, is that of a pick of it
pub pick_at : (start len i : ℕ) (ends : List SpanEnd) (k : ℕ) (e : SpanEnd) → Rise start ends len → start ≤ i → slice_get ends k ≡ Some e
    → ((j : ℕ) → j < k → end_of ends j ≤ i) → i < e.end → slice_get (all_picks (spans_from start ends)) (i - start) ≡ Some e.pick
pick_at start len i [] k e h le there before lt = cc
pick_at start len i (x ∷ ends) zero e h le there before lt =
    let same : x ≡ e = cc in
    let inside : i < x.end = rw same lt in
    within_first (x.end - start) x.pick _ (i - start) (omega (arith, inside, le)) ∙ ap (λ (t : SpanEnd). Some t.pick) same
pick_at start len i (x ∷ ends) (suc k) e h le there before lt =
    let first = before 0 (omega arith) in
    let l = h.0 in
    let where_is : i - start ≡ x.end - start + (i - x.end) = omega (arith, first, le, l) in
    ap (slice_get (replicate (x.end - start) x.pick ++ all_picks (spans_from x.end ends))) where_is
    ∙ (past_first (x.end - start) x.pick _ (i - x.end)
    ∙ pick_at x.end len i ends k e h.1 first there (λ j u. before (suc j) (omega arith)) lt)

-- ---- one more span

-- one more end, in the place of the last if that belongs to the same span
abbrev pub with_end : List SpanEnd → SpanEnd → List SpanEnd
with_end [] e = e ∷ []
with_end (d ∷ []) e = cond (not d.shows && are_same d.pick e.pick) (e ∷ []) (d ∷ (e ∷ []))
with_end (d ∷ (f ∷ ends)) e = d ∷ with_end (f ∷ ends) e

rise_one : (b : Bool) (start len : ℕ) (d e : SpanEnd) → Rise start (d ∷ []) len → len < e.end → Rise start (cond b (e ∷ []) (d ∷ (e ∷ []))) e.end
rise_one true start len d e h lt = (let l = h.0 in let s = h.1 in omega (arith, l, s, lt), refl)
rise_one false start len d e h lt = (h.0, (let s = h.1 in omega (arith, s, lt), refl))

pub rise_more : (start len : ℕ) (ends : List SpanEnd) (e : SpanEnd) → Rise start ends len → len < e.end → Rise start (with_end ends e) e.end
rise_more start len [] e h lt = (omega (arith, h, lt), refl)
rise_more start len (d ∷ []) e h lt = rise_one (not d.shows && are_same d.pick e.pick) start len d e h lt
rise_more start len (d ∷ (f ∷ ends)) e h lt = (h.0, rise_more d.end len (f ∷ ends) e h.1 lt)

-- the end of a span that comes after `len` picks
abbrev pub end_for : ℕ → Span → SpanEnd
end_for len s = record { pick = s.pick; shows = s.shows; end = len + s.count }

span_of_end : (start len : ℕ) (s : Span) → len ≡ start → span_to start (end_for len s) ≡ s
span_of_end start len s h =
    let n : len + s.count - start ≡ s.count = omega (arith, h) in
    ap (λ (k : ℕ). record s { count = k }) n

spans_one : (b : Bool) (start len : ℕ) (d : SpanEnd) (s : Span) → Rise start (d ∷ []) len
    → spans_from start (cond b (end_for len s ∷ []) (d ∷ (end_for len s ∷ [])))
    ≡ cond b (record s { count = d.end - start + s.count } ∷ []) (span_to start d ∷ (s ∷ []))
spans_one true start len d s h =
    let l = h.0 in
    let e = h.1 in
    let n : len + s.count - start ≡ d.end - start + s.count = omega (arith, l, e) in
    ap (λ (k : ℕ). record s { count = k } ∷ []) n
spans_one false start len d s h = ap (λ (t : Span). span_to start d ∷ (t ∷ [])) (span_of_end d.end len s h.1)

pub spans_more : (start len : ℕ) (ends : List SpanEnd) (s : Span) → Rise start ends len
    → spans_from start (with_end ends (end_for len s)) ≡ added (spans_from start ends) s
spans_more start len [] s h = ap (λ (t : Span). t ∷ []) (span_of_end start len s h)
spans_more start len (d ∷ []) s h = spans_one (not d.shows && are_same d.pick s.pick) start len d s h
spans_more start len (d ∷ (f ∷ ends)) s h = ap (λ (ts : List Span). span_to start d ∷ ts) (spans_more d.end len (f ∷ ends) s h.1)

taken : (n : ℕ) (x : SpanEnd) (xs : List SpanEnd) → take (suc (suc n) - 1) (x ∷ xs) ≡ x ∷ take (suc n - 1) xs
taken n x xs = ap (λ (k : ℕ). take k (x ∷ xs)) (let e : suc (suc n) - 1 ≡ suc (suc n - 1) = omega arith in e)

-- if the pick goes on with the last span, that one is replaced
pub replaced : (ends : List SpanEnd) (e : SpanEnd) → goes_on ends e.pick ≡ true → take (length ends - 1) ends ++ e ∷ [] ≡ with_end ends e
replaced [] e h = cc
replaced (d ∷ []) e h = ap (λ (b : Bool). cond b (e ∷ []) (d ∷ (e ∷ []))) (sym h)
replaced (d ∷ (f ∷ ends)) e h =
    ap (λ (ds : List SpanEnd). ds ++ e ∷ []) (taken (length ends) d (f ∷ ends))
    ∙ ap (λ (ds : List SpanEnd). d ∷ ds) (replaced (f ∷ ends) e h)

-- and else it is kept
pub appended : (ends : List SpanEnd) (e : SpanEnd) → goes_on ends e.pick ≡ false → ends ++ e ∷ [] ≡ with_end ends e
appended [] e h = refl
appended (d ∷ []) e h = ap (λ (b : Bool). cond b (e ∷ []) (d ∷ (e ∷ []))) (sym h)
appended (d ∷ (f ∷ ends)) e h = ap (λ (ds : List SpanEnd). d ∷ ds) (appended (f ∷ ends) e h)

-- the last end decides whether a pick goes on
pub goes_on_last : (ends : List SpanEnd) (pick : Pick) (e : SpanEnd) → slice_get ends (length ends - 1) ≡ Some e
    → goes_on ends pick ≡ (not e.shows && are_same e.pick pick)
goes_on_last [] pick e h = cc
goes_on_last (d ∷ []) pick e h =
    let same : d ≡ e = cc in
    ap (λ (t : SpanEnd). not t.shows && are_same t.pick pick) same
goes_on_last (d ∷ (f ∷ ends)) pick e h =
    let n : suc (suc (length ends)) - 1 ≡ suc (suc (length ends) - 1) = omega arith in
    goes_on_last (f ∷ ends) pick e (ap (slice_get (d ∷ (f ∷ ends))) (sym n) ∙ h)
