-- The spans that entries fall into.
use Rattle.std.proofs.Common.{◌≡◌, ℕ, zero, suc, ◌+◌, ◌-◌, ◌<◌, List, [], ◌∷◌, ◌++◌, length, Bool, true}
use Rattle.std.proofs.Common.{false, refl, sym, ap, ◌∙◌, append-nil, arith}
use Rattle.std.specs.Prelude.{cond, not, ◌&&◌, ◌==◌}
use Rattle.std.proofs.lemmas.Bool.Decides.{nat_tests}
use Rattle.pb_base.specs.declared.event.Event.{Event}
use Rattle.pb_base.specs.declared.pick.Pick.{Pick}
use Rattle.pb_base.proofs.Cases.{both_true, not_true}
use Rattle.pb_history.specs.Entries.{Entry, added, are_same, before, entries_of, is_shown, marks, shown, silent}
use Rattle.pb_history.specs.Entries.{silent_picks, spans_of}
use Rattle.pb_history.specs.Traces.{SilentPicksAddOneSpan}
use Rattle.pb_history.specs.declared.span.Span.{Span}
use Rattle.pb_history.proofs.TraceSteps.{replicate_more}

pub same_itself : (p : Pick) → are_same p p ≡ true
same_itself p = grind (arith, nat_tests)

eq_same : (a b : ℕ) → (a == b) ≡ true → a ≡ b
eq_same a b h = grind (arith, nat_tests)

pub same_pick : (a b : Pick) → are_same a b ≡ true → a ≡ b
same_pick a b h =
    let parts = both_true (a.process == b.process) (a.arm == b.arm) h in
    let p = eq_same a.process b.process parts.0 in
    let q = eq_same a.arm b.arm parts.1 in
    let with_process : ℕ → Pick = λ n. record { process = n; arm = a.arm } in
    let with_arm : ℕ → Pick = λ n. record { process = b.process; arm = n } in
    ap with_process p ∙ ap with_arm q

-- a span that takes in another shows nothing, and is of its arm
pub joins_same : (t s : Span) → (not t.shows && are_same t.pick s.pick) ≡ true → (t.shows ≡ false) × (t.pick ≡ s.pick)
joins_same t s h =
    let parts = both_true (not t.shows) (are_same t.pick s.pick) h in
    (not_true t.shows parts.0, same_pick t.pick s.pick parts.1)

-- one entry before a span that takes in another
step_joined : (b : Bool) (first t s : Span) → (not t.shows && are_same t.pick s.pick) ≡ true
    → cond b (record s { count = t.count + s.count + 1 } ∷ []) (first ∷ (record s { count = t.count + s.count } ∷ []))
    ≡ added (cond b (record t { count = t.count + 1 } ∷ []) (first ∷ (t ∷ []))) s
step_joined true first t s h =
    ap (λ (n : ℕ). record s { count = n } ∷ []) (let e : t.count + s.count + 1 ≡ t.count + 1 + s.count = omega arith in e)
    ∙ ap (λ (j : Bool). cond j (record s { count = t.count + 1 + s.count } ∷ []) (record t { count = t.count + 1 } ∷ (s ∷ []))) (sym h)
step_joined false first t s h = ap (λ (j : Bool). first ∷ cond j (record s { count = t.count + s.count } ∷ []) (t ∷ (s ∷ []))) (sym h)

-- and before two spans that stay apart
step_apart : (b : Bool) (first t s : Span) → (not t.shows && are_same t.pick s.pick) ≡ false
    → cond b (record t { count = t.count + 1 } ∷ (s ∷ [])) (first ∷ (t ∷ (s ∷ [])))
    ≡ added (cond b (record t { count = t.count + 1 } ∷ []) (first ∷ (t ∷ []))) s
step_apart true first t s h =
    ap (λ (j : Bool). cond j (record s { count = t.count + 1 + s.count } ∷ []) (record t { count = t.count + 1 } ∷ (s ∷ []))) (sym h)
step_apart false first t s h = ap (λ (j : Bool). first ∷ cond j (record s { count = t.count + s.count } ∷ []) (t ∷ (s ∷ []))) (sym h)

alone : Entry → Span
alone e = record { pick = e.pick; count = 1; shows = is_shown e.event }

before_last : (e : Entry) (t s : Span) (joined : Bool) → (not t.shows && are_same t.pick s.pick) ≡ joined
    → before e (cond joined (record s { count = t.count + s.count } ∷ []) (t ∷ (s ∷ []))) ≡ added (before e (t ∷ [])) s
unfolding alone
before_last e t s true h =
    let same = (joins_same t s h).1 in
    let first = alone e in
    ap (λ (p : Pick). cond (not (is_shown e.event) && are_same e.pick p) (record s { count = t.count + s.count + 1 } ∷
    []) (first ∷ (record s { count = t.count + s.count } ∷ []))) (sym same)
    ∙ step_joined (not (is_shown e.event) && are_same e.pick t.pick) first t s h
before_last e t s false h = step_apart (not (is_shown e.event) && are_same e.pick t.pick) (alone e) t s h

before_many : (b : Bool) (first t u s : Span) (spans : List Span)
    → cond b (record t { count = t.count + 1 } ∷ added (u ∷ spans) s) (first ∷ (t ∷ added (u ∷ spans) s))
    ≡ added (cond b (record t { count = t.count + 1 } ∷ (u ∷ spans)) (first ∷ (t ∷ (u ∷ spans)))) s
before_many true first t u s spans = refl
before_many false first t u s spans = refl

-- an entry before spans to which one more is added
before_added : (e : Entry) (spans : List Span) (s : Span) → before e (added spans s) ≡ added (before e spans) s
unfolding alone
before_added e [] s =
    ap (λ (n : ℕ). cond (not (is_shown e.event) && are_same e.pick s.pick) (record s { count = n } ∷ []) (alone e ∷ (s ∷ [])))
    (let n : s.count + 1 ≡ 1 + s.count = omega arith in n)
before_added e (t ∷ []) s = before_last e t s (not t.shows && are_same t.pick s.pick) refl
before_added e (t ∷ (u ∷ spans)) s = before_many (not (is_shown e.event) && are_same e.pick t.pick) (alone e) t u s spans

pub spans_of_append : (xs run : List Entry) (s : Span) → spans_of run ≡ s ∷ [] → spans_of (xs ++ run) ≡ added (spans_of xs) s
spans_of_append [] run s h = h
spans_of_append (e ∷ xs) run s h = ap (before e) (spans_of_append xs run s h) ∙ before_added e (spans_of xs) s

-- silent picks before one span of their arm
silent_before : (p : Pick) (n : ℕ) (s : Span) (rest : List Entry) → p ≡ s.pick → spans_of rest ≡ s ∷ []
    → spans_of (silent_picks p n ++ rest) ≡ record s { count = s.count + n } ∷ []
unfolding alone
silent_before p zero s rest same h = h ∙ ap (λ (k : ℕ). record s { count = k } ∷ []) (let e : s.count ≡ s.count + 0 = omega arith in e)
silent_before p (suc n) s rest same h =
    let test : are_same p s.pick ≡ true = ap (are_same p) (sym same) ∙ same_itself p in
    ap (before (silent p)) (silent_before p n s rest same h)
    ∙ (ap (λ (b : Bool). cond b (record s { count = s.count + n + 1 } ∷ []) (alone (silent p) ∷ (record s { count = s.count + n } ∷ []))) test
    ∙ ap (λ (k : ℕ). record s { count = k } ∷ []) (let e : s.count + n + 1 ≡ s.count + suc n = omega arith in e))

-- the entries of one span fall into that span
pub spans_of_run : (p : Pick) (count : ℕ) (shows : Bool) (more : List Event) → 0 < count → length more ≡ marks shows
    → spans_of (entries_of (record { pick = p; count = count; shows = shows } ∷ []) more) ≡ record { pick = p; count = count; shows = shows } ∷ []
spans_of_run p count true [] lt one = absurd (omega arith)
spans_of_run p count true (e ∷ (f ∷ more)) lt one = absurd (omega arith)
spans_of_run p count true (e ∷ []) lt one =
    silent_before p (count - 1) (record { pick = p; count = 1; shows = true }) (shown p e ∷ []) refl refl
    ∙ ap (λ (k : ℕ). record { pick = p; count = k; shows = true } ∷ []) (let n : 1 + (count - 1) ≡ count = omega (arith, lt) in n)
spans_of_run p count false (e ∷ more) lt none = absurd (omega arith)
spans_of_run p zero false [] lt none = absurd (omega arith)
spans_of_run p (suc k) false [] lt none =
    ap spans_of (append-nil (silent_picks p (suc k - 0)) ∙ (ap (silent_picks p) (let n : suc k - 0 ≡ suc k = omega arith in n) ∙ replicate_more k (silent p)))
    ∙ (silent_before p k (record { pick = p; count = 1; shows = false }) (silent p ∷ []) refl refl
    ∙ ap (λ (n : ℕ). record { pick = p; count = n; shows = false } ∷ []) (let e : 1 + k ≡ suc k = omega arith in e))

silent_span : (p : Pick) (n : ℕ) → 0 < n → spans_of (silent_picks p n) ≡ record { pick = p; count = n; shows = false } ∷ []
silent_span p n lt =
    ap spans_of (sym (append-nil (silent_picks p (n - 0)) ∙ ap (silent_picks p) (let e : n - 0 ≡ n = omega arith in e)))
    ∙ spans_of_run p n false [] lt refl

-- silent picks after entries
pub silent_added : SilentPicksAddOneSpan
silent_added entries p n lt = spans_of_append entries (silent_picks p n) (record { pick = p; count = n; shows = false }) (silent_span p n lt)
