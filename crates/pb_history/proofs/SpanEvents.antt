-- Spans, and their events.
use Rattle.std.proofs.Common.{◌≡◌, ℕ, zero, suc, ◌+◌, ◌-◌, ◌<◌, ◌≤◌, List, [], ◌∷◌, ◌++◌, length, map, take, drop}
use Rattle.std.proofs.Common.{replicate, Bool, true, false, refl, sym, ap, ◌∙◌, subst, append_assoc, append-nil}
use Rattle.std.proofs.Common.{length-append, length-drop, arith}
use Rattle.std.specs.Prelude.{cond, not, ◌&&◌, option_to_list}
use Rattle.std.proofs.lemmas.List.{length-map, length-replicate, length-take-le, map-append, take-append-le}
use Rattle.std.proofs.lemmas.List.{drop-append-le}
use Rattle.pb_base.specs.declared.event.Event.{Event}
use Rattle.pb_base.specs.declared.pick.Pick.{Pick}
use Rattle.pb_history.specs.Entries.{Entry, added, all_picks, are_same, entries_of, events_of, marks, picks_of, shown}
use Rattle.pb_history.specs.Entries.{silent_picks, size, spans_of}
use Rattle.pb_history.specs.Traces.{AreLaid}
use Rattle.pb_history.specs.declared.span.Span.{Span}
use Rattle.pb_history.proofs.SpansOfEntries.{joins_same, spans_of_append, spans_of_run}

drop_whole : {X : Type 0} (n : ℕ) (xs : List X) → length xs ≡ n → drop n xs ≡ []
drop_whole zero [] h = refl
drop_whole zero (x ∷ xs) h = absurd (omega arith)
drop_whole (suc n) [] h = absurd (omega arith)
drop_whole (suc n) (x ∷ xs) h = drop_whole n xs (omega arith)

pub replicate_append : {X : Type 0} (m n : ℕ) (x : X) → replicate m x ++ replicate n x ≡ replicate (m + n) x
replicate_append zero n x = ap (λ (k : ℕ). replicate k x) (let e : n ≡ 0 + n = omega arith in e)
replicate_append (suc m) n x = ap (λ xs. x ∷ xs) (replicate_append m n x) ∙ ap (λ (k : ℕ). replicate k x) (let e : suc (m + n) ≡ suc m + n = omega arith in e)

-- ---- one more span

-- the entries of a span before others
behind_first : (t : Span) (after spans : List Span) (events more : List Event) (tail : List Entry) → marks t.shows ≤ length events
    → entries_of after (drop (marks t.shows) events ++ more) ≡ entries_of spans (drop (marks t.shows) events) ++ tail
    → entries_of (t ∷ after) (events ++ more) ≡ entries_of (t ∷ spans) events ++ tail
behind_first t after spans events more tail le rest =
    let n = marks t.shows in
    let silent = silent_picks t.pick (t.count - n) in
    ap (λ (es : List Event). silent ++ (map (shown t.pick) es ++ entries_of after (drop n (events ++ more)))) (take-append-le n events more le)
    ∙ (ap (λ (es : List Event). silent ++ (map (shown t.pick) (take n events) ++ entries_of after es)) (drop-append-le n events more le)
    ∙ (ap (λ (xs : List Entry). silent ++ (map (shown t.pick) (take n events) ++ xs)) rest
    ∙ (ap (λ (xs : List Entry). silent ++ xs) (sym (append_assoc (map (shown t.pick) (take n events)) (entries_of spans (drop n events)) tail))
    ∙ sym (append_assoc silent (map (shown t.pick) (take n events) ++ entries_of spans (drop n events)) tail))))

-- one span that takes in another
entries_joined : (t s : Span) (events more : List Event) → AreLaid (t ∷ []) events → marks s.shows ≤ s.count → t.shows ≡ false → t.pick ≡ s.pick
    → entries_of (record s { count = t.count + s.count } ∷ []) (events ++ more) ≡ entries_of (t ∷ []) events ++ entries_of (s ∷ []) more
entries_joined t s events more h le quiet same =
    let m = marks s.shows in
    let none : events ≡ [] = subst (λ (b : Bool). drop (marks b) events ≡ []) quiet h.2 in
    let last = map (shown s.pick) (take m more) ++ [] in
    let silent = silent_picks s.pick (s.count - m) in
    let one : entries_of (t ∷ []) events ≡ silent_picks s.pick t.count =
    ap (λ (b : Bool). silent_picks t.pick (t.count - marks b) ++ (map (shown t.pick) (take (marks b) events) ++ [])) quiet
    ∙ (append-nil (silent_picks t.pick (t.count - 0))
    ∙ (ap (silent_picks t.pick) (let e : t.count - 0 ≡ t.count = omega arith in e)
    ∙ ap (λ (p : Pick). silent_picks p t.count) same)) in
    let all : t.count + s.count - m ≡ t.count + (s.count - m) = omega (arith, le) in
    ap (λ (es : List Event). silent_picks s.pick (t.count + s.count - m) ++ (map (shown s.pick) (take m (es ++ more)) ++ [])) none
    ∙ (ap (λ (n : ℕ). silent_picks s.pick n ++ last) all
    ∙ (ap (λ (xs : List Entry). xs ++ last) (sym (replicate_append t.count (s.count - m) _))
    ∙ (append_assoc (silent_picks s.pick t.count) silent last
    ∙ ap (λ (xs : List Entry). xs ++ (silent ++ last)) (sym one))))

entries_one : (t s : Span) (events more : List Event) (joined : Bool) → AreLaid (t ∷ []) events → marks s.shows ≤ s.count
    → (not t.shows && are_same t.pick s.pick) ≡ joined
    → entries_of (cond joined (record s { count = t.count + s.count } ∷ []) (t ∷ (s ∷ []))) (events ++ more) ≡
    entries_of (t ∷ []) events ++ entries_of (s ∷ []) more
entries_one t s events more true h le j =
    let same = joins_same t s j in
    entries_joined t s events more h le same.0 same.1
entries_one t s events more false h le j =
    behind_first t (s ∷ []) [] events more (entries_of (s ∷ []) more) h.1 (ap (λ (es : List Event). entries_of (s ∷ []) (es ++ more)) h.2)

pub entries_added : (spans : List Span) (events : List Event) (s : Span) (more : List Event) → AreLaid spans events → marks s.shows ≤ s.count
    → entries_of (added spans s) (events ++ more) ≡ entries_of spans events ++ entries_of (s ∷ []) more
entries_added [] events s more h le = ap (λ (es : List Event). entries_of (s ∷ []) (es ++ more)) h
entries_added (t ∷ []) events s more h le = entries_one t s events more (not t.shows && are_same t.pick s.pick) h le refl
entries_added (t ∷ (u ∷ spans)) events s more h le =
    behind_first t (added (u ∷ spans) s) (u ∷ spans) events more (entries_of (s ∷ []) more) h.1
    (entries_added (u ∷ spans) (drop (marks t.shows) events) s more h.2 le)

laid_alone : (s : Span) (events more : List Event) → events ≡ [] → 0 < s.count → length more ≡ marks s.shows → AreLaid (s ∷ []) (events ++ more)
laid_alone s events more none lt count =
    subst (λ (es : List Event). AreLaid (s ∷ []) (es ++ more)) (sym none)
    (lt, omega (arith, count), drop_whole (marks s.shows) more count)

laid_one : (t s : Span) (events more : List Event) (joined : Bool) → AreLaid (t ∷ []) events → 0 < s.count → length more ≡ marks s.shows
    → (not t.shows && are_same t.pick s.pick) ≡ joined
    → AreLaid (cond joined (record s { count = t.count + s.count } ∷ []) (t ∷ (s ∷ []))) (events ++ more)
laid_one t s events more true h lt count j =
    let none : events ≡ [] = subst (λ (b : Bool). drop (marks b) events ≡ []) (joins_same t s j).0 h.2 in
    laid_alone (record s { count = t.count + s.count }) events more none (omega (arith, lt)) count
laid_one t s events more false h lt count j = (
  h.0,
  (let l = length-append events more in let m = h.1 in omega (arith, l, m)),
  subst (AreLaid (s ∷ [])) (sym (drop-append-le (marks t.shows) events more h.1)) (laid_alone s (drop (marks t.shows) events) more h.2 lt count),
)

pub laid_added : (spans : List Span) (events : List Event) (s : Span) (more : List Event) → AreLaid spans events → 0 < s.count → length more ≡ marks s.shows
    → AreLaid (added spans s) (events ++ more)
laid_added [] events s more h lt count = laid_alone s events more h lt count
laid_added (t ∷ []) events s more h lt count = laid_one t s events more (not t.shows && are_same t.pick s.pick) h lt count refl
laid_added (t ∷ (u ∷ spans)) events s more h lt count = (
  h.0,
  (let l = length-append events more in let m = h.1 in omega (arith, l, m)),
  subst (AreLaid (added (u ∷ spans) s)) (sym (drop-append-le (marks t.shows) events more h.1)) (laid_added (u ∷ spans)
      (drop (marks t.shows) events) s more h.2 lt count),
)

marks_one : (b : Bool) → marks b ≤ 1
marks_one true = omega arith
marks_one false = omega arith

pub marks_fit : (s : Span) → 0 < s.count → marks s.shows ≤ s.count
marks_fit s lt = let one = marks_one s.shows in omega (arith, one, lt)

-- what holds of a trace after one more span
pub apart_added : (spans : List Span) (events : List Event) (s : Span) (more : List Event) → AreLaid spans events → 0 < s.count → length more ≡ marks s.shows
    → spans_of (entries_of spans events) ≡ spans → spans_of (entries_of (added spans s) (events ++ more)) ≡ added spans s
apart_added spans events s more h lt count apart =
    ap spans_of (entries_added spans events s more h (marks_fit s lt))
    ∙ (spans_of_append (entries_of spans events) (entries_of (s ∷ []) more) s (spans_of_run s.pick s.count s.shows more lt count)
    ∙ ap (λ (ts : List Span). added ts s) apart)

-- ---- sizes

pub laid_size : (spans : List Span) (events : List Event) → AreLaid spans events → length (entries_of spans events) ≡ size spans
laid_size [] events h = refl
laid_size (s ∷ spans) events h =
    let n = marks s.shows in
    let rest = laid_size spans (drop n events) h.2 in
    let silent : length (silent_picks s.pick (s.count - n)) ≡ s.count - n = length-replicate (s.count - n) _ in
    let shows = length-map (take n events) (shown s.pick) in
    let taken = length-take-le n events h.1 in
    let one = length-append (map (shown s.pick) (take n events)) (entries_of spans (drop n events)) in
    let all = length-append (silent_picks s.pick (s.count - n)) (map (shown s.pick) (take n events) ++ entries_of spans (drop n events)) in
    let few = marks_fit s h.0 in
    omega (arith, rest, silent, shows, taken, one, all, few)

-- there are no more events than picks
pub events_fit : (spans : List Span) (events : List Event) → AreLaid spans events → length events ≤ size spans
events_fit [] events h = (let none = ap (λ (es : List Event). length es) h in omega (arith, none))
events_fit (s ∷ spans) events h =
    let rest = events_fit spans (drop (marks s.shows) events) h.2 in
    let few = marks_fit s h.0 in
    let left = length-drop (marks s.shows) events in
    omega (arith, rest, few, left)

length_one : (joined : Bool) (t s one : Span) → length (cond joined (one ∷ []) (t ∷ (s ∷ []))) ≤ 2
length_one true t s one = omega arith
length_one false t s one = omega arith

-- one more span makes the list longer by one at most
pub length_added : (spans : List Span) (s : Span) → length (added spans s) ≤ length spans + 1
length_added [] s = omega arith
length_added (t ∷ []) s = length_one (not t.shows && are_same t.pick s.pick) t s (record s { count = t.count + s.count })
length_added (t ∷ (u ∷ spans)) s = let r = length_added (u ∷ spans) s in omega (arith, r)

-- ---- events

events_of-append : (xs ys : List Entry) → events_of (xs ++ ys) ≡ events_of xs ++ events_of ys
events_of-append [] ys = refl
events_of-append (x ∷ xs) ys = ap (λ (es : List Event). option_to_list x.event ++ es) (events_of-append xs ys) ∙ sym
    (append_assoc (option_to_list x.event) (events_of xs) (events_of ys))

events_of-silent : (pick : Pick) (n : ℕ) → events_of (silent_picks pick n) ≡ []
events_of-silent pick zero = refl
events_of-silent pick (suc n) = events_of-silent pick n

events_of-shown : (pick : Pick) (events : List Event) → events_of (map (shown pick) events) ≡ events
events_of-shown pick [] = refl
events_of-shown pick (e ∷ events) = ap (λ es. e ∷ es) (events_of-shown pick events)

pub take_drop : {X : Type 0} (n : ℕ) (xs : List X) → take n xs ++ drop n xs ≡ xs
take_drop zero xs = refl
take_drop (suc n) [] = refl
take_drop (suc n) (x ∷ xs) = ap (λ ys. x ∷ ys) (take_drop n xs)

-- the events of the entries are those that are kept
pub laid_events : (spans : List Span) (events : List Event) → AreLaid spans events → events_of (entries_of spans events) ≡ events
laid_events [] events h = sym h
laid_events (s ∷ spans) events h =
    let n = marks s.shows in
    let rest = entries_of spans (drop n events) in
    events_of-append (silent_picks s.pick (s.count - n)) (map (shown s.pick) (take n events) ++ rest)
    ∙ (ap (λ (es : List Event). es ++ events_of (map (shown s.pick) (take n events) ++ rest)) (events_of-silent s.pick (s.count - n))
    ∙ (events_of-append (map (shown s.pick) (take n events)) rest
    ∙ (ap (λ (es : List Event). es ++ events_of rest) (events_of-shown s.pick (take n events))
    ∙ (ap (λ (es : List Event). take n events ++ es) (laid_events spans (drop n events) h.2)
    ∙ take_drop n events))))

-- ---- picks

pub picks_shown : (pick : Pick) (events : List Event) → picks_of (map (shown pick) events) ≡ replicate (length events) pick
picks_shown pick [] = refl
picks_shown pick (e ∷ events) = ap (λ ps. pick ∷ ps) (picks_shown pick events)

pub picks_silent : (pick : Pick) (n : ℕ) → picks_of (silent_picks pick n) ≡ replicate n pick
picks_silent pick zero = refl
picks_silent pick (suc n) = ap (λ ps. pick ∷ ps) (picks_silent pick n)

-- the picks of the entries are those of the spans
pub laid_picks : (spans : List Span) (events : List Event) → AreLaid spans events → picks_of (entries_of spans events) ≡ all_picks spans
laid_picks [] events h = refl
laid_picks (s ∷ spans) events h =
    let n = marks s.shows in
    let silent = silent_picks s.pick (s.count - n) in
    let rest = entries_of spans (drop n events) in
    let few = marks_fit s h.0 in
    let whole : s.count - n + n ≡ s.count = omega (arith, few) in
    map-append (λ (e : Entry). e.pick) silent (map (shown s.pick) (take n events) ++ rest)
    ∙ (ap (λ (ps : List Pick). ps ++ picks_of (map (shown s.pick) (take n events) ++ rest)) (picks_silent s.pick (s.count - n))
    ∙ (ap (λ (ps : List Pick). replicate (s.count - n) s.pick ++ ps) (map-append (λ (e : Entry). e.pick) (map (shown s.pick) (take n events)) rest)
    ∙ (ap (λ (ps : List Pick). replicate (s.count - n) s.pick ++ (ps ++ picks_of rest)) (picks_shown s.pick (take n
    events) ∙ ap (λ (k : ℕ). replicate k s.pick) (length-take-le n events h.1))
    ∙ (sym (append_assoc (replicate (s.count - n) s.pick) (replicate n s.pick) (picks_of rest))
    ∙ (ap (λ (ps : List Pick). ps ++ picks_of rest) (replicate_append (s.count - n) n s.pick ∙ ap (λ (k : ℕ). replicate k s.pick) whole)
    ∙ ap (λ (ps : List Pick). replicate s.count s.pick ++ ps) (laid_picks spans (drop n events) h.2))))))
