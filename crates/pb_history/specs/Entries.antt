-- Entries, the picks of a run each with what it shows, and the spans that they fall into.
use Rattle.std.specs.Prelude.{◌≡◌, ℕ, ◌+◌, ◌-◌, ◌≤◌, ◌==◌, List, [], ◌∷◌, ◌++◌, map, take, drop, replicate, Bool}
use Rattle.std.specs.Prelude.{true, false, cond, not, ◌&&◌, Option, Some, None, option_to_list, slice_get}
use Rattle.pb_base.specs.declared.event.Event.{Event}
use Rattle.pb_base.specs.declared.pick.Pick.{Pick}
use Rattle.pb_history.specs.declared.counted.CountedPick.{CountedPick}
use Rattle.pb_history.specs.declared.span.Span.{Span}

-- a pick, and the event that it shows, if it shows one
pub record Entry : Type 0 where
  pub pick : Pick
  pub event : Option Event

-- the picks alone
abbrev pub picks_of : List Entry → List Pick
picks_of entries = map (λ e. e.pick) entries

-- the events alone
abbrev pub events_of : List Entry → List Event
events_of [] = []
events_of (e ∷ entries) = option_to_list e.event ++ events_of entries

-- a pick that shows nothing
abbrev pub silent : Pick → Entry
silent pick = record { pick = pick; event = None }

-- a pick that shows this event
abbrev pub shown : Pick → Event → Entry
shown pick event = record { pick = pick; event = Some event }

-- `count` picks of one arm that show nothing
abbrev pub silent_picks : Pick → ℕ → List Entry
silent_picks pick count = replicate count (silent pick)

-- `count` picks of one arm that show nothing, and one that shows this event, if there is one
abbrev pub run_of : Pick → ℕ → Option Event → List Entry
run_of pick count event = silent_picks pick count ++ map (shown pick) (option_to_list event)

-- both picks are of one arm of one process
abbrev pub are_same : Pick → Pick → Bool
are_same a b = (a.process == b.process) && (a.arm == b.arm)

-- whether there is an event
abbrev pub is_shown : Option Event → Bool
is_shown None = false
is_shown (Some event) = true

-- ---- spans

-- one entry before these spans: it joins the first if it shows nothing and is of the same arm
abbrev pub before : Entry → List Span → List Span
before e [] = record { pick = e.pick; count = 1; shows = is_shown e.event } ∷ []
before e (s ∷ spans) =
    cond (not (is_shown e.event) && are_same e.pick s.pick)
    (record s { count = s.count + 1 } ∷ spans)
    (record { pick = e.pick; count = 1; shows = is_shown e.event } ∷ (s ∷ spans))

-- the spans that entries fall into, as few as can be
abbrev pub spans_of : List Entry → List Span
spans_of [] = []
spans_of (e ∷ entries) = before e (spans_of entries)

-- one more span: the last takes it in if it shows nothing and is of the same arm
abbrev pub added : List Span → Span → List Span
added [] s = s ∷ []
added (t ∷ []) s =
    cond (not t.shows && are_same t.pick s.pick)
    (record s { count = t.count + s.count } ∷ [])
    (t ∷ (s ∷ []))
added (t ∷ (u ∷ spans)) s = t ∷ added (u ∷ spans) s

-- how many picks spans have
abbrev pub size : List Span → ℕ
size [] = 0
size (s ∷ spans) = s.count + size spans

-- the pick with number i, counted from 0, is of the span with number k; this is what that span has from there
-- on
pub record IsRest (spans : List Span) (i : ℕ) (rest : CountedPick) : Type 0 where
  pub k : ℕ
  pub span : Span
  pub there : slice_get spans k ≡ Some span
  pub pick : rest.pick ≡ span.pick
  pub before : size (take k spans) ≤ i
  pub left : i + rest.count ≡ size (take k spans) + span.count

-- the picks of spans
abbrev pub all_picks : List Span → List Pick
all_picks [] = []
all_picks (s ∷ spans) = replicate s.count s.pick ++ all_picks spans

-- how many events a span has
abbrev pub marks : Bool → ℕ
marks true = 1
marks false = 0

-- the entries of spans whose events are these
abbrev pub entries_of : List Span → List Event → List Entry
entries_of [] events = []
entries_of (s ∷ spans) events =
    silent_picks s.pick (s.count - marks s.shows)
    ++ (map (shown s.pick) (take (marks s.shows) events) ++ entries_of spans (drop (marks s.shows) events))
