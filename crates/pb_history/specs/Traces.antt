-- Traces: entries that are kept as spans and events.
use Rattle.std.specs.Prelude.{◌≡◌, ℕ, ◌<◌, ◌≤◌, List, [], ◌∷◌, ◌++◌, drop, false, length, min}
use Rattle.pb_base.specs.declared.event.Event.{Event}
use Rattle.pb_base.specs.declared.pick.Pick.{Pick}
use Rattle.pb_history.specs.Entries.{Entry, added, entries_of, marks, silent_picks, spans_of}
use Rattle.pb_history.specs.declared.span.Span.{Span}
use Rattle.pb_history.specs.declared.trace.Trace.TheInside.{Inside}

-- what contracts see of a trace: its entries, and how many more calls that add there is room for
pub record Trail : Type 0 where
  pub entries : List Entry
  pub room : ℕ

-- each span has a pick, and the spans that show have these events
abbrev pub AreLaid : List Span → List Event → Type 0
AreLaid [] events = events ≡ []
AreLaid (s ∷ spans) events =
    (0 < s.count) × (marks s.shows ≤ length events) × AreLaid spans (drop (marks s.shows) events)

-- what a contract sees of spans and events in memory
abbrev pub trail_of : Inside → Trail
trail_of t = record { entries = entries_of t.spans.spans t.events.events; room = min t.spans.room t.events.room }

-- the spans have these events, and no two of them could be one
pub record IsTrace (t : Inside) : Type 0 where
  pub laid : AreLaid t.spans.spans t.events.events
  pub apart : spans_of (entries_of t.spans.spans t.events.events) ≡ t.spans.spans

-- ---- a law

-- picks of one arm that show nothing make one span more, or none if the last span is of that arm and shows
-- nothing
abbrev pub SilentPicksAddOneSpan : Type 0
SilentPicksAddOneSpan =
    (entries : List Entry) (pick : Pick) (count : ℕ) → 0 < count
    → spans_of (entries ++ silent_picks pick count) ≡ added (spans_of entries) (record { pick = pick; count = count; shows = false })
