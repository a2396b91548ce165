-- Spans by where each ends. No public contract cites this file.
use Rattle.std.specs.Prelude.{◌≡◌, ℕ, ◌-◌, ◌<◌, List, [], ◌∷◌, Bool, false, not, ◌&&◌, vec_len, vec_capacity}
use Rattle.pb_base.specs.declared.pick.Pick.{Pick}
use Rattle.pb_history.specs.Entries.{are_same}
use Rattle.pb_history.specs.declared.span.Span.{Span}
use Rattle.pb_history.specs.declared.spans.SpanEnd.{SpanEnd}
use Rattle.pb_history.specs.declared.spans.Spans.TheInside.{Inside}

-- spans, and how many more there is room for
pub record SpanRow : Type 0 where
  pub spans : List Span
  pub room : ℕ

-- the spans that these ends make, the first of which begins after `start` picks
abbrev pub spans_from : ℕ → List SpanEnd → List Span
spans_from start [] = []
spans_from start (e ∷ ends) =
    record { pick = e.pick; count = e.end - start; shows = e.shows } ∷ spans_from e.end ends

-- each span ends after the one before it, and the last with this pick
abbrev pub Rise : ℕ → List SpanEnd → ℕ → Type 0
Rise start [] len = len ≡ start
Rise start (e ∷ ends) len = (start < e.end) × Rise e.end ends len

-- picks of this arm belong to the last span
abbrev pub goes_on : List SpanEnd → Pick → Bool
goes_on [] pick = false
goes_on (e ∷ []) pick = not e.shows && are_same e.pick pick
goes_on (e ∷ (d ∷ ends)) pick = goes_on (d ∷ ends) pick

-- the spans in memory, and their room
abbrev pub span_row : Inside → SpanRow
span_row s = record { spans = spans_from 0 s.ends.items; room = vec_capacity s.ends - vec_len s.ends }

-- the ends rise up to the number of picks
abbrev pub AreRising : Inside → Type 0
AreRising s = Rise 0 s.ends.items s.len
