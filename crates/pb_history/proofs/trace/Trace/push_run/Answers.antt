use Rattle.std.proofs.Common.{◌≡◌, ◌+◌, ◌-◌, ◌<◌, ◌≤◌, ◌∷◌, ◌++◌, [], ℕ, List, true, false, Some, length, refl, sym}
use Rattle.std.proofs.Common.{ap, ◌∙◌, subst, append-nil, arith}
use Rattle.std.specs.Prelude.{Option, option_to_list}
use Rattle.pb_base.specs.declared.event.Event.{Event}
use Rattle.pb_history.specs.Entries.{Entry, added, entries_of, marks, run_of, shown, silent_picks, spans_of}
use Rattle.pb_history.specs.Traces.{AreLaid, trail_of}
use Rattle.pb_history.specs.declared.span.Span.{Span}
use Rattle.pb_history.proofs.SpanEvents.{apart_added, entries_added, events_fit, laid_added, laid_size, length_added}
use Rattle.pb_history.proofs.SpanEvents.{marks_fit}
use Rattle.pb_history.proofs.trace.Trace.push_run.Goals as goal

-- the picks that there are, and those that come
fits_some : (event : Option Event) (e : Event) (n silent : ℕ) → event ≡ Some e → n + silent + length (option_to_list
    event) ≤ 10000000 → n + silent + 1 ≤ 10000000
fits_some event e n silent is fits =
    let one : length (option_to_list event) ≡ 1 = ap (λ (o : Option Event). length (option_to_list o)) is in
    omega (arith, one, fits)

-- what a trace is after one more span
module _ (spans : List Span) (events : List Event) (s : Span) (more : List Event) (after : List Span) (shown_now : List Event)
    (laid : AreLaid spans events) (apart : spans_of (entries_of spans events) ≡ spans) (some : 0 < s.count) (count : length more ≡ marks s.shows)
    (is : after ≡ added spans s) (events_are : shown_now ≡ events ++ more) where
  laid_now : AreLaid after shown_now
  laid_now = subst (λ (ss : List Span). AreLaid ss shown_now) (sym is)
      (subst (AreLaid (added spans s)) (sym events_are) (laid_added spans events s more laid some count))

  entries_now : entries_of after shown_now ≡ entries_of spans events ++ entries_of (s ∷ []) more
  entries_now = ap (λ (ss : List Span). entries_of ss shown_now) is
      ∙ (ap (entries_of (added spans s)) events_are ∙ entries_added spans events s more laid (marks_fit s some))

  apart_now : spans_of (entries_of after shown_now) ≡ after
  apart_now = ap (λ (ss : List Span). spans_of (entries_of ss shown_now)) is
      ∙ (ap (λ (es : List Event). spans_of (entries_of (added spans s) es)) events_are
      ∙ (apart_added spans events s more laid some count apart ∙ sym is))

pub add-requires-clause-fits : goal.add-requires-clause-fits
add-requires-clause-fits c =
    let t = c.self.inside in
    let fits : length (trail_of t).entries + c.args.silent + length (option_to_list c.args.event) ≤ 10000000 = rw (← c.self.view_is) at c.requires.fits in
    let one = fits_some c.args.event c.in-Some.event _ c.args.silent c.in-Some.is fits in
    let size = laid_size t.spans.spans t.events.events c.self.invariant.laid in
    omega (arith, one, size)

pub push-requires-clause-few : goal.push-requires-clause-few
push-requires-clause-few c =
    let t = c.self.inside in
    let fits : length (trail_of t).entries + c.args.silent + length (option_to_list c.args.event) ≤ 10000000 = rw (← c.self.view_is) at c.requires.fits in
    let one = fits_some c.args.event c.in-Some.event _ c.args.silent c.in-Some.is fits in
    let size = laid_size t.spans.spans t.events.events c.self.invariant.laid in
    let few = events_fit t.spans.spans t.events.events c.self.invariant.laid in
    omega (arith, one, size, few)

pub invariant_of-self : goal.invariant_of-self
invariant_of-self c =
    let t = c.self.inside in
    let inv = c.self.invariant in
    let s : Span = record { pick = c.args.pick; count = c.args.silent + 1; shows = true } in
    let some : 0 < c.args.silent + 1 = omega arith in
    let more = c.in-Some.event ∷ [] in record {
      laid = laid_now t.spans.spans t.events.events s more _ _ inv.laid inv.apart some refl c.add.ensures.spans c.push.ensures.events;
      apart = apart_now t.spans.spans t.events.events s more _ _ inv.laid inv.apart some refl c.add.ensures.spans c.push.ensures.events;
    }

pub add-requires-in-None-clause-fits : goal.add-requires-in-None-clause-fits
add-requires-in-None-clause-fits c =
    let t = c.self.inside in
    let fits : length (trail_of t).entries + c.args.silent + length (option_to_list c.args.event) ≤ 10000000 = rw (← c.self.view_is) at c.requires.fits in
    let size = laid_size t.spans.spans t.events.events c.self.invariant.laid in
    omega (arith, fits, size)

pub invariant_of-self-then-silent-gt0 : goal.invariant_of-self-then-silent-gt0
invariant_of-self-then-silent-gt0 c =
    let t = c.self.inside in
    let inv = c.self.invariant in
    let s : Span = record { pick = c.args.pick; count = c.args.silent; shows = false } in
    let some = c.if-silent-gt0.true in
    let same = sym (append-nil t.events.events) in record {
      laid = laid_now t.spans.spans t.events.events s [] _ _ inv.laid inv.apart some refl c.add-in-None.ensures.spans same;
      apart = apart_now t.spans.spans t.events.events s [] _ _ inv.laid inv.apart some refl c.add-in-None.ensures.spans same;
    }

pub returns-in-Some-clause-entries : goal.returns-in-Some-clause-entries
returns-in-Some-clause-entries c =
    let t = c.self.inside in
    let inv = c.self.invariant in
    let s : Span = record { pick = c.args.pick; count = c.args.silent + 1; shows = true } in
    let some : 0 < c.args.silent + 1 = omega arith in
    let e = c.in-Some.event in
    let less : c.args.silent + 1 - 1 ≡ c.args.silent = omega arith in
    let one : entries_of (s ∷ []) (e ∷ []) ≡ run_of c.args.pick c.args.silent c.args.event =
    ap (λ (n : ℕ). silent_picks c.args.pick n ++ shown c.args.pick e ∷ []) less
    ∙ ap (run_of c.args.pick c.args.silent) (sym c.in-Some.is) in
    rw (← c.self.view_is) (entries_now t.spans.spans t.events.events s (e ∷ []) _ _ inv.laid inv.apart some refl c.add.ensures.spans c.push.ensures.events
    ∙ ap (λ (xs : List Entry). entries_of t.spans.spans t.events.events ++ xs) one)

pub returns-in-Some-clause-room : goal.returns-in-Some-clause-room
returns-in-Some-clause-room c =
    let t = c.self.inside in
    let one = length_added t.spans.spans (record { pick = c.args.pick; count = c.args.silent + 1; shows = true }) in
    let length_now = ap (λ (spans : List Span). length spans) c.add.ensures.spans in
    rw (← c.self.view_is) (omega (arith, one, length_now, c.add.ensures.room, c.push.ensures.room))

pub returns-in-None-clause-entries : goal.returns-in-None-clause-entries
returns-in-None-clause-entries c =
    let t = c.self.inside in
    let inv = c.self.invariant in
    let s : Span = record { pick = c.args.pick; count = c.args.silent; shows = false } in
    let some = c.if-silent-gt0.true in
    let less : c.args.silent - 0 ≡ c.args.silent = omega arith in
    let one : entries_of (s ∷ []) [] ≡ run_of c.args.pick c.args.silent c.args.event =
    ap (λ (n : ℕ). silent_picks c.args.pick n ++ []) less
    ∙ ap (run_of c.args.pick c.args.silent) (sym c.in-None.is) in
    rw (← c.self.view_is) (entries_now t.spans.spans t.events.events s [] _ _ inv.laid inv.apart some refl
    c.add-in-None.ensures.spans (sym (append-nil t.events.events))
    ∙ ap (λ (xs : List Entry). entries_of t.spans.spans t.events.events ++ xs) one)

pub returns-in-None-clause-room : goal.returns-in-None-clause-room
returns-in-None-clause-room c =
    let t = c.self.inside in
    let one = length_added t.spans.spans (record { pick = c.args.pick; count = c.args.silent; shows = false }) in
    let length_now = ap (λ (spans : List Span). length spans) c.add-in-None.ensures.spans in
    rw (← c.self.view_is) (omega (arith, one, length_now, c.add-in-None.ensures.room))
