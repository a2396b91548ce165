use Rattle.std.proofs.Common.{◌≡◌, ◌∷◌, ◌++◌, [], ℕ, List, length, map, sym, ap, ◌∙◌, rules, SFits, w64}
use Rattle.std.specs.Prelude.{slice_index_or}
use Rattle.std.proofs.lemmas.List.{map-append}
use Rattle.std.proofs.lemmas.Int.{to_z-of_z}
use Rattle.pb_base.specs.declared.event.Event.{Event}
use Rattle.pb_base.specs.declared.event.Event.TheVariants as event
use Rattle.pb_base.specs.declared.pair.Pair.{Pair}
use Rattle.pb_history.specs.Kept.{whole}
use Rattle.pb_history.specs.declared.events.KeptEvent.{KeptEvent}
use Rattle.pb_history.specs.declared.events.KeptEvent.TheVariants.{Printed}
use Rattle.pb_history.specs.declared.events.Events.TheInside.{Inside}
use Rattle.pb_history.proofs.NumberedBundles.{last_bundle, wholes_kept}
use Rattle.pb_history.proofs.events.Events.push.Goals as goal
use Rattle.pb_history.proofs.events.Events.push.Goals.{in-Granted, in-Returned, in-Printed, in-Faulted, in-Finished}

-- the events with one more
wholes_more : (bundles after : List (List Pair)) (events : List KeptEvent) (kept : KeptEvent) (e : Event)
    → map (whole after) events ≡ map (whole bundles) events → whole after kept ≡ e
    → map (whole after) (events ++ kept ∷ []) ≡ map (whole bundles) events ++ e ∷ []
wholes_more bundles after events kept e same new =
    map-append (whole after) events (kept ∷ [])
    ∙ (ap (λ (xs : List Event). xs ++ whole after kept ∷ []) same ∙ ap (λ (x : Event). map (whole bundles) events ++ x ∷ []) new)

-- the bundle that was put after the others is the one that the event names
named : (after bundles : List (List Pair)) (b : List Pair) (next : ℕ) → after ≡ bundles ++ b ∷ [] → next ≡ length bundles → slice_index_or after next [] ≡ b
named after bundles b next is number =
    ap (λ (bs : List (List Pair)). slice_index_or bs next []) is
    ∙ (ap (λ (n : ℕ). slice_index_or (bundles ++ b ∷ []) n []) number ∙ last_bundle bundles b)

pub returns-clause-events : goal.returns-clause-events
returns-clause-events c =
    let t = c.self.inside in
    let bundles = t.bundles.items in
    let events = t.events.items in
    let m = c.match-event in
    let after = m.self-inside.bundles.items in
    let next : c.len-next.result ≡ length bundles = c.len-next.ensures ∙ t.bundles.ok.0 in
    let put : (b : List Pair) → after ≡ bundles ++ b ∷ [] → map (whole after) events ≡ map (whole bundles) events =
    λ b is. ap (λ (bs : List (List Pair)). map (whole bs) events) is ∙ wholes_kept bundles (b ∷ []) events c.self.invariant.named in
    let left : after ≡ bundles → map (whole after) events ≡ map (whole bundles) events =
    λ is. ap (λ (bs : List (List Pair)). map (whole bs) events) is in
    let bundles_of : Inside → List (List Pair) = λ i. i.bundles.items in
    let old : (map (whole after) events ≡ map (whole bundles) events) × (whole after m.kept ≡ c.args.event) = elim m.branch [
      | in-Granted w ↦
          let is = ap bundles_of w.self-inside-is ∙ w.push_reserved.ensures.items in (
            put _ is,
            ap (whole after) w.kept-is ∙ (ap (event.Granted w.in-Granted.pick) (named after bundles _
                c.len-next.result is next) ∙ sym w.in-Granted.is),
          )
      | in-Returned w ↦
          let is = ap bundles_of w.self-inside-is ∙ w.push_reserved-in-Returned.ensures.items in (
            put _ is,
            ap (whole after) w.kept-is ∙ (ap (event.Returned w.in-Returned.pick) (named after bundles _
                c.len-next.result is next) ∙ sym w.in-Returned.is),
          )
      | in-Printed w ↦
          let fits : SFits w64 w.in-Printed.value = search rules in
          let kept : m.kept ≡ Printed w.in-Printed.pick w.in-Printed.value = simp to_z-of_z at w.kept-is in
          (left (ap bundles_of w.self-inside-is), ap (whole after) kept ∙ sym w.in-Printed.is)
      | in-Faulted w ↦ (left (ap bundles_of w.self-inside-is), ap (whole after) w.kept-is ∙ sym w.in-Faulted.is)
      | in-Finished w ↦ (left (ap bundles_of w.self-inside-is), ap (whole after) w.kept-is ∙ sym w.in-Finished.is)
    ] in
    let events_at : Inside → List KeptEvent = λ i. i.events.items in
    let same_events : m.self-inside.events.items ≡ events = elim m.branch [
      | in-Granted w ↦ ap events_at w.self-inside-is
      | in-Returned w ↦ ap events_at w.self-inside-is
      | in-Printed w ↦ ap events_at w.self-inside-is
      | in-Faulted w ↦ ap events_at w.self-inside-is
      | in-Finished w ↦ ap events_at w.self-inside-is
    ] in
    let items : c.push_reserved-2.new.self.items ≡ events ++ m.kept ∷ [] =
    c.push_reserved-2.ensures.items ∙ ap (λ (xs : List KeptEvent). xs ++ m.kept ∷ []) same_events in
    rw (← c.self.view_is) (ap (map (whole after)) items ∙ wholes_more bundles after events m.kept c.args.event old.0 old.1)
