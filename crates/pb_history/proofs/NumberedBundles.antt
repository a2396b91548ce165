-- Events that name their bundles by number.
use Rattle.std.proofs.Common.{◌≡◌, ℕ, zero, suc, ◌<◌, ◌∷◌, ◌++◌, List, [], length, map, refl, ap, ◌∙◌, arith}
use Rattle.std.specs.Prelude.{All, slice_index_or}
use Rattle.std.proofs.lemmas.List.Elements.{All-head, All-tail}
use Rattle.pb_base.specs.declared.event.Event.{Event}
use Rattle.pb_base.specs.declared.event.Event.TheVariants as event
use Rattle.pb_base.specs.declared.pair.Pair.{Pair}
use Rattle.pb_history.specs.declared.events.KeptEvent.{KeptEvent}
use Rattle.pb_history.specs.declared.events.KeptEvent.TheVariants.{Granted, Returned, Printed, Faulted, Finished}
use Rattle.pb_history.specs.Kept.{HasBundle, whole}

early : {X : Type 0} (xs ys : List X) (i : ℕ) (d : X) → i < length xs → slice_index_or (xs ++ ys) i d ≡ slice_index_or xs i d
early [] ys i d lt = absurd (omega arith)
early (x ∷ xs) ys zero d lt = refl
early (x ∷ xs) ys (suc i) d lt = early xs ys i d (omega arith)

-- the bundle after the others
pub last_bundle : (bundles : List (List Pair)) (b : List Pair) → slice_index_or (bundles ++ b ∷ []) (length bundles) [] ≡ b
last_bundle [] b = refl
last_bundle (x ∷ bundles) b = last_bundle bundles b

-- more bundles leave an event as it is
whole_kept : (bundles more : List (List Pair)) (e : KeptEvent) → HasBundle (length bundles) e → whole (bundles ++ more) e ≡ whole bundles e
whole_kept bundles more (Granted pick bundle) h = ap (event.Granted pick) (early bundles more bundle [] h)
whole_kept bundles more (Returned pick bundle) h = ap (event.Returned pick) (early bundles more bundle [] h)
whole_kept bundles more (Printed pick value) h = refl
whole_kept bundles more (Faulted pick kind) h = refl
whole_kept bundles more (Finished process) h = refl

pub wholes_kept : (bundles more : List (List Pair)) (events : List KeptEvent) → All (HasBundle (length bundles)) events
    → map (whole (bundles ++ more)) events ≡ map (whole bundles) events
wholes_kept bundles more [] h = refl
wholes_kept bundles more (e ∷ events) h =
    let one = whole_kept bundles more e (All-head (HasBundle (length bundles)) e events h) in
    let others = wholes_kept bundles more events (All-tail (HasBundle (length bundles)) e events h) in
    ap (λ (x : Event). x ∷ map (whole (bundles ++ more)) events) one ∙ ap (λ xs. whole bundles e ∷ xs) others
