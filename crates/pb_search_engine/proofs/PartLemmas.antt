-- The parts of outcomes and deadlocks, and what is found, one more at a time.
use Rattle.std.proofs.Common.{◌≡◌, ℕ, suc, ◌+◌, ◌<◌, ◌≤◌, List, [], ◌∷◌, ◌++◌, ◌∙◌, append_assoc, length, take}
use Rattle.std.proofs.Common.{get_or, map, sym, ap, subst, arith}
use Rattle.std.specs.Prelude.{slice_index_or}
use Rattle.std.proofs.lemmas.List.{get_or-map, length-map, length-take-le, map-append, take_all, take_more}
use Rattle.pb_accept.proofs.ClaimLemmas.{view_at}
use Rattle.pb_history.specs.declared.counted.CountedPick.{CountedPick}
use Rattle.pb_search.specs.Deadlocks.{FoundDeadlock, deadlock_view}
use Rattle.pb_search.specs.Outcomes.{Found, found_view}
use Rattle.pb_search.specs.declared.found.Deadlock.{Deadlock as GivenDeadlock}
use Rattle.pb_search.specs.declared.found.Found.{Found as GivenFound}
use Rattle.pb_search_engine.specs.Items.{AreDeadlockItems, AreOutcomeItems, Item, deadlock_item, given_item_view, outcome_item}
use Rattle.pb_search_engine.specs.Items.{one_more, one_more_stuck}
use Rattle.pb_search_engine.specs.OutcomeLines.{AreCounted}
use Rattle.pb_search_engine.specs.Parts.{collected}
use Rattle.pb_search_engine.specs.declared.item.Item.{Item as GivenItem}

-- one more number
pub collected_more : {X : Type 0} (said : ℕ → List X) (n : ℕ) (now old so_far new : List X) → said n ≡ now
    → so_far ≡ old ++ collected said n → new ≡ so_far ++ now → new ≡ old ++ collected said (n + 1)
collected_more {X} said n now old so_far new is before added =
    let next : n + 1 ≡ suc n = omega arith in
    added ∙ (ap (λ (t : List X). t ++ now) before
    ∙ (append_assoc old (collected said n) now
    ∙ (ap (λ (t : List X). old ++ (collected said n ++ t)) (sym is)
    ∙ ap (λ (k : ℕ). old ++ collected said k) (sym next))))

-- what is said of one element more, which is read, seen as data
pub viewed_more : {A B X : Type 0} (view : A → B) (xs : List A) (d : B) (said : ℕ → B → List X) (p : ℕ) (x : A) (old so_far new : List X)
    → p < length xs → x ≡ get_or xs p x → so_far ≡ old ++ collected (λ k. said k (slice_index_or (map view xs) k d)) p
    → new ≡ so_far ++ said p (view x) → new ≡ old ++ collected (λ k. said k (slice_index_or (map view xs) k d)) (p + 1)
viewed_more view xs d said p x old so_far new within at before added =
    collected_more (λ k. said k (slice_index_or (map view xs) k d)) p (said p (view x)) old so_far new
    (ap (said p) (get_or-map view xs p x d within ∙ ap view (sym at))) before added

-- so of all elements
pub viewed_all : {A B X : Type 0} (view : A → B) (xs : List A) (said : ℕ → List X) (p : ℕ) (old new : List X) → p ≡ length xs
    → new ≡ old ++ collected said p → new ≡ old ++ collected said (length (map view xs))
viewed_all {X = X} view xs said p old new all is =
    is ∙ ap (λ (k : ℕ). old ++ collected said k) (all ∙ sym (length-map xs view))

-- ---- what is found

-- one item more, whose view is known
pub pushed : (items : List GivenItem) (item : GivenItem) (old more : List Item) (is : Item) → map given_item_view items ≡ old ++ more
    → given_item_view item ≡ is → map given_item_view (items ++ item ∷ []) ≡ old ++ (more ++ is ∷ [])
pushed items item old more is before same =
    map-append given_item_view items (item ∷ [])
    ∙ (ap (λ (l : List Item). l ++ given_item_view item ∷ []) before
    ∙ (append_assoc old more (given_item_view item ∷ []) ∙ ap (λ (i : Item). old ++ (more ++ i ∷ [])) same))

-- one outcome more
pub outcome_more : (found : List GivenFound) (i : ℕ) (f : GivenFound) (picks : List CountedPick) (so_far : List Item) → i < length found
    → f ≡ get_or found i f → AreOutcomeItems (take i (map found_view found)) so_far → AreCounted (found_view f).picks picks
    → AreOutcomeItems (take (i + 1) (map found_view found)) (so_far ++ outcome_item (i + 1) (found_view f).outcome picks ∷ [])
outcome_more found i f picks so_far within at before counted =
    let views = map found_view found in
    let all : length views ≡ length found = length-map found found_view in
    let inside : i < length views = omega (arith, all, within) in
    let many : length (take i views) ≡ i = length-take-le i views (omega (arith, inside)) in
    let list : take i views ++ found_view f ∷ [] ≡ take (i + 1) views =
    ap (λ g. take i views ++ g ∷ []) (sym (view_at found_view found i f within at)) ∙ sym (take_more views i (found_view f) inside) in
    subst (λ (l : List Found). AreOutcomeItems l (so_far ++ outcome_item (i + 1) (found_view f).outcome picks ∷ [])) list
    (subst (λ (n : ℕ). AreOutcomeItems (take i views ++ found_view f ∷ []) (so_far ++ outcome_item (n + 1) (found_view f).outcome picks ∷ [])) many
    (one_more (take i views) so_far (found_view f) picks before counted))

pub all_outcomes : (found : List GivenFound) (i : ℕ) (items : List Item) → length found ≤ i
    → AreOutcomeItems (take i (map found_view found)) items → AreOutcomeItems (map found_view found) items
all_outcomes found i items end are =
    let all : length (map found_view found) ≡ length found = length-map found found_view in
    subst (λ (l : List Found). AreOutcomeItems l items) (take_all i (map found_view found) (omega (arith, all, end))) are

-- one deadlock more
pub deadlock_more : (found : List GivenDeadlock) (i : ℕ) (d : GivenDeadlock) (picks : List CountedPick) (so_far : List Item) → i < length found
    → d ≡ get_or found i d → AreDeadlockItems (take i (map deadlock_view found)) so_far → AreCounted (deadlock_view d).picks picks
    → AreDeadlockItems (take (i + 1) (map deadlock_view found)) (so_far ++ deadlock_item (i + 1) (deadlock_view d) picks ∷ [])
deadlock_more found i d picks so_far within at before counted =
    let views = map deadlock_view found in
    let all : length views ≡ length found = length-map found deadlock_view in
    let inside : i < length views = omega (arith, all, within) in
    let many : length (take i views) ≡ i = length-take-le i views (omega (arith, inside)) in
    let list : take i views ++ deadlock_view d ∷ [] ≡ take (i + 1) views =
    ap (λ g. take i views ++ g ∷ []) (sym (view_at deadlock_view found i d within at)) ∙ sym (take_more views i (deadlock_view d) inside) in
    subst (λ (l : List FoundDeadlock). AreDeadlockItems l (so_far ++ deadlock_item (i + 1) (deadlock_view d) picks ∷ [])) list
    (subst (λ (n : ℕ). AreDeadlockItems (take i views ++ deadlock_view d ∷ []) (so_far ++ deadlock_item (n + 1) (deadlock_view d) picks ∷ [])) many
    (one_more_stuck (take i views) so_far (deadlock_view d) picks before counted))

pub all_deadlocks : (found : List GivenDeadlock) (i : ℕ) (items : List Item) → length found ≤ i
    → AreDeadlockItems (take i (map deadlock_view found)) items → AreDeadlockItems (map deadlock_view found) items
all_deadlocks found i items end are =
    let all : length (map deadlock_view found) ≡ length found = length-map found deadlock_view in
    subst (λ (l : List FoundDeadlock). AreDeadlockItems l items) (take_all i (map deadlock_view found) (omega (arith, all, end))) are
