-- Notes that a wording keeps.
use Rattle.std.proofs.Common.{◌≡◌, ◌∙◌, ℕ, Bool, true, List, [], ◌∷◌, ◌++◌, IsTrue, codes, map, refl, sym, subst}
use Rattle.std.specs.Prelude.{Contains, if◌then◌else◌}
use Rattle.std.specs.List.{insert}
use Rattle.std.proofs.lemmas.List.Elements.{Contains-append_right}
use Rattle.pb_message_stops.proofs.Hints.{some_too}
use Rattle.pb_message_stops.specs.Ends.{ends_hint, ends_of}
use Rattle.pb_message_stops.specs.Told.{TellsBadLine}
use Rattle.pb_message_stops.specs.declared.ends.Form.TheVariants.{Prints}
use Rattle.pb_mistakes.specs.Wordings.{notes_of}
use Rattle.pb_mistakes.specs.declared.wording.Wording.{Wording}
use Rattle.pb_search_tool.specs.Messages.{KeepsNotes}

-- what is seen of a list is seen of it with one more element before all others
pub kept_after : {A : Type 0} (view : A → List ℕ) (items more : List A) (made : Bool) (first : A) → made ≡ true
    → more ≡ (if made then insert items 0 first else items)
    → (seen : List ℕ) → Contains (map view items) seen → Contains (map view more) seen
kept_after {A = A} view items more made first is e seen there =
    let here : more ≡ first ∷ items = e ∙ subst (λ (b : Bool). (if b then insert items 0 first else items) ≡ first ∷ items) (sym is) refl in
    subst (λ (l : List A). Contains (map view l) seen) (sym here) (Contains-append_right (view first ∷ []) (map view items) seen there)

-- a wording with the notes of an earlier one tells of a bad line what that one tells
pub line_kept : (before : ℕ) (lines : List ℕ) (at : ℕ) (old new : Wording) → KeepsNotes old new
    → (IsTrue old.is_whole → TellsBadLine Prints before lines at old) → IsTrue new.is_whole → TellsBadLine Prints before lines at new
line_kept before lines at old new keeps tells whole =
    let kept = keeps whole in
    let told = tells kept.0 in
    record {
      line = told.line;
      after = told.after;
      first = told.first;
      ends = some_too (λ ends. Contains (notes_of old) (codes "hint: " ++ ends_hint Prints ends))
          (λ ends. Contains (notes_of new) (codes "hint: " ++ ends_hint Prints ends)) (ends_of told.line) (λ ends there. kept.1 _ there) told.ends;
      there = kept.1 _ told.there;
    }
