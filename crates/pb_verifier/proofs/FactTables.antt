-- Tables in which whatever was known still means what it meant.
use Rattle.std.proofs.Common.{◌≡◌, ℕ, List, Option, Some, sym, ap, ◌∙◌}
use Rattle.std.specs.Prelude.{option_map}
use Rattle.pb_verifier.specs.Spread.{notes_of, AgreesAt, IsKept}
use Rattle.pb_verifier.proofs.EndTables.{fact_of}

module _ {F M : Type 0} (value : List (Option F) → F → M) (IsReadable : List (Option F) → F → Type 0) where
  pub kept_twice : (table later last : List (Option F)) → IsKept value IsReadable table later
      → IsKept value IsReadable later last → IsKept value IsReadable table last
  kept_twice table later last one two = record {
    sized = two.sized ∙ one.sized;
    readable = two.readable;
    facts = λ f r. let x = one.facts f r in let y = two.facts f x.0 in (y.0, y.1 ∙ x.1);
    notes = λ p. two.notes p ∙ one.notes p;
  }

  -- what is known at a place still agrees
  pub kept_agrees : (table later : List (Option F)) (fact : F) (p : ℕ) → IsKept value IsReadable table later
      → IsReadable table fact → AgreesAt (value table) table fact p → AgreesAt (value later) later fact p
  kept_agrees table later fact p kept readable agrees found e =
      let noted : notes_of (value table) table p ≡ Some (value later found) =
      sym (kept.notes p) ∙ ap (option_map (value later)) e
      in
      let was = fact_of (value table) table p (value later found) noted in
      sym was.2 ∙ agrees was.0 was.1 ∙ sym (kept.facts fact readable).1
