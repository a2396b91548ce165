-- What is said of an arm's next pick comes about when it is made.
use Rattle.std.proofs.Common.{◌≡◌, ℤ, pos, List, [], ◌∷◌, ◌++◌, codes, set, get_or, Option, Some, None, option_and_then, refl, sym, ap, ◌∙◌}
use Rattle.std.specs.Fmt.{signed_decimal}
use Rattle.std.specs.Prelude.{slice_index_or}
use Rattle.std.proofs.lemmas.List.{get_or-set_same}
use Rattle.pb_base.specs.Lines.{name_of}
use Rattle.pb_base.specs.Steppers.{Effect, Prints, Silent}
use Rattle.pb_code.specs.Code.{CodeProcess, PrintTop, Store, act, apply_step}
use Rattle.pb_debug_texts.specs.Does.{AssignmentsComeAbout, PrintsComeAbout, assigned_words, assigns_text, printed_words}
use Rattle.pb_machine.proofs.InstructionSteps.{stands_step}

-- the integers after a step, and what it shows
abbrev made_vars : Option (CodeProcess × Effect) → List ℤ
made_vars None = []
made_vars (Some made) = made.0.vars

abbrev made_effect : Option (CodeProcess × Effect) → Effect
made_effect None = Silent
made_effect (Some made) = made.1

pub assignments_come_about : AssignmentsComeAbout
assignments_come_about labels code process next effect a place x stack live there within steps =
    go stack (sym (stands_step code process a (Store x) (record { place = place; stack = stack; live = live; there = there })) ∙ steps)
  where
    go : (stack : List ℤ) → option_and_then (apply_step code process a) (act process.vars (Store x) place stack) ≡ Some (next, effect)
        → assigned_words labels process x stack
        ≡ assigns_text (name_of labels.integers x) (slice_index_or next.vars x (pos 0)) (slice_index_or process.vars x (pos 0))
    go [] h = cc
    go (v ∷ rest) h =
        let vars : set process.vars x v ≡ next.vars = ap made_vars h in
        let value : v ≡ slice_index_or next.vars x (pos 0) =
        sym (get_or-set_same process.vars x v (pos 0) within) ∙ ap (λ (vs : List ℤ). get_or vs x (pos 0)) vars in
        ap (λ (u : ℤ). assigns_text (name_of labels.integers x) u (slice_index_or process.vars x (pos 0))) value

pub prints_come_about : PrintsComeAbout
prints_come_about code process next effect a place stack live there steps =
    go stack (sym (stands_step code process a PrintTop (record { place = place; stack = stack; live = live; there = there })) ∙ steps)
  where
    go : (stack : List ℤ) → option_and_then (apply_step code process a) (act process.vars PrintTop place stack) ≡ Some (next, effect)
        → (v : ℤ) × (printed_words stack ≡ codes "prints " ++ signed_decimal v) × (effect ≡ Prints v)
    go [] h = cc
    go (v ∷ rest) h = (v, refl, sym (ap made_effect h))
