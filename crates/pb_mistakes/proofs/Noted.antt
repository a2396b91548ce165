-- Wordings with one more note.
use Rattle.std.proofs.Common.{◌≡◌, ◌∙◌, ℕ, List, [], ◌∷◌, ◌++◌, IfOk, IsTrue, MatchResult, Result, Ok, Err, false, subst, sym}
use Rattle.std.specs.List.{Contains}
use Rattle.std.proofs.lemmas.List.Elements.{Contains-append_left, Contains-push}
use Rattle.pb_mistakes.specs.Wordings.{AddsNote, Keeps, notes_of}
use Rattle.pb_mistakes.specs.declared.wording.Wording.{Wording}

-- a note that was added is there
pub note_there : (old new : Wording) (note : List ℕ) → AddsNote old note new → IsTrue new.is_whole → Contains (notes_of new) note
note_there old new note added whole =
    subst (λ (notes : List (List ℕ)). Contains notes note) (sym (added whole).2) (Contains-push (notes_of old) note)

-- and what was there before is
pub keeps_noted : (old new : Wording) (note : List ℕ) → AddsNote old note new → Keeps old new
keeps_noted old new note added = λ whole. let is = added whole in (
  is.0,
  is.1,
  is.3,
  λ other there. subst (λ (notes : List (List ℕ)). Contains notes other) (sym is.2)
      (Contains-append_left (notes_of old) (note ∷ []) other there),
)

-- one wording keeps what an earlier one keeps
pub keeps_both : (first second third : Wording) → Keeps first second → Keeps second third → Keeps first third
keeps_both first second third one two = λ whole. let is = two whole in let was = one is.0 in (
  was.0,
  is.1 ∙ was.1,
  is.2 ∙ was.2,
  λ note there. is.3 note (was.3 note there),
)

module _ {W E : Type 0} (seen : W → List ℕ) where
  -- a note that may have had no memory, in other words
  pub noted_as : (made : Result W E) (old new : Wording) (note : List ℕ)
      → MatchResult made (λ words. AddsNote old (seen words) new) (λ _. new.is_whole ≡ false)
      → IfOk made (λ words. seen words ≡ note) → AddsNote old note new
  noted_as (Ok words) old new note added is = subst (λ (n : List ℕ). AddsNote old n new) is added
  noted_as (Err e) old new note none is = λ whole. absurd cc

  -- a note that may have had no memory, whichever it is
  pub keeps_made : (made : Result W E) (old new : Wording)
      → MatchResult made (λ words. AddsNote old (seen words) new) (λ _. new.is_whole ≡ false) → Keeps old new
  keeps_made (Ok words) old new added = keeps_noted old new (seen words) added
  keeps_made (Err e) old new none = λ whole. absurd cc
