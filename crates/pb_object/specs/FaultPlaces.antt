-- The offset of the first faulty line of a text, and whether its numbers are its fault, by the grammar of objects
-- alone.
use Rattle.std.specs.Prelude.{◌≡◌, ◌⊎◌, ◌<◌, ◌≤◌, ◌==◌, ℕ, Bool, true, not, List, [], ◌∷◌, ◌++◌, length, ⊤}
use Rattle.std.specs.List.{list_all, slice_split}
use Rattle.pb_base.specs.declared.limits.TheConstants.{MAX_INPUT}
use Rattle.pb_object.specs.declared.fault.ObjectFault.{ObjectFault}
use Rattle.pb_object.specs.declared.fault.ObjectFault.TheVariants.{NotObject, Limit, NoMemory}
use Rattle.pb_object.specs.Answers.{is_two}
use Rattle.pb_object.specs.Lines.{line_by}
use Rattle.pb_object.specs.Objects.{Object, object_spelling}
use Rattle.pb_object.specs.Ranges.{IsObject}
use Rattle.pb_object.specs.Reading.{heading}
use Rattle.pb_object.specs.Renumbered.{IsOfForm}
use Rattle.pb_code.specs.Names.{Word}

-- the spelling of some object, of whatever size, begins with this text
abbrev pub BeginsObject : List ℕ → Type 0
BeginsObject text = (o : Object) × (more : List ℕ) × IsObject o × (text ++ more ≡ object_spelling o)

-- nothing, or lines that are all ended
abbrev pub AreLines : List ℕ → Type 0
AreLines text = (text ≡ []) ⊎ ((before : List ℕ) × (text ≡ before ++ 10 ∷ []))

-- A text is some lines and a rest, which begins at this offset. The lines begin some object; no object begins
-- with them and a line of the rest; and if the rest has no complete line, the text is not an object.
pub record IsFaultPlace (text : List ℕ) (at : ℕ) : Type 0 where
  pub lines : List ℕ
  pub rest : List ℕ
  pub parts : text ≡ lines ++ rest
  pub place : at ≡ length lines
  pub ended : AreLines lines
  pub begun : BeginsObject lines
  pub stuck : (line tail : List ℕ) → rest ≡ line ++ 10 ∷ tail → ¬ BeginsObject (lines ++ (line ++ 10 ∷ []))
  pub no_object : (o : Object) → IsObject o → text ≡ object_spelling o → ⊥

-- no line ends within these bytes
abbrev pub is_one_line : List ℕ → Bool
is_one_line line = list_all (λ b. not (b == 10)) line

-- the words of a line, which single spaces part
abbrev pub words_of : List ℕ → List Word
words_of line = slice_split (λ b. b == 32) line

-- The line at this offset would go on an object if its numbers were others: the lines before it and another line
-- of the same form begin one.
pub record IsOutOfRange (text : List ℕ) (at : ℕ) : Type 0 where
  pub lines : List ℕ
  pub line : List ℕ
  pub tail : List ℕ
  pub parts : text ≡ lines ++ (line ++ 10 ∷ tail)
  pub place : at ≡ length lines
  pub one : is_one_line line ≡ true
  pub other : List ℕ
  pub one_other : is_one_line other ≡ true
  pub of_form : IsOfForm (words_of other) (words_of line)
  pub begun : BeginsObject (lines ++ (other ++ 10 ∷ []))

-- What a refusal says of a text: a fault of form or of range is at such an offset, and it is of range exactly if the
-- line there would go on an object with other numbers. Of a text of more than 4,194,304 bytes it says 0.
abbrev pub IsPlaced : List ℕ → ObjectFault → Type 0
IsPlaced text (NotObject at) = (length text ≤ MAX_INPUT) × IsFaultPlace text at × (IsOutOfRange text at → ⊥)
IsPlaced text (Limit at) =
    ((MAX_INPUT < length text) × (at ≡ 0)) ⊎ ((length text ≤ MAX_INPUT) × IsFaultPlace text at × IsOutOfRange text at)
IsPlaced text NoMemory = ⊤

-- and of a text that is to be of the first format: if its first line names the second, that line is the
-- faulty one
abbrev pub IsPlacedOne : List ℕ → ObjectFault → Type 0
IsPlacedOne text fault = ((is_two (line_by heading text) ≡ true) × (fault ≡ NotObject 0)) ⊎ IsPlaced text fault
