-- A line, and what follows it.
use Rattle.std.specs.Prelude.{◌≡◌, ℕ, zero, suc, ◌==◌, List, [], ◌∷◌, ◌++◌, length, take, drop, Option, Some, None}
use Rattle.std.specs.Prelude.{Result, Ok, Err}
use Rattle.std.specs.List.{slice_split, join_with_byte, position}
use Rattle.pb_object.specs.declared.words.Verdict.{Verdict}
use Rattle.pb_object.specs.declared.words.Verdict.TheVariants as verdict
use Rattle.pb_object.specs.declared.fault.Fault.{Fault}
use Rattle.pb_object.specs.declared.fault.Fault.TheVariants.{Malformed, Beyond}
use Rattle.pb_object.specs.declared.fault.ReadError.{ReadError}
use Rattle.pb_object.specs.declared.fault.ReadError.TheVariants as errors
use Rattle.pb_code.specs.Names.{Word}

-- the words with single spaces between them, and a line end
abbrev pub line_text : List Word → List ℕ
line_text words = join_with_byte 32 words ++ 10 ∷ []

-- goes on with what was read; a fault stays
infixl 10 ◌>>=◌
abbrev pub ◌>>=◌ : {A B : Type 0} → Result A Fault → (A → Result B Fault) → Result B Fault
(Ok x) >>= f = f x
(Err e) >>= f = Err e

-- What a function returned, seen by view, is what reading gives, unless out of memory.
abbrev pub Fails : {Y : Type 0} → ReadError → Result Y Fault → Type 0
Fails errors.Memory read = Unit {0}
Fails (errors.Fault f) read = read ≡ Err f

-- the result, seen by `view`, is what reading gives, unless out of memory
abbrev pub Gives : {X Y : Type 0} → (X → Y) → Result X ReadError → Result Y Fault → Type 0
Gives view (Ok x) read = read ≡ Ok (view x)
Gives view (Err e) read = Fails e read

-- the words of the first line, and what follows its end
abbrev pub words_before : List ℕ → Option ℕ → Result (List Word × List ℕ) Fault
words_before text None = Err (Malformed (length text))
words_before text (Some i) = Ok (slice_split (λ b. b == 32) (take i text), drop 1 (drop i text))

-- the words of the first line, which must be ended, and what follows it
unfoldable pub first_words : List ℕ → Result (List Word × List ℕ) Fault
first_words text = words_before text (position (λ b. b == 10) text)

-- what a line says, if the text from its start on has this number of bytes
abbrev pub judged : {X : Type 0} → ℕ → Verdict X → Result X Fault
judged left verdict.Malformed = Err (Malformed left)
judged left verdict.Beyond = Err (Beyond left)
judged left (verdict.Read x) = Ok x

-- what the first line says by its form, and what follows it
unfoldable pub line_by : {X : Type 0} → (List Word → Verdict X) → List ℕ → Result (X × List ℕ) Fault
line_by form text = do
  words ← first_words text
  x ← judged (length text) (form words.0)
  Ok (x, words.1)

-- n parts in a row, each read by what is before it
unfoldable pub many : {X : Type 0} → (List X → List ℕ → Result (X × List ℕ) Fault) → List X → ℕ → List ℕ
    → Result (List X × List ℕ) Fault
many part earlier zero text = Ok (earlier, text)
many part earlier (suc n) text = part earlier text >>= λ x. many part (earlier ++ x.0 ∷ []) n x.1
