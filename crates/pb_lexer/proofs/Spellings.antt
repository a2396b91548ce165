-- Which bytes are the spelling of a symbol or reserved word.
use Rattle.std.proofs.Common.{◌≡◌, ◌<◌, ◌≤◌, ℕ, ◌⊎◌, Bool, true, false, List, [], ◌∷◌, length, get_or, refl}
use Rattle.std.proofs.Common.{sym, ap, ◌∙◌, arith}
use Rattle.std.specs.Prelude.{codes}
use Rattle.std.specs.Char.{is_ascii_alphabetic}
use Rattle.pb_lexer.specs.declared.token.Mark.{Mark}
use Rattle.pb_lexer.specs.declared.token.Mark.TheVariants as mark
use Rattle.std.specs.Char.{is_ascii_digit}
use Rattle.std.specs.Int.{is_in_range}
use Rattle.std.specs.Str.{bytes_eq}
use Rattle.std.proofs.Common.{◌&&◌, ◌||◌, eqb, cond, zero, suc}
use Rattle.pb_base.proofs.Cases.{both_true}
use Rattle.pb_lexer.specs.Forms.{spelling, is_word}

case_two : (m : Mark) → length (spelling m) ≡ 2 → is_ascii_alphabetic (get_or (spelling m) 0 0) ≡ true
    → (spelling m ≡ codes "do" → ⊥) → (spelling m ≡ codes "fi" → ⊥) → (spelling m ≡ codes "if" → ⊥)
    → (spelling m ≡ codes "od" → ⊥) → (spelling m ≡ codes "of" → ⊥) → (spelling m ≡ codes "or" → ⊥) → ⊥
case_two mark.Do len letter h_do h_fi h_if h_od h_of h_or = h_do refl
case_two mark.Fi len letter h_do h_fi h_if h_od h_of h_or = h_fi refl
case_two mark.If len letter h_do h_fi h_if h_od h_of h_or = h_if refl
case_two mark.Od len letter h_do h_fi h_if h_od h_of h_or = h_od refl
case_two mark.Of len letter h_do h_fi h_if h_od h_of h_or = h_of refl
case_two mark.Or len letter h_do h_fi h_if h_od h_of h_or = h_or refl
case_two _ len letter h_do h_fi h_if h_od h_of h_or = first_of (omega arith, cc)

pub none_of_two : (w : List ℕ) → length w ≡ 2 → is_ascii_alphabetic (get_or w 0 0) ≡ true
    → (w ≡ codes "do" → ⊥) → (w ≡ codes "fi" → ⊥) → (w ≡ codes "if" → ⊥) → (w ≡ codes "od" → ⊥)
    → (w ≡ codes "of" → ⊥) → (w ≡ codes "or" → ⊥) → (m : Mark) → w ≡ spelling m → ⊥
none_of_two w len letter h_do h_fi h_if h_od h_of h_or m e =
    case_two m (rw e at len) (rw e at letter)
    (λ f. h_do (e ∙ f)) (λ f. h_fi (e ∙ f)) (λ f. h_if (e ∙ f)) (λ f. h_od (e ∙ f))
    (λ f. h_of (e ∙ f)) (λ f. h_or (e ∙ f))

case_three : (m : Mark) → length (spelling m) ≡ 3 → is_ascii_alphabetic (get_or (spelling m) 0 0) ≡ true
    → (spelling m ≡ codes "and" → ⊥) → (spelling m ≡ codes "div" → ⊥) → (spelling m ≡ codes "end" → ⊥)
    → (spelling m ≡ codes "mod" → ⊥) → (spelling m ≡ codes "not" → ⊥) → ⊥
case_three mark.And len letter h_and h_div h_end h_mod h_not = h_and refl
case_three mark.Div len letter h_and h_div h_end h_mod h_not = h_div refl
case_three mark.End len letter h_and h_div h_end h_mod h_not = h_end refl
case_three mark.Mod len letter h_and h_div h_end h_mod h_not = h_mod refl
case_three mark.Not len letter h_and h_div h_end h_mod h_not = h_not refl
case_three _ len letter h_and h_div h_end h_mod h_not = first_of (omega arith, cc)

pub none_of_three : (w : List ℕ) → length w ≡ 3 → is_ascii_alphabetic (get_or w 0 0) ≡ true
    → (w ≡ codes "and" → ⊥) → (w ≡ codes "div" → ⊥) → (w ≡ codes "end" → ⊥) → (w ≡ codes "mod" → ⊥)
    → (w ≡ codes "not" → ⊥) → (m : Mark) → w ≡ spelling m → ⊥
none_of_three w len letter h_and h_div h_end h_mod h_not m e =
    case_three m (rw e at len) (rw e at letter)
    (λ f. h_and (e ∙ f)) (λ f. h_div (e ∙ f)) (λ f. h_end (e ∙ f)) (λ f. h_mod (e ∙ f))
    (λ f. h_not (e ∙ f))

case_four : (m : Mark) → length (spelling m) ≡ 4 → is_ascii_alphabetic (get_or (spelling m) 0 0) ≡ true
    → (spelling m ≡ codes "else" → ⊥) → (spelling m ≡ codes "hold" → ⊥) → (spelling m ≡ codes "skip" → ⊥)
    → (spelling m ≡ codes "then" → ⊥) → ⊥
case_four mark.Else len letter h_else h_hold h_skip h_then = h_else refl
case_four mark.Hold len letter h_else h_hold h_skip h_then = h_hold refl
case_four mark.Skip len letter h_else h_hold h_skip h_then = h_skip refl
case_four mark.Then len letter h_else h_hold h_skip h_then = h_then refl
case_four _ len letter h_else h_hold h_skip h_then = first_of (omega arith, cc)

pub none_of_four : (w : List ℕ) → length w ≡ 4 → is_ascii_alphabetic (get_or w 0 0) ≡ true
    → (w ≡ codes "else" → ⊥) → (w ≡ codes "hold" → ⊥) → (w ≡ codes "skip" → ⊥) → (w ≡ codes "then" → ⊥)
    → (m : Mark) → w ≡ spelling m → ⊥
none_of_four w len letter h_else h_hold h_skip h_then m e =
    case_four m (rw e at len) (rw e at letter)
    (λ f. h_else (e ∙ f)) (λ f. h_hold (e ∙ f)) (λ f. h_skip (e ∙ f)) (λ f. h_then (e ∙ f))

case_five : (m : Mark) → length (spelling m) ≡ 5 → is_ascii_alphabetic (get_or (spelling m) 0 0) ≡ true
    → (spelling m ≡ codes "begin" → ⊥) → (spelling m ≡ codes "print" → ⊥) → (spelling m ≡ codes "while" → ⊥)
    → ⊥
case_five mark.Begin len letter h_begin h_print h_while = h_begin refl
case_five mark.Print len letter h_begin h_print h_while = h_print refl
case_five mark.While len letter h_begin h_print h_while = h_while refl
case_five _ len letter h_begin h_print h_while = first_of (omega arith, cc)

pub none_of_five : (w : List ℕ) → length w ≡ 5 → is_ascii_alphabetic (get_or w 0 0) ≡ true
    → (w ≡ codes "begin" → ⊥) → (w ≡ codes "print" → ⊥) → (w ≡ codes "while" → ⊥) → (m : Mark)
    → w ≡ spelling m → ⊥
none_of_five w len letter h_begin h_print h_while m e =
    case_five m (rw e at len) (rw e at letter)
    (λ f. h_begin (e ∙ f)) (λ f. h_print (e ∙ f)) (λ f. h_while (e ∙ f))

case_six : (m : Mark) → length (spelling m) ≡ 6 → is_ascii_alphabetic (get_or (spelling m) 0 0) ≡ true
    → (spelling m ≡ codes "parend" → ⊥) → ⊥
case_six mark.Parend len letter h_parend = h_parend refl
case_six _ len letter h_parend = first_of (omega arith, cc)

pub none_of_six : (w : List ℕ) → length w ≡ 6 → is_ascii_alphabetic (get_or w 0 0) ≡ true
    → (w ≡ codes "parend" → ⊥) → (m : Mark) → w ≡ spelling m → ⊥
none_of_six w len letter h_parend m e = case_six m (rw e at len) (rw e at letter) (λ f. h_parend (e ∙ f))

case_seven : (m : Mark) → length (spelling m) ≡ 7 → is_ascii_alphabetic (get_or (spelling m) 0 0) ≡ true
    → (spelling m ≡ codes "integer" → ⊥) → (spelling m ≡ codes "process" → ⊥) → ⊥
case_seven mark.Integer len letter h_integer h_process = h_integer refl
case_seven mark.Process len letter h_integer h_process = h_process refl
case_seven _ len letter h_integer h_process = first_of (omega arith, cc)

pub none_of_seven : (w : List ℕ) → length w ≡ 7 → is_ascii_alphabetic (get_or w 0 0) ≡ true
    → (w ≡ codes "integer" → ⊥) → (w ≡ codes "process" → ⊥) → (m : Mark) → w ≡ spelling m → ⊥
none_of_seven w len letter h_integer h_process m e =
    case_seven m (rw e at len) (rw e at letter) (λ f. h_integer (e ∙ f)) (λ f. h_process (e ∙ f))

case_eight : (m : Mark) → length (spelling m) ≡ 8 → is_ascii_alphabetic (get_or (spelling m) 0 0) ≡ true
    → (spelling m ≡ codes "parbegin" → ⊥) → (spelling m ≡ codes "resource" → ⊥) → ⊥
case_eight mark.Parbegin len letter h_parbegin h_resource = h_parbegin refl
case_eight mark.Resource len letter h_parbegin h_resource = h_resource refl
case_eight _ len letter h_parbegin h_resource = first_of (omega arith, cc)

pub none_of_eight : (w : List ℕ) → length w ≡ 8 → is_ascii_alphabetic (get_or w 0 0) ≡ true
    → (w ≡ codes "parbegin" → ⊥) → (w ≡ codes "resource" → ⊥) → (m : Mark) → w ≡ spelling m → ⊥
none_of_eight w len letter h_parbegin h_resource m e =
    case_eight m (rw e at len) (rw e at letter) (λ f. h_parbegin (e ∙ f)) (λ f. h_resource (e ∙ f))

case_another : (m : Mark) → is_ascii_alphabetic (get_or (spelling m) 0 0) ≡ true
    → (2 ≤ length (spelling m)) × (length (spelling m) ≤ 8)
case_another mark.And letter = (omega arith, omega arith)
case_another mark.Begin letter = (omega arith, omega arith)
case_another mark.Div letter = (omega arith, omega arith)
case_another mark.Do letter = (omega arith, omega arith)
case_another mark.Else letter = (omega arith, omega arith)
case_another mark.End letter = (omega arith, omega arith)
case_another mark.Fi letter = (omega arith, omega arith)
case_another mark.Hold letter = (omega arith, omega arith)
case_another mark.If letter = (omega arith, omega arith)
case_another mark.Integer letter = (omega arith, omega arith)
case_another mark.Mod letter = (omega arith, omega arith)
case_another mark.Not letter = (omega arith, omega arith)
case_another mark.Od letter = (omega arith, omega arith)
case_another mark.Of letter = (omega arith, omega arith)
case_another mark.Or letter = (omega arith, omega arith)
case_another mark.Parbegin letter = (omega arith, omega arith)
case_another mark.Parend letter = (omega arith, omega arith)
case_another mark.Print letter = (omega arith, omega arith)
case_another mark.Process letter = (omega arith, omega arith)
case_another mark.Resource letter = (omega arith, omega arith)
case_another mark.Skip letter = (omega arith, omega arith)
case_another mark.Then letter = (omega arith, omega arith)
case_another mark.While letter = (omega arith, omega arith)
case_another _ letter = absurd (cc)

pub none_of_another_length : (w : List ℕ) → is_ascii_alphabetic (get_or w 0 0) ≡ true
    → (length w < 2) ⊎ (8 < length w) → (m : Mark) → w ≡ spelling m → ⊥
none_of_another_length w letter range m e =
    let x = case_another m (rw e at letter) in
    let same = ap length e in
    omega arith

-- ---- tables

-- the first bytes of tokens
abbrev pub is_symbol : ℕ → Bool
is_symbol b =
    eqb b 58 || eqb b 59 || eqb b 44 || eqb b 40 || eqb b 41 || eqb b 43
    || eqb b 45 || eqb b 42 || eqb b 61 || eqb b 60 || eqb b 62

abbrev pub starts : ℕ → Bool
starts b = is_ascii_alphabetic b || is_ascii_digit b || is_symbol b

pub spelling_starts : (m : Mark) → starts (get_or (spelling m) 0 0) ≡ true
spelling_starts mark.Assign = refl
spelling_starts _ = refl

pub spelling_no_digit : (m : Mark) → is_ascii_digit (get_or (spelling m) 0 0) ≡ false
spelling_no_digit mark.Assign = refl
spelling_no_digit _ = refl

-- a byte of a token
abbrev pub is_visible : ℕ → Bool
is_visible b = is_in_range 33 126 b

abbrev all_visible : List ℕ → Bool
all_visible [] = true
all_visible (b ∷ bs) = is_visible b && all_visible bs

all_visible_each : (bs : List ℕ) → all_visible bs ≡ true → (k : ℕ) → k < length bs
    → is_visible (get_or bs k 0) ≡ true
all_visible_each [] h k lt = absurd (omega arith)
all_visible_each (b ∷ bs) h zero lt = (both_true (is_visible b) (all_visible bs) h).0
all_visible_each (b ∷ bs) h (suc k) lt =
    all_visible_each bs (both_true (is_visible b) (all_visible bs) h).1 k (omega arith)

spelling_all_visible : (m : Mark) → all_visible (spelling m) ≡ true
spelling_all_visible mark.Assign = refl
spelling_all_visible _ = refl

pub spelling_visible : (m : Mark) (k : ℕ) → k < length (spelling m)
    → is_visible (get_or (spelling m) k 0) ≡ true
spelling_visible m = all_visible_each (spelling m) (spelling_all_visible m)

abbrev all_word : List ℕ → Bool
all_word [] = true
all_word (b ∷ bs) = is_word b && all_word bs

all_word_each : (bs : List ℕ) → all_word bs ≡ true → (k : ℕ) → k < length bs → is_word (get_or bs k 0) ≡ true
all_word_each [] h k lt = absurd (omega arith)
all_word_each (b ∷ bs) h zero lt = (both_true (is_word b) (all_word bs) h).0
all_word_each (b ∷ bs) h (suc k) lt = all_word_each bs (both_true (is_word b) (all_word bs) h).1 k (omega arith)

spelling_all_word : (m : Mark) → is_ascii_alphabetic (get_or (spelling m) 0 0) ≡ true
    → all_word (spelling m) ≡ true
spelling_all_word mark.Assign h = cc
spelling_all_word mark.Semicolon h = cc
spelling_all_word mark.Comma h = cc
spelling_all_word mark.Open h = cc
spelling_all_word mark.Close h = cc
spelling_all_word mark.Plus h = cc
spelling_all_word mark.Minus h = cc
spelling_all_word mark.Star h = cc
spelling_all_word mark.Equal h = cc
spelling_all_word mark.NotEqual h = cc
spelling_all_word mark.Less h = cc
spelling_all_word mark.AtMost h = cc
spelling_all_word mark.Greater h = cc
spelling_all_word mark.AtLeast h = cc
spelling_all_word _ h = refl

pub spelling_word : (m : Mark) → is_ascii_alphabetic (get_or (spelling m) 0 0) ≡ true → (k : ℕ)
    → k < length (spelling m) → is_word (get_or (spelling m) k 0) ≡ true
spelling_word m h = all_word_each (spelling m) (spelling_all_word m h)

pub spelling_short : (m : Mark) → is_ascii_alphabetic (get_or (spelling m) 0 0) ≡ false
    → length (spelling m) ≤ 2
spelling_short mark.Assign h = omega arith
spelling_short mark.Semicolon h = omega arith
spelling_short mark.Comma h = omega arith
spelling_short mark.Open h = omega arith
spelling_short mark.Close h = omega arith
spelling_short mark.Plus h = omega arith
spelling_short mark.Minus h = omega arith
spelling_short mark.Star h = omega arith
spelling_short mark.Equal h = omega arith
spelling_short mark.NotEqual h = omega arith
spelling_short mark.Less h = omega arith
spelling_short mark.AtMost h = omega arith
spelling_short mark.Greater h = omega arith
spelling_short mark.AtLeast h = omega arith
spelling_short _ h = absurd (cc)

abbrev find_mark : List ℕ → List Mark → Mark
find_mark bytes [] = mark.Assign
find_mark bytes (m ∷ ms) = cond (bytes_eq (spelling m) bytes) m (find_mark bytes ms)

abbrev all_marks : List Mark
all_marks =
    mark.Assign ∷ mark.Semicolon ∷ mark.Comma ∷ mark.Open ∷ mark.Close ∷ mark.Plus ∷ mark.Minus ∷
    mark.Star ∷ mark.Equal ∷ mark.NotEqual ∷ mark.Less ∷ mark.AtMost ∷ mark.Greater ∷ mark.AtLeast ∷
    mark.And ∷ mark.Begin ∷ mark.Div ∷ mark.Do ∷ mark.Else ∷ mark.End ∷ mark.Fi ∷ mark.Hold ∷ mark.If ∷
    mark.Integer ∷ mark.Mod ∷ mark.Not ∷ mark.Od ∷ mark.Of ∷ mark.Or ∷ mark.Parbegin ∷ mark.Parend ∷
    mark.Print ∷ mark.Process ∷ mark.Resource ∷ mark.Skip ∷ mark.Then ∷ mark.While ∷ []

abbrev mark_of : List ℕ → Mark
mark_of bytes = find_mark bytes all_marks

mark_of_spelling : (m : Mark) → mark_of (spelling m) ≡ m
mark_of_spelling mark.Assign = refl
mark_of_spelling _ = refl

pub spelling_injective : (m k : Mark) → spelling m ≡ spelling k → m ≡ k
spelling_injective m k e = sym (mark_of_spelling m) ∙ ap mark_of e ∙ mark_of_spelling k
