-- What the first byte says of a form.
use Rattle.std.proofs.Common.{◌≡◌, ◌<◌, ◌≤◌, ◌-◌, ◌+◌, ℕ, true, false, List, length, get_or, slice_range}
use Rattle.std.proofs.Common.{refl, sym, ap, ◌∙◌, arith}
use Rattle.std.specs.Char.{is_ascii_alphabetic, is_ascii_digit}
use Rattle.pb_lexer.specs.declared.token.Mark.{Mark}
use Rattle.pb_lexer.specs.Tokens.{Lexeme, Fixed}
use Rattle.pb_lexer.specs.Forms.{is_word, spelling, Form, name, number, fixed}
use Rattle.pb_lexer.proofs.Spellings.{starts, spelling_starts, spelling_no_digit, spelling_word}
use Rattle.pb_lexer.proofs.Spellings.{spelling_short, spelling_injective, is_visible, spelling_visible}
use Rattle.pb_lexer.proofs.Bytes.{letter_no_digit, letter_starts, digit_starts, word_visible, digit_visible}
use Rattle.pb_lexer.proofs.Bytes.{slice_here, slice_first, slice_length}

pub form_starts : {bytes : List ℕ} {l : Lexeme} → Form bytes l → starts (get_or bytes 0 0) ≡ true
form_starts {bytes = bytes} (name word free) = letter_starts (get_or bytes 0 0) word.letter
form_starts {bytes = bytes} (number some each) = digit_starts (get_or bytes 0 0) (each 0 some)
form_starts (fixed {m = m} e) = rw e (spelling_starts m)

-- a form that begins with a letter has only letters, digits and `_`
pub form_word : {bytes : List ℕ} {l : Lexeme} → Form bytes l → is_ascii_alphabetic (get_or bytes 0 0) ≡ true
    → (k : ℕ) → k < length bytes → is_word (get_or bytes k 0) ≡ true
form_word (name word free) letter k lt = word.each k lt
form_word {bytes = bytes} (number some each) letter k lt =
    let a = each 0 some in
    let b = letter_no_digit (get_or bytes 0 0) letter in
    cc
form_word {bytes = bytes} (fixed {m = m} e) letter k lt =
    rw e (spelling_word m (rw e at letter) k (rw e at lt))

-- a form that begins with a digit has only digits
pub form_digits : {bytes : List ℕ} {l : Lexeme} → Form bytes l → is_ascii_digit (get_or bytes 0 0) ≡ true
    → (k : ℕ) → k < length bytes → is_ascii_digit (get_or bytes k 0) ≡ true
form_digits {bytes = bytes} (name word free) digit k lt =
    let b = letter_no_digit (get_or bytes 0 0) word.letter in
    cc
form_digits (number some each) digit k lt = each k lt
form_digits (fixed {m = m} e) digit k lt = let b = spelling_no_digit m in let d = rw e at digit in cc

-- a form that begins with another byte is a symbol
pub form_symbol : {bytes : List ℕ} {l : Lexeme} → Form bytes l
    → is_ascii_alphabetic (get_or bytes 0 0) ≡ false → is_ascii_digit (get_or bytes 0 0) ≡ false
    → (m : Mark) × (bytes ≡ spelling m) × (length bytes ≤ 2)
form_symbol (name word free) letter digit = let a = word.letter in cc
form_symbol (number some each) letter digit = let a = each 0 some in cc
form_symbol (fixed {m = m} e) letter digit = (m, e, rw e (spelling_short m (rw e at letter)))

pub same_form : {bytes : List ℕ} {k l : Lexeme} → Form bytes k → Form bytes l → k ≡ l
same_form (name word free) (name word' free') = refl
same_form {bytes = bytes} (name word free) (number some each) =
    let a = each 0 some in
    let b = letter_no_digit (get_or bytes 0 0) word.letter in
    cc
same_form (name word free) (fixed {m = m} e) = absurd (free m e)
same_form {bytes = bytes} (number some each) (name word free) =
    let a = each 0 some in
    let b = letter_no_digit (get_or bytes 0 0) word.letter in
    cc
same_form (number some each) (number some' each') = refl
same_form (number some each) (fixed {m = m} e) =
    let a = each 0 some in
    let b = spelling_no_digit m in
    let d = rw e at a in
    cc
same_form (fixed {m = m} e) (name word free) = absurd (free m e)
same_form (fixed {m = m} e) (number some each) =
    let a = each 0 some in
    let b = spelling_no_digit m in
    let d = rw e at a in
    cc
same_form (fixed {m = m} e) (fixed {m = n} f) = ap Fixed (spelling_injective m n (sym e ∙ f))

pub form_visible : {bytes : List ℕ} {l : Lexeme} → Form bytes l → (k : ℕ) → k < length bytes
    → is_visible (get_or bytes k 0) ≡ true
form_visible {bytes = bytes} (name word free) k lt = word_visible (get_or bytes k 0) (word.each k lt)
form_visible {bytes = bytes} (number some each) k lt = digit_visible (get_or bytes k 0) (each k lt)
form_visible (fixed {m = m} e) k lt = rw e (spelling_visible m k (rw e at lt))

-- ---- no longer slice has a form

pub longest_word : (text : List ℕ) (at end : ℕ) → at < end → is_ascii_alphabetic (get_or text at 0) ≡ true
    → (end < length text → is_word (get_or text end 0) ≡ false)
    → (further : ℕ) (l : Lexeme) → end < further → further ≤ length text
    → Form (slice_range text at further) l → ⊥
longest_word text at end lt letter stops further l more within form =
    let here = slice_here text at further end (omega arith) more in
    let first : is_ascii_alphabetic (get_or (slice_range text at further) 0 0) ≡ true =
    ap is_ascii_alphabetic (slice_first text at further (omega arith)) ∙ letter in
    let yes = form_word form first (end - at) (omega (arith, slice_length text at further within)) in
    let past = stops (omega arith) in
    let same : is_word (get_or (slice_range text at further) (end - at) 0) ≡ is_word (get_or text end 0) =
    ap is_word here in
    cc

pub longest_digits : (text : List ℕ) (at end : ℕ) → at < end → is_ascii_digit (get_or text at 0) ≡ true
    → (end < length text → is_ascii_digit (get_or text end 0) ≡ false)
    → (further : ℕ) (l : Lexeme) → end < further → further ≤ length text
    → Form (slice_range text at further) l → ⊥
longest_digits text at end lt digit stops further l more within form =
    let here = slice_here text at further end (omega arith) more in
    let first : is_ascii_digit (get_or (slice_range text at further) 0 0) ≡ true =
    ap is_ascii_digit (slice_first text at further (omega arith)) ∙ digit in
    let yes = form_digits form first (end - at) (omega (arith, slice_length text at further within)) in
    let past = stops (omega arith) in
    let same : is_ascii_digit (get_or (slice_range text at further) (end - at) 0)
    ≡ is_ascii_digit (get_or text end 0) = ap is_ascii_digit here in
    cc

-- a form at an offset that begins with no letter and no digit
pub symbol_there : (text : List ℕ) (at further : ℕ) (l : Lexeme) → at < further → further ≤ length text
    → is_ascii_alphabetic (get_or text at 0) ≡ false → is_ascii_digit (get_or text at 0) ≡ false
    → Form (slice_range text at further) l
    → (m : Mark) × (slice_range text at further ≡ spelling m) × (further ≤ at + 2)
symbol_there text at further l lt within letter digit form =
    let e = slice_first text at further lt in
    let x = form_symbol form (ap is_ascii_alphabetic e ∙ letter) (ap is_ascii_digit e ∙ digit) in
    (x.0, x.1, omega (arith, slice_length text at further within, x.2))
