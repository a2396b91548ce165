-- Which tests hold of one byte, and bytes of slices.
use Rattle.std.proofs.Common.{◌≡◌, ◌<◌, ◌≤◌, ◌-◌, ◌+◌, ℕ, true, false, List, length, get_or, drop}
use Rattle.std.proofs.Common.{slice_range, refl, ap, ◌∙◌, arith, length-drop, length-take-le}
use Rattle.std.proofs.lemmas.List.{get_or-drop, get_or-take}
use Rattle.std.proofs.lemmas.Bool.Decides.{nat_tests}
use Rattle.std.specs.Char.{is_ascii_alphabetic, is_ascii_digit}
use Rattle.pb_lexer.specs.Forms.{is_word, is_blank, is_allowed}
use Rattle.pb_lexer.proofs.Spellings.{starts, is_visible}

pub letter_no_digit : (b : ℕ) → is_ascii_alphabetic b ≡ true → is_ascii_digit b ≡ false
letter_no_digit b h = grind (arith, nat_tests)

pub letter_word : (b : ℕ) → is_ascii_alphabetic b ≡ true → is_word b ≡ true
letter_word b h = grind (arith, nat_tests)

pub blank_allowed : (b : ℕ) → is_blank b ≡ true → is_allowed b ≡ true
blank_allowed b h = grind (arith, nat_tests)

pub letter_starts : (b : ℕ) → is_ascii_alphabetic b ≡ true → starts b ≡ true
letter_starts b h = rw h refl

pub digit_starts : (b : ℕ) → is_ascii_digit b ≡ true → starts b ≡ true
digit_starts b h = grind (arith, nat_tests)

pub starts_allowed : (b : ℕ) → starts b ≡ true → is_allowed b ≡ true
starts_allowed b h = grind (arith, nat_tests)

pub starts_no_blank : (b : ℕ) → starts b ≡ true → is_blank b ≡ true → ⊥
starts_no_blank b h k = grind (arith, nat_tests)

pub word_visible : (b : ℕ) → is_word b ≡ true → is_visible b ≡ true
word_visible b h = grind (arith, nat_tests)

pub digit_visible : (b : ℕ) → is_ascii_digit b ≡ true → is_visible b ≡ true
digit_visible b h = grind (arith, nat_tests)

pub visible_allowed : (b : ℕ) → is_visible b ≡ true → is_allowed b ≡ true
visible_allowed b h = grind (arith, nat_tests)

pub no_visible_feed : is_visible 10 ≡ true → ⊥
no_visible_feed h = cc

pub starts_no_slash : starts 47 ≡ true → ⊥
starts_no_slash h = cc

pub blank_no_slash : is_blank 47 ≡ true → ⊥
blank_no_slash h = cc

pub slice_at : (xs : List ℕ) (s e k : ℕ) → s + k < e → get_or (slice_range xs s e) k 0 ≡ get_or xs (s + k) 0
slice_at xs s e k lt = get_or-take (e - s) (drop s xs) k 0 (omega arith) ∙ get_or-drop s xs k 0

pub slice_first : (xs : List ℕ) (s e : ℕ) → s < e → get_or (slice_range xs s e) 0 0 ≡ get_or xs s 0
slice_first xs s e lt = slice_at xs s e 0 (omega arith) ∙ ap (λ i. get_or xs i 0) (omega arith)

pub slice_here : (xs : List ℕ) (s e k : ℕ) → s ≤ k → k < e
    → get_or (slice_range xs s e) (k - s) 0 ≡ get_or xs k 0
slice_here xs s e k le lt = slice_at xs s e (k - s) (omega arith) ∙ ap (λ i. get_or xs i 0) (omega arith)

pub slice_length : (xs : List ℕ) (s e : ℕ) → e ≤ length xs → length (slice_range xs s e) ≡ e - s
slice_length xs s e le = length-take-le (e - s) (drop s xs) (omega (arith, length-drop s xs))
