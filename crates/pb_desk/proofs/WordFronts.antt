-- The first word of a text.
use Rattle.std.proofs.Common.{◌≡◌, ℕ, ◌<◌, ◌≤◌, ◌||◌, Bool, true, false, List, [], ◌∷◌, length, take, refl, sym, ap, ◌∙◌, arith}
use Rattle.std.proofs.lemmas.List.{length-take-le, nil_from_length}
use Rattle.pb_bank.specs.Answers.{first_of}
use Rattle.pb_bank.specs.Words.{before, words_of}
use Rattle.pb_bank.proofs.WordLemmas.{no_words}

first_before : (word : List ℕ) (words : List (List ℕ)) → 0 < length word → word ≡ first_of (before word words)
first_before [] words lt = absurd (omega arith)
first_before (b ∷ bytes) words lt = refl

-- some first bytes are the first word, if the words are those
pub front_first : (text word : List ℕ) (n : ℕ) (words : List (List ℕ)) → 0 < n → n ≤ length text → word ≡ take n text
    → words_of text ≡ before (take n text) words → word ≡ first_of (words_of text)
front_first text word n words some le is are =
    let size = length-take-le n text le in
    is ∙ (first_before (take n text) words (omega (arith, size)) ∙ sym (ap first_of are))

pub none_first : (text : List ℕ) → length text ≡ 0 → text ≡ first_of (words_of text)
none_first text empty = nil_from_length text empty ∙ sym (ap first_of (no_words text empty))

pub neither : (a b : Bool) → a || b ≡ false → (a ≡ false) × (b ≡ false)
neither true b e = absurd (cc)
neither false b e = (refl, e)
