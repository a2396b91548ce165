-- Numbers in decimal digits, and what they are equal to.
use Rattle.std.proofs.Common.{◌≡◌, ℕ, ◌+◌, ◌*◌, ◌^◌, ◌<◌, ◌≤◌, true, not, ◌||◌, eqb, List, [], ◌∷◌, length, get_or}
use Rattle.std.proofs.Common.{refl, ap, subst, ◌∙◌, arith, rules, inl, inr, take}
use Rattle.std.specs.List.{list_all}
use Rattle.std.specs.Char.{is_ascii_digit, digit_value}
use Rattle.std.specs.Fmt.{decimal}
use Rattle.std.specs.Str.Parse.{digits_value}
use Rattle.std.proofs.lemmas.Str.{digit_value_digit}
use Rattle.std.proofs.lemmas.Str.Parse.{IsNumeralModel, numerals_by_value, digit_at}
use Rattle.std.proofs.lemmas.Int.Digits.{digits_value_more}
use Rattle.std.proofs.lemmas.Fmt.{digits_decimal, decimal_nonempty, first_decimal, decimal_digit}
use Rattle.std.proofs.lemmas.Bool.{eqb-true, cases_lt}
use Rattle.std.proofs.lemmas.Bool.Decides.{nat_tests}
use Rattle.pb_base.proofs.Cases.{both_true}
use Rattle.pb_code.specs.Names.{Word}
use Rattle.pb_code.specs.Numerals.{is_numeral}

-- digits are what std reads as a number
pub own : IsNumeralModel (λ ds. list_all is_ascii_digit ds ≡ true) (digits_value 10)
own = numerals_by_value _ (search rules)

-- with one digit more
pub digit_more : (ds : List ℕ) (i : ℕ) → list_all is_ascii_digit ds ≡ true → i < length ds
    → (digits_value 10 (take (i + 1) ds) + 48 ≡ digits_value 10 (take i ds) * 10 + get_or ds i 0) × (48 ≤ get_or ds i 0)
digit_more ds i all lt =
    let more = digits_value_more 10 ds i lt in
    let d : digit_value (get_or ds i 0) + 48 ≡ get_or ds i 0 = digit_value_digit (get_or ds i 0) (digit_at ds i (own.to ds all) lt) in
    (omega (arith, more, d), omega (arith, d))

-- what a numeral is
pub numeral_is : (w : Word) → is_numeral w ≡ true → (list_all is_ascii_digit w ≡ true) × (0 < length w) × (get_or w 0 0 ≡ 48 → length w ≡ 1)
numeral_is [] e = absurd cc
numeral_is (d ∷ ds) e =
    let p = both_true (list_all is_ascii_digit (d ∷ ds)) (not (eqb d 48) || eqb (length ds) 0) e in (
      p.0,
      omega arith,
      λ h. let h' : d ≡ 48 = h in let q : eqb (length ds) 0 ≡ true = subst (λ (x : ℕ). (not (eqb x
          48) || eqb (length ds) 0) ≡ true) h' p.1 in omega (arith, eqb-true (length ds) 0 q),
    )

lone : (d n : ℕ) → (d ≡ 48 → n ≡ 0) → (not (eqb d 48) || eqb n 0) ≡ true
lone d n h = grind (arith, nat_tests)

-- what is a numeral
pub is_numeral_from : (w : Word) → list_all is_ascii_digit w ≡ true → 0 < length w → (get_or w 0 0 ≡ 48 → length w ≡ 1) → is_numeral w ≡ true
is_numeral_from [] all some zeros = absurd (omega arith)
is_numeral_from (d ∷ ds) all some zeros =
    let z : d ≡ 48 → length ds ≡ 0 = λ h. let one : length (d ∷ ds) ≡ 1 = zeros h in omega (arith, one) in
    rw (all, lone d (length ds) z) refl

-- the decimal digits of a number are a numeral
pub is_numeral_decimal : (n : ℕ) → n < 2 ^ 64 → is_numeral (decimal n) ≡ true
is_numeral_decimal n small =
    is_numeral_from (decimal n) (digits_decimal own n small) (decimal_nonempty n small) (λ h.
    elim (cases_lt 0 n) [
      | inl lt ↦ absurd (omega (arith, first_decimal n lt small, h))
      | inr le ↦ (let z : n ≡ 0 = omega arith in let d : decimal n ≡ 48 ∷ [] = ap decimal z ∙ decimal_digit 0 (omega arith) in ap (λ (w : Word). length w) d)
    ])
