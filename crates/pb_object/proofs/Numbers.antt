-- A number that is read is the number that was written, and what was written is read again.
use Rattle.std.proofs.Common.{◌≡◌, ℕ, ◌^◌, ◌<◌, ◌≤◌, Bool, true, false, cond, ◌||◌, ltb}
use Rattle.std.proofs.Common.{refl, sym, ap, ◌∙◌, arith}
use Rattle.std.specs.Fmt.{decimal}
use Rattle.std.specs.Str.Parse.{digits_value}
use Rattle.std.proofs.lemmas.Fmt.{decimal-digits_value, digits_value-decimal}
use Rattle.std.proofs.lemmas.Bool.{ltb-false, le-ltb}
use Rattle.pb_object.specs.declared.words.Verdict.{Verdict}
use Rattle.pb_object.specs.declared.words.Verdict.TheVariants.{Malformed, Beyond, Read}
use Rattle.pb_code.specs.Names.{Word}
use Rattle.pb_code.specs.Numerals.{is_numeral}
use Rattle.pb_code.proofs.NumeralLemmas.{own, numeral_is, is_numeral_decimal}
use Rattle.pb_object.specs.Words.{number}

pub none_of : (a b : Bool) → (a || b) ≡ false → (a ≡ false) × (b ≡ false)
none_of true b e = absurd cc
none_of false b e = (refl, e)

-- a number with a range that was read
abbrev judge : Bool → Bool → ℕ → Verdict ℕ
judge a b n = cond a (cond b Beyond (Read n)) Malformed

pub read_number : (a b : Bool) (n m : ℕ) → judge a b n ≡ Read m → (a ≡ true) × (b ≡ false) × (n ≡ m)
read_number true true n m e = absurd cc
read_number true false n m e = (refl, refl, cc)
read_number false b n m e = absurd cc

pub number_takes : (low high : ℕ) (w : Word) (n : ℕ) → high < 2 ^ 64 → number low high w ≡ Read n → (w ≡ decimal n) × (low ≤ n) × (n ≤ high)
unfolding number
number_takes low high w n small e =
    let p = read_number (is_numeral w) (ltb (digits_value 10 w) low || ltb high (digits_value 10 w)) (digits_value 10 w) n e in
    let q = none_of (ltb (digits_value 10 w) low) (ltb high (digits_value 10 w)) p.1 in
    let f = numeral_is w p.0 in
    let above : low ≤ digits_value 10 w = ltb-false _ _ q.0 in
    let below : digits_value 10 w ≤ high = ltb-false _ _ q.1 in
    let written : decimal (digits_value 10 w) ≡ w = decimal-digits_value own w f.0 f.1 f.2 (omega arith) in
    (sym written ∙ ap decimal p.2, omega (arith, p.2), omega (arith, p.2))

pub number_again : (low high n : ℕ) → high < 2 ^ 64 → low ≤ n → n ≤ high → number low high (decimal n) ≡ Read n
unfolding number
number_again low high n small above below =
    let lt : n < 2 ^ 64 = omega arith in
    let value : digits_value 10 (decimal n) ≡ n = digits_value-decimal own n lt in
    let form : is_numeral (decimal n) ≡ true = is_numeral_decimal n lt in
    let a : ltb n low ≡ false = le-ltb _ _ above in
    let b : ltb high n ≡ false = le-ltb _ _ below in
    rw (form, value, a, b) refl
