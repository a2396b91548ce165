-- A number that is read is the number that was written, and what was written is read again.
use Rattle.std.proofs.Common.{◌≡◌, ◌≢◌, ℕ, ◌^◌, ◌<◌, ◌≤◌, true, not, ◌&&◌, ◌||◌, eqb, List, [], ◌∷◌, length, get_or}
use Rattle.std.proofs.Common.{sym, ap, subst, ◌∙◌, arith, inl, inr}
use Rattle.std.specs.Prelude.{Result, Ok}
use Rattle.std.specs.List.{list_all}
use Rattle.std.specs.Char.{is_ascii_digit}
use Rattle.std.specs.Fmt.{decimal}
use Rattle.std.specs.Str.{IsUtf8}
use Rattle.std.specs.Str.Parse.{ParsesUnsigned, digits_value}
use Rattle.std.proofs.lemmas.Str.{IsUtf8-from_ascii}
use Rattle.std.proofs.lemmas.Str.Parse.{parse_plain}
use Rattle.std.proofs.lemmas.Result.{OkIff-at_ok}
use Rattle.std.proofs.lemmas.Fmt.{IsAscii-decimal, decimal-digits_value, decimal_nonempty, first_decimal}
use Rattle.std.proofs.lemmas.Fmt.{decimal_digit, parse-decimal}
use Rattle.std.proofs.lemmas.Bool.{eqb-true, cases_lt}
use Rattle.std.proofs.lemmas.Bool.Decides.{nat_tests}
use Rattle.pb_base.proofs.Cases.{both_true}
use Rattle.pb_picks.specs.PickLines.{is_plain}
use Rattle.pb_code.proofs.NumeralLemmas.{own}

no_sign : (b : ℕ) → not (eqb b 43) ≡ true → b ≢ 43
no_sign b h = λ e. let t : not (eqb 43 43) ≡ true = subst (λ (x : ℕ). not (eqb x 43) ≡ true) e h in cc

plain_is : (w : List ℕ) → is_plain w ≡ true → (0 < length w) × (get_or w 0 0 ≢ 43) × (get_or w 0 0 ≡ 48 → length w ≡ 1)
plain_is [] e = absurd cc
plain_is (d ∷ ds) e =
    let p = both_true (not (eqb d 43)) (not (eqb d 48) || eqb (length ds) 0) e in (
      omega arith,
      no_sign d p.0,
      λ h. let h' : d ≡ 48 = h in let q : eqb (length ds) 0 ≡ true = subst (λ (x : ℕ). (not
          (eqb x 48) || eqb (length ds) 0) ≡ true) h' p.1 in omega (arith, eqb-true (length ds) 0 q),
    )

plain_from : (d n : ℕ) → d ≢ 43 → (d ≡ 48 → n ≡ 0) → (not (eqb d 43) && (not (eqb d 48) || eqb n 0)) ≡ true
plain_from d n a h = grind (arith, nat_tests)

above_plain : (w : List ℕ) → 0 < length w → 48 < get_or w 0 0 → is_plain w ≡ true
above_plain [] some above = absurd (omega arith)
above_plain (d ∷ ds) some above =
    let more : 48 < d = above in
    plain_from d (length ds) (λ e. omega (arith, more, e)) (λ e. absurd (omega (arith, more, e)))

pub decimal_plain : (n : ℕ) → n ≤ 10000000 → is_plain (decimal n) ≡ true
decimal_plain n few =
    let small : n < 2 ^ 64 = omega arith in
    elim (cases_lt 0 n) [
      | inl lt ↦ above_plain (decimal n) (decimal_nonempty n small) (first_decimal n lt small)
      | inr le ↦ (let z : n ≡ 0 = omega arith in let d : decimal n ≡ 48 ∷ [] = ap decimal z ∙ decimal_digit 0 (omega arith) in ap is_plain d)
    ]

pub decimal_utf8 : (n : ℕ) → n ≤ 10000000 → IsUtf8 (decimal n)
decimal_utf8 n few = IsUtf8-from_ascii (decimal n) (IsAscii-decimal n (omega arith))

pub parsed_again : {E : Type 0} (w : List ℕ) (r : Result ℕ E) (n : ℕ) → n ≤ 10000000 → w ≡ decimal n → ParsesUnsigned 32 10 w r → r ≡ Ok n
parsed_again w r n few e h = parse-decimal 32 n w r (omega arith) (omega arith) e h

pub parsed_is : {E : Type 0} (w : List ℕ) (r : Result ℕ E) (n : ℕ) → ParsesUnsigned 32 10 w r → r ≡ Ok n → is_plain w ≡ true → w ≡ decimal n
parsed_is w r n h e plain =
    let f = plain_is w plain in
    let p = OkIff-at_ok r ((list_all is_ascii_digit w ≡ true) × (0 < length w) × (digits_value 10 w < 2 ^ 32))
    (digits_value 10 w) n (parse_plain own 32 w r h f.1) e in
    let small : digits_value 10 w < 2 ^ 32 = p.0.2 in
    let written : decimal (digits_value 10 w) ≡ w = decimal-digits_value own w p.0.0 f.0 f.2 (omega arith) in
    sym written ∙ ap decimal (sym p.1)
