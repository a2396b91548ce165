-- What is written of each byte says that byte.
use Rattle.std.proofs.Common.{◌≡◌, ◌≢◌, ℕ, ◌<◌, ◌+◌, ◌*◌, ◌/◌, ◌%◌, List, [], ◌∷◌, ◌++◌, inl, inr, sym, subst, arith, cond, not, ◌&&◌, ◌==◌}
use Rattle.std.specs.Prelude.{All, nat_lt, nat_le}
use Rattle.std.specs.List.{flat_map}
use Rattle.std.proofs.lemmas.Bool.{cases_Bool, eqb-true, eqb-false, cond-true, cond-false, leb-true, ltb-true, and_parts, not-true}
use Rattle.std.proofs.lemmas.List.Elements.{All-head, All-tail}
use Rattle.pb_json.specs.Strings.{Says, nothing, itself, quote, backslash, line_feed, by_number, escaped, is_plain, hex_digit}

by_hand : (b : ℕ) → b < 256 → (inside bytes : List ℕ) → Says inside bytes
    → Says (92 ∷ 117 ∷ 48 ∷ 48 ∷ hex_digit (b / 16) ∷ hex_digit (b % 16) ∷ inside) (b ∷ bytes)
by_hand b small inside bytes says =
    let high : b / 16 < 16 = omega (arith, small) in
    let low : b % 16 < 16 = omega arith in
    let all : 16 * (b / 16) + b % 16 ≡ b = omega arith in
    subst (λ (n : ℕ). Says (92 ∷ 117 ∷ 48 ∷ 48 ∷ hex_digit (b / 16) ∷ hex_digit (b % 16) ∷ inside) (n ∷ bytes)) all
    (by_number (b / 16) (b % 16) high low inside bytes says)

says_rest : (b : ℕ) (inside bytes : List ℕ) → Says inside bytes → b < 256 → b ≢ 34 → b ≢ 92
    → Says (cond (is_plain b) (b ∷ []) (92 ∷ 117 ∷ 48 ∷ 48 ∷ hex_digit (b / 16) ∷ hex_digit (b % 16) ∷ []) ++ inside) (b ∷ bytes)
says_rest b inside bytes says small no_quote no_slash = elim (cases_Bool (is_plain b)) [
  | inl shown ↦
      let parts = and_parts (nat_le 32 b) (nat_lt b 127 && not (b == 60)) shown in
      let more = and_parts (nat_lt b 127) (not (b == 60)) parts.1 in
      rw (cond-true (is_plain b) (b ∷ []) (92 ∷ 117 ∷ 48 ∷ 48 ∷ hex_digit (b / 16) ∷ hex_digit (b % 16) ∷ []) shown)
      (itself b (leb-true 32 b parts.0) (ltb-true b 127 more.0) no_quote no_slash (eqb-false b 60 (not-true (b == 60) more.1))
      inside bytes says)
  | inr other ↦
      rw (cond-false (is_plain b) (b ∷ []) (92 ∷ 117 ∷ 48 ∷ 48 ∷ hex_digit (b / 16) ∷ hex_digit (b % 16) ∷ []) other)
      (by_hand b small inside bytes says)
]

says_one : (b : ℕ) (inside bytes : List ℕ) → Says inside bytes → b < 256 → Says (escaped b ++ inside) (b ∷ bytes)
says_one b inside bytes says small = elim (cases_Bool (b == 34)) [
  | inl is ↦
      let e : b ≡ 34 = eqb-true b 34 is in
      subst (λ (n : ℕ). Says (escaped n ++ inside) (n ∷ bytes)) (sym e) (quote inside bytes says)
  | inr other ↦ elim (cases_Bool (b == 92)) [
    | inl is ↦
        let e : b ≡ 92 = eqb-true b 92 is in
        subst (λ (n : ℕ). Says (escaped n ++ inside) (n ∷ bytes)) (sym e) (backslash inside bytes says)
    | inr other_slash ↦ elim (cases_Bool (b == 10)) [
      | inl is ↦
          let e : b ≡ 10 = eqb-true b 10 is in
          subst (λ (n : ℕ). Says (escaped n ++ inside) (n ∷ bytes)) (sym e) (line_feed inside bytes says)
      | inr other_feed ↦
          rw other (rw other_slash (rw other_feed (says_rest b inside bytes says small (eqb-false b 34 other) (eqb-false b 92 other_slash))))
    ]
  ]
]

pub says_all : (bytes : List ℕ) → All (λ b. b < 256) bytes → Says (flat_map escaped bytes) bytes
says_all [] all = nothing
says_all (b ∷ bytes) all =
    says_one b (flat_map escaped bytes) bytes (says_all bytes (All-tail (λ (b : ℕ). b < 256) b bytes all))
    (All-head (λ (b : ℕ). b < 256) b bytes all)
