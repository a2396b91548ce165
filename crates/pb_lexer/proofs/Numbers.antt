-- The value of digits.
use Rattle.std.proofs.Common.{◌≡◌, ◌<◌, ◌≤◌, ◌-◌, ◌+◌, ◌*◌, ℕ, List, [], ◌∷◌, length, get_or, drop, ap, arith}
use Rattle.std.proofs.Common.{suc, drop-cons}
use Rattle.pb_base.specs.declared.limits.TheConstants.{MAX_NUMBER}
use Rattle.pb_lexer.specs.Forms.{value_from, value}

pub value_grows : (digits : List ℕ) (n : ℕ) → n ≤ value_from n digits
value_grows [] n = omega arith
value_grows (d ∷ ds) n = omega (arith, value_grows ds (10 * n + (d - 48)))

pub too_large : (digits : List ℕ) (n i : ℕ) → i < length digits
    → MAX_NUMBER < 10 * n + (get_or digits i 0 - 48) → value_from n (drop i digits) ≡ value digits
    → MAX_NUMBER < value digits
too_large digits n i lt large same =
    let e = ap (value_from n) (drop-cons digits i 0 lt) in
    let grows = value_grows (drop (suc i) digits) (10 * n + (get_or digits i 0 - 48)) in
    omega (arith, e, grows)
