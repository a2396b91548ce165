-- Where the parts of a statement end that fits: q, r and so on are the places at which they begin.
use Rattle.std.proofs.Common.{ℕ, ◌+◌, ◌≡◌, ◌≤◌, ◌++◌, ◌∷◌, [], length, arith, ap, length-append}
use Rattle.pb_base.specs.Steppers.{Bundle}
use Rattle.pb_code.specs.Code.{Jump, JumpIfZero, Give}
use Rattle.pb_generator.specs.Generate.{expr_code, stmt_code, block_code}
use Rattle.pb_names.specs.Program.{Expr, Block, If, While, Hold}

pub if_fits : (p line : ℕ) (e : Expr) (a b : Block) (q r s t : ℕ) → p + length (stmt_code p (If line e a b)) ≤ 40000
    → q ≡ p + length (expr_code e) → r ≡ q + 1 → s ≡ r + length (block_code r a) → t ≡ s + 1
    → t + length (block_code t b) ≤ 40000
if_fits p line e a b q r s t small is_q is_r is_s is_t =
    let then = p + length (expr_code e) + 1 in
    let other = then + length (block_code then a) + 1 in
    let after = other + length (block_code other b) in
    let same_r : r ≡ then = omega arith in
    let same_a : length (block_code r a) ≡ length (block_code then a) = ap (λ (n : ℕ). length (block_code n a)) same_r in
    let same_t : t ≡ other = omega arith in
    let same_b : length (block_code t b) ≡ length (block_code other b) = ap (λ (n : ℕ). length (block_code n b)) same_t in
    let m = length-append (expr_code e) (JumpIfZero other ∷ (block_code then a ++ (Jump after ∷ block_code other b))) in
    let n = length-append (block_code then a) (Jump after ∷ block_code other b) in
    omega (arith, m, n)

pub while_fits : (p line : ℕ) (e : Expr) (body : Block) (q r s : ℕ) → p + length (stmt_code p (While line e body)) ≤ 40000
    → q ≡ p + length (expr_code e) → r ≡ q + 1 → s ≡ r + length (block_code r body)
    → s + 1 ≤ 40000
while_fits p line e body q r s small is_q is_r is_s =
    let start = p + length (expr_code e) + 1 in
    let after = start + length (block_code start body) + 1 in
    let same_r : r ≡ start = omega arith in
    let same : length (block_code r body) ≡ length (block_code start body) =
    ap (λ (n : ℕ). length (block_code n body)) same_r in
    let m = length-append (expr_code e) (JumpIfZero after ∷ (block_code start body ++ (Jump p ∷ []))) in
    let n = length-append (block_code start body) (Jump p ∷ []) in
    omega (arith, m, n)

pub hold_fits : (p line : ℕ) (bundle : Bundle) (body : Block) (r : ℕ)
    → p + length (stmt_code p (Hold line bundle body)) ≤ 40000 → r ≡ p + 1
    → r + length (block_code r body) + 1 ≤ 40000
hold_fits p line bundle body r small is_r =
    let same : length (block_code r body) ≡ length (block_code (p + 1) body) =
    ap (λ (n : ℕ). length (block_code n body)) is_r in
    let m = length-append (block_code (p + 1) body) (Give bundle ∷ []) in
    omega (arith, m)
