-- How much lists of parts take, and which takes more.
use Rattle.std.proofs.Common.{◌≡◌, ◌∙◌, ℕ, ◌+◌, ◌<◌, ◌≤◌, max, List, [], ◌∷◌, ◌++◌, arith, refl, sym, ap, inl}
use Rattle.std.proofs.Common.{inr}
use Rattle.std.proofs.lemmas.Bool.{cases_lt, lt-ltb, le-ltb}
use Rattle.std.proofs.lemmas.Bool.Decides.{eqb_tells}
use Rattle.std.proofs.lemmas.List.Sums.{sum_by-append}
use Rattle.pb_base.specs.Bundle.{amount_in}
use Rattle.pb_names.specs.Claims.{stmt_peak, peak, arms_peak}
use Rattle.pb_names.specs.Program.{Stmt, Assign, Print, If, While, Hold, Parbegin, Block, Skip, Then, Arms, NoArm}
use Rattle.pb_names.specs.Program.{AndArm}
use Rattle.pb_plan.specs.Parts.{arms_parts, heavier, hold_part, parts, stmt_parts, weight}
use Rattle.pb_plan.specs.declared.part.Part.{Part}

pub second : (a b : List Part) → weight a < weight b → heavier a b ≡ b
second a b h = rw (lt-ltb (weight a) (weight b) h) refl

pub first : (a b : List Part) → weight b ≤ weight a → heavier a b ≡ a
first a b h = rw (le-ltb (weight a) (weight b) h) refl

pub weight-heavier : (a b : List Part) → weight (heavier a b) ≡ max (weight a) (weight b)
weight-heavier a b = elim (cases_lt (weight a) (weight b)) [
  | inl h ↦ (let e = ap weight (second a b h) in omega (arith, e, h))
  | inr h ↦ (let e = ap weight (first a b h) in omega (arith, e, h))
]

weight-append : (a b : List Part) → weight (a ++ b) ≡ weight a + weight b
weight-append a b = sum_by-append (λ (part : Part). part.amount) a b

weight-hold : (line amount : ℕ) → weight (hold_part line amount) ≡ amount
weight-hold line amount = elim (eqb_tells amount 0) [
  | inl e ↦ (let none : hold_part line amount ≡ [] = rw e.0 refl in ap weight none ∙ sym e.1)
  | inr e ↦
      (let one : hold_part line amount ≡ record { line = line; amount = amount } ∷ [] = rw e.0 refl in
      let w = ap weight one in
      omega (arith, w))
]

-- the parts take together what the one pass finds
mutual
  stmt_weight : (r : ℕ) (s : Stmt) → weight (stmt_parts r s) ≡ stmt_peak r s
  stmt_weight r (Assign line x e) = omega arith
  stmt_weight r (Print line e) = omega arith
  stmt_weight r (If line e a b) =
      let h = weight-heavier (parts r a) (parts r b) in
      let x = block_weight r a in
      let y = block_weight r b in
      omega (arith, h, x, y)
  stmt_weight r (While line e body) = block_weight r body
  stmt_weight r (Hold line bundle body) =
      let sum = weight-append (hold_part line (amount_in bundle r)) (parts r body) in
      let own = weight-hold line (amount_in bundle r) in
      let rest = block_weight r body in
      omega (arith, sum, own, rest)
  stmt_weight r (Parbegin line first arms) = arms_weight r arms

  pub block_weight : (r : ℕ) (block : Block) → weight (parts r block) ≡ peak r block
  block_weight r Skip = omega arith
  block_weight r (Then s block) =
      let h = weight-heavier (stmt_parts r s) (parts r block) in
      let x = stmt_weight r s in
      let y = block_weight r block in
      omega (arith, h, x, y)

  arms_weight : (r : ℕ) (arms : Arms) → weight (arms_parts r arms) ≡ arms_peak r arms
  arms_weight r NoArm = omega arith
  arms_weight r (AndArm arm arms) =
      let sum = weight-append (parts r arm) (arms_parts r arms) in
      let x = block_weight r arm in
      let y = arms_weight r arms in
      omega (arith, sum, x, y)

-- ---- parts that take nothing are none

none_heavier : (a b : List Part) → (weight a ≡ 0 → a ≡ []) → (weight b ≡ 0 → b ≡ []) → weight (heavier a b) ≡ 0
    → heavier a b ≡ []
none_heavier a b f g none =
    let h = weight-heavier a b in
    let x : weight a ≡ 0 = omega (arith, h, none) in
    let y : weight b ≡ 0 = omega (arith, h, none) in
    first a b (omega (arith, x, y)) ∙ f x

none_append : (a b : List Part) → (weight a ≡ 0 → a ≡ []) → (weight b ≡ 0 → b ≡ []) → weight (a ++ b) ≡ 0 → a ++ b ≡ []
none_append a b f g none =
    let h = weight-append a b in
    let x : weight a ≡ 0 = omega (arith, h, none) in
    let y : weight b ≡ 0 = omega (arith, h, none) in
    ap (λ (l : List Part). l ++ b) (f x) ∙ g y

none_hold : (line amount : ℕ) → weight (hold_part line amount) ≡ 0 → hold_part line amount ≡ []
none_hold line amount none = elim (eqb_tells amount 0) [
  | inl e ↦ rw e.0 refl
  | inr e ↦ (let w = weight-hold line amount in absurd (e.1 (omega (arith, w, none))))
]

mutual
  pub stmt_none : (r : ℕ) (s : Stmt) → weight (stmt_parts r s) ≡ 0 → stmt_parts r s ≡ []
  stmt_none r (Assign line x e) none = refl
  stmt_none r (Print line e) none = refl
  stmt_none r (If line e a b) none = none_heavier (parts r a) (parts r b) (block_none r a) (block_none r b) none
  stmt_none r (While line e body) none = block_none r body none
  stmt_none r (Hold line bundle body) none =
      none_append (hold_part line (amount_in bundle r)) (parts r body) (none_hold line (amount_in bundle r))
      (block_none r body) none
  stmt_none r (Parbegin line first arms) none = arms_none r arms none

  block_none : (r : ℕ) (block : Block) → weight (parts r block) ≡ 0 → parts r block ≡ []
  block_none r Skip none = refl
  block_none r (Then s block) none =
      none_heavier (stmt_parts r s) (parts r block) (stmt_none r s) (block_none r block) none

  arms_none : (r : ℕ) (arms : Arms) → weight (arms_parts r arms) ≡ 0 → arms_parts r arms ≡ []
  arms_none r NoArm none = refl
  arms_none r (AndArm arm arms) none =
      none_append (parts r arm) (arms_parts r arms) (block_none r arm) (arms_none r arms) none

-- ---- the first of those that take most does not depend on where one begins

pub heavier-assoc : (a b c : List Part) → heavier (heavier a b) c ≡ heavier a (heavier b c)
heavier-assoc a b c = elim (cases_lt (weight a) (weight b)) [
  | inl ab ↦ elim (cases_lt (weight b) (weight c)) [
    | inl bc ↦
        ap (λ (l : List Part). heavier l c) (second a b ab) ∙ second b c bc
        ∙ sym (ap (heavier a) (second b c bc) ∙ second a c (omega (arith, ab, bc)))
    | inr cb ↦
        ap (λ (l : List Part). heavier l c) (second a b ab) ∙ first b c cb
        ∙ sym (ap (heavier a) (first b c cb) ∙ second a b ab)
  ]
  | inr ba ↦ elim (cases_lt (weight b) (weight c)) [
    | inl bc ↦
        ap (λ (l : List Part). heavier l c) (first a b ba) ∙ sym (ap (heavier a) (second b c bc))
    | inr cb ↦
        ap (λ (l : List Part). heavier l c) (first a b ba) ∙ first a c (omega (arith, ba, cb))
        ∙ sym (ap (heavier a) (first b c cb) ∙ first a b ba)
  ]
]

-- a list of parts beside none
pub beside_none : (a : List Part) → (weight a ≡ 0 → a ≡ []) → heavier a [] ≡ heavier [] a
beside_none a f = elim (cases_lt 0 (weight a)) [
  | inl h ↦ first a [] (omega arith) ∙ sym (second [] a (omega (arith, h)))
  | inr h ↦ first a [] (omega arith) ∙ f (omega (arith, h)) ∙ sym (first [] a (omega (arith, h)))
]
