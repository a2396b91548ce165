-- What is written of expressions and statements, kind by kind.
use Rattle.std.proofs.Common.{◌≡◌, ℕ, suc, ◌+◌, List, [], ◌∷◌, ◌++◌, length, replicate, Option, Some, arith}
use Rattle.std.proofs.Common.{ap, refl, ◌∙◌, append_assoc, length-append}
use Rattle.std.proofs.lemmas.List.{replicate-append-replicate}
use Rattle.pb_base.specs.declared.operators.BinaryOp.{BinaryOp}
use Rattle.pb_base.specs.declared.operators.UnaryOp.{UnaryOp}
use Rattle.pb_base.specs.Steppers.{Bundle}
use Rattle.pb_code.specs.Code.{Instr, Compute1, Compute2, Jump, JumpIfZero, Take, Give, Fork, Join}
use Rattle.pb_generator.specs.Emitted.{place, Adds, Replaces}
use Rattle.pb_generator.specs.Generate.{expr_code, stmt_code, block_code}
use Rattle.pb_generator.specs.Lines.{stmt_lines, block_lines}
use Rattle.pb_generator.specs.declared.writer.Writer.{Writer}
use Rattle.pb_generator.proofs.Parts.{adds_then, adds_as, adds-place, place-replaced, replaced}
use Rattle.pb_names.specs.Program.{Expr, Unary, Binary, If, While, Hold, Parbegin, Block, Arms, count}

-- ---- expressions

one_more : (n line : ℕ) → replicate n (Some line) ++ Some line ∷ [] ≡ replicate (suc n) (Some line)
one_more n line =
    let e : n + 1 ≡ suc n = omega arith in
    replicate-append-replicate n 1 (Some line) ∙ ap (λ (k : ℕ). replicate k (Some line)) e

-- an expression, and an instruction that takes its value
pub adds_last : {a b c : Writer} (line : ℕ) (e : Expr) (i : Instr)
    → Adds a b (expr_code e) (replicate (length (expr_code e)) (Some line)) → Adds b c (i ∷ []) (Some line ∷ [])
    → Adds a c (expr_code e ++ i ∷ []) (replicate (suc (length (expr_code e))) (Some line))
adds_last line e i h k = adds_as (adds_then h k) refl (one_more (length (expr_code e)) line)

pub adds_unary : {a b c : Writer} (line : ℕ) (op : UnaryOp) (e : Expr) (i : Instr) → i ≡ Compute1 op
    → Adds a b (expr_code e) (replicate (length (expr_code e)) (Some line)) → Adds b c (i ∷ []) (Some line ∷ [])
    → Adds a c (expr_code (Unary op e)) (replicate (length (expr_code (Unary op e))) (Some line))
adds_unary line op e i is h k =
    let all : suc (length (expr_code e)) ≡ length (expr_code (Unary op e)) =
    omega (arith, length-append (expr_code e) (Compute1 op ∷ [])) in
    adds_as (adds_last line e i h k) (ap (λ j. expr_code e ++ j ∷ []) is) (ap (λ (n : ℕ). replicate n (Some line)) all)

pub adds_binary : {a b c d : Writer} (line : ℕ) (op : BinaryOp) (e f : Expr) (i : Instr) → i ≡ Compute2 op
    → Adds a b (expr_code e) (replicate (length (expr_code e)) (Some line))
    → Adds b c (expr_code f) (replicate (length (expr_code f)) (Some line)) → Adds c d (i ∷ []) (Some line ∷ [])
    → Adds a d (expr_code (Binary op e f)) (replicate (length (expr_code (Binary op e f))) (Some line))
adds_binary line op e f i is h k l =
    let m = length (expr_code e) in
    let n = length (expr_code f) in
    let all : m + suc n ≡ length (expr_code (Binary op e f)) =
    omega (
      arith,
      length-append (expr_code e) (expr_code f ++ Compute2 op ∷ []),
      length-append (expr_code f) (Compute2 op ∷ []),
    ) in
    adds_as (adds_then h (adds_last line f i k l)) (ap (λ j. expr_code e ++ (expr_code f ++ j ∷ [])) is)
    (replicate-append-replicate m (suc n) (Some line) ∙ ap (λ (m : ℕ). replicate m (Some line)) all)

-- ---- if

if_code : (p line : ℕ) (e : Expr) (a b : Block) (then other end : ℕ) → then ≡ p + length (expr_code e) + 1
    → other ≡ then + length (block_code then a) + 1 → end ≡ other + length (block_code other b)
    → expr_code e ++ (JumpIfZero other ∷ (block_code then a ++ (Jump end ∷ block_code other b)))
    ≡ stmt_code p (If line e a b)
if_code p line e a b then other end is_then is_other is_end =
    let then' = p + length (expr_code e) + 1 in
    let other' = then' + length (block_code then' a) + 1 in
    let end' = other' + length (block_code other' b) in
    let same : length (block_code then a) ≡ length (block_code then' a) =
    ap (λ (q : ℕ). length (block_code q a)) is_then in
    let same_other : other ≡ other' = omega (arith, same, is_then, is_other) in
    let others : length (block_code other b) ≡ length (block_code other' b) =
    ap (λ (q : ℕ). length (block_code q b)) same_other in
    let same_end : end ≡ end' = omega (arith, others, same_other, is_end) in
    ap (λ (t : ℕ). expr_code e ++ (JumpIfZero other ∷ (block_code t a ++ (Jump end ∷ block_code other b)))) is_then
    ∙ ap (λ (o : ℕ). expr_code e ++ (JumpIfZero o ∷ (block_code then' a ++ (Jump end ∷ block_code o b)))) same_other
    ∙ ap (λ (n : ℕ). expr_code e ++ (JumpIfZero other' ∷ (block_code then' a ++ (Jump n ∷ block_code other' b)))) same_end

pub adds_if : {w u v x y z o s : Writer} (line : ℕ) (e : Expr) (a b : Block) (after : Option ℕ)
    (at other at' end : ℕ)
    → Adds w u (expr_code e) (replicate (length (expr_code e)) (Some line))
    → Adds u v (JumpIfZero 0 ∷ []) (Some line ∷ [])
    → Adds v x (block_code (place v) a) (block_lines a after)
    → Adds x y (Jump 0 ∷ []) (after ∷ [])
    → Replaces y z at (JumpIfZero other)
    → Adds z o (block_code (place z) b) (block_lines b after)
    → Replaces o s at' (Jump end)
    → at ≡ place u → other ≡ place y → at' ≡ place x → end ≡ place o
    → Adds w s (stmt_code (place w) (If line e a b)) (stmt_lines (If line e a b) after)
adds_if {w} {u} {v} {x} {y} {z} {o} {s} line e a b after at other at' end h l m n r q r' is_at is_other is_at' is_end =
    let E = expr_code e in
    let A = block_code (place v) a in
    let B = block_code (place z) b in
    let L = replicate (suc (length E)) (Some line) in
    let then : place v ≡ place w + length E + 1 = omega (arith, adds-place h, adds-place l) in
    let else : place z ≡ place v + length A + 1 =
    omega (arith, adds-place m, adds-place n, place-replaced r) in
    let last : place o ≡ place z + length B = adds-place q in
    let tested : Adds w v (E ++ JumpIfZero 0 ∷ []) L = adds_last line e (JumpIfZero 0) h l in
    let first : Adds w y (E ++ (JumpIfZero 0 ∷ (A ++ Jump 0 ∷ []))) (L ++ (block_lines a after ++ after ∷ [])) =
    adds_as (adds_then tested (adds_then m n)) (append_assoc E (JumpIfZero 0 ∷ []) (A ++ Jump 0 ∷ [])) refl in
    let landed : Adds w z (E ++ (JumpIfZero other ∷ (A ++ Jump 0 ∷ []))) (L ++ (block_lines a after ++ after ∷ [])) =
    replaced E (A ++ Jump 0 ∷ []) (JumpIfZero 0) (JumpIfZero other) at first r (omega (arith, adds-place h)) in
    let both : Adds w o ((E ++ JumpIfZero other ∷ A) ++ (Jump 0 ∷ B)) (L ++ (block_lines a after ++ (after ∷ block_lines b after))) =
    adds_as (adds_then landed q) (regroup E (JumpIfZero other) A (Jump 0) B)
    (append_assoc L (block_lines a after ++ after ∷ []) (block_lines b after)
    ∙ ap (λ ls. L ++ ls) (append_assoc (block_lines a after) (after ∷ []) (block_lines b after))) in
    let front : length (E ++ JumpIfZero other ∷ A) ≡ length E + 1 + length A =
    omega (arith, length-append E (JumpIfZero other ∷ A)) in
    let whole : Adds w s ((E ++ JumpIfZero other ∷ A) ++ (Jump end ∷ B)) (L ++ (block_lines a after ++ (after ∷ block_lines b after))) =
    replaced (E ++ JumpIfZero other ∷ A) B (Jump 0) (Jump end) at' both r' (omega (arith, adds-place m, then)) in
    adds_as whole
    (append_assoc E (JumpIfZero other ∷ A) (Jump end ∷ B)
    ∙ ap (λ (k : ℕ). E ++ (JumpIfZero k ∷ (A ++ (Jump end ∷ B)))) (omega (arith, is_other, place-replaced r))
    ∙ if_code (place w) line e a b (place v) (place z) end then else (omega arith))
    refl
  where
    regroup : (E : List Instr) (i : Instr) (A : List Instr) (j : Instr) (B : List Instr)
        → (E ++ (i ∷ (A ++ j ∷ []))) ++ B ≡ (E ++ i ∷ A) ++ (j ∷ B)
    regroup E i A j B = simp append_assoc

-- ---- while

while_code : (p line : ℕ) (e : Expr) (body : Block) (start end : ℕ) → start ≡ p + length (expr_code e) + 1
    → end ≡ start + length (block_code start body) + 1
    → expr_code e ++ (JumpIfZero end ∷ (block_code start body ++ Jump p ∷ [])) ≡ stmt_code p (While line e body)
while_code p line e body start end is_start is_end =
    let start' = p + length (expr_code e) + 1 in
    let end' = start' + length (block_code start' body) + 1 in
    let same : length (block_code start body) ≡ length (block_code start' body) =
    ap (λ (q : ℕ). length (block_code q body)) is_start in
    let same_end : end ≡ end' = omega (arith, same, is_start, is_end) in
    ap (λ (s : ℕ). expr_code e ++ (JumpIfZero end ∷ (block_code s body ++ Jump p ∷ []))) is_start
    ∙ ap (λ (n : ℕ). expr_code e ++ (JumpIfZero n ∷ (block_code start' body ++ Jump p ∷ []))) same_end

pub adds_while : {w u v x y z : Writer} (line : ℕ) (e : Expr) (body : Block) (start at end : ℕ)
    → Adds w u (expr_code e) (replicate (length (expr_code e)) (Some line))
    → Adds u v (JumpIfZero 0 ∷ []) (Some line ∷ [])
    → Adds v x (block_code (place v) body) (block_lines body (Some line))
    → Adds x y (Jump start ∷ []) (Some line ∷ [])
    → Replaces y z at (JumpIfZero end)
    → start ≡ place w → at ≡ place u → end ≡ place y
    → (after : Option ℕ) → Adds w z (stmt_code (place w) (While line e body)) (stmt_lines (While line e body) after)
adds_while {w} {u} {v} {x} {y} {z} line e body start at end h l m n r is_start is_at is_end after =
    let E = expr_code e in
    let A = block_code (place v) body in
    let L = replicate (suc (length E)) (Some line) in
    let begin : place v ≡ place w + length E + 1 = omega (arith, adds-place h, adds-place l) in
    let tested : Adds w v (E ++ JumpIfZero 0 ∷ []) L = adds_last line e (JumpIfZero 0) h l in
    let looped : Adds w y (E ++ (JumpIfZero 0 ∷ (A ++ Jump start ∷ []))) (L ++ (block_lines body (Some line) ++ Some line ∷ [])) =
    adds_as (adds_then tested (adds_then m n)) (append_assoc E (JumpIfZero 0 ∷ []) (A ++ Jump start ∷ [])) refl in
    let landed : Adds w z (E ++ (JumpIfZero end ∷ (A ++ Jump start ∷ []))) (L ++ (block_lines body (Some line) ++ Some line ∷ [])) =
    replaced E (A ++ Jump start ∷ []) (JumpIfZero 0) (JumpIfZero end) at looped r (omega (arith, adds-place h)) in
    adds_as landed
    (ap (λ (s : ℕ). E ++ (JumpIfZero end ∷ (A ++ Jump s ∷ []))) is_start
    ∙ while_code (place w) line e body (place v) end begin (omega (arith, adds-place m, adds-place n)))
    refl

-- ---- hold

pub adds_hold : {w u v x : Writer} (line : ℕ) (bundle : Bundle) (body : Block) (i : Instr)
    → Adds w u (Take bundle ∷ []) (Some line ∷ [])
    → Adds u v (block_code (place u) body) (block_lines body (Some line))
    → Adds v x (i ∷ []) (Some line ∷ []) → i ≡ Give bundle
    → (after : Option ℕ) → Adds w x (stmt_code (place w) (Hold line bundle body)) (stmt_lines (Hold line bundle body) after)
adds_hold {w} {u} {v} {x} line bundle body i h k l is after =
    let start : place u ≡ place w + 1 = adds-place h in
    adds_as (adds_then h (adds_then k l))
    (ap (λ j. Take bundle ∷ (block_code (place u) body ++ j ∷ [])) is
    ∙ ap (λ (p : ℕ). Take bundle ∷ (block_code p body ++ Give bundle ∷ [])) start)
    refl

-- ---- parbegin

pub adds_parbegin : {w u v : Writer} (line first n : ℕ) (arms : Arms) → n ≡ count arms
    → Adds w u (Fork first n ∷ []) (Some line ∷ []) → Adds u v (Join first n ∷ []) (Some line ∷ [])
    → (after : Option ℕ) → Adds w v (stmt_code (place w) (Parbegin line first arms)) (stmt_lines (Parbegin line first arms) after)
adds_parbegin line first n arms is h k after =
    adds_as (adds_then h k) (ap (λ (m : ℕ). Fork first m ∷ Join first m ∷ []) is) refl
