-- A process's code beside its lines.
use Rattle.std.proofs.Common.{◌≡◌, ℕ, zero, suc, ◌+◌, List, [], ◌∷◌, ◌++◌, length, get_or, replicate, Option}
use Rattle.std.proofs.Common.{Some, None, refl, ap, subst, arith, length-append}
use Rattle.pb_names.specs.Program.{Stmt, Assign, Print, If, While, Hold, Parbegin, Block, Skip, Then}
use Rattle.pb_code.specs.Code.{Store, Jump, JumpIfZero, PrintTop, Give, ProcessCode}
use Rattle.pb_generator.specs.Generate.{expr_code, stmt_code, block_code}
use Rattle.pb_generator.specs.Lines.{block_line, stmt_lines, block_lines}

pub record Listing : Type 0 where
  pub code : ProcessCode
  pub open code use {integers, entries, instrs}
  pub lines : List (Option ℕ)

abbrev pub line_at : Listing → ℕ → Option ℕ
line_at listing place = get_or listing.lines place None

abbrev pub LinesAt : List (Option ℕ) → ℕ → List (Option ℕ) → Type 0
LinesAt lines place [] = Unit {0}
LinesAt lines place (line ∷ rest) = (get_or lines place None ≡ line) × LinesAt lines (place + 1) rest

pub lines_front : (lines : List (Option ℕ)) (p : ℕ) (a b : List (Option ℕ)) → LinesAt lines p (a ++ b)
    → LinesAt lines p a
lines_front lines p [] b h = tt
lines_front lines p (i ∷ a) b h = (h.0, lines_front lines (p + 1) a b h.1)

pub lines_back : (lines : List (Option ℕ)) (p : ℕ) (a b : List (Option ℕ)) → LinesAt lines p (a ++ b)
    → LinesAt lines (p + length a) b
lines_back lines p [] b h = let e : p ≡ p + 0 = omega arith in subst (λ n. LinesAt lines n b) e h
lines_back lines p (i ∷ a) b h =
    let e : p + 1 + length a ≡ p + length (i ∷ a) = omega arith in
    subst (λ n. LinesAt lines n b) e (lines_back lines (p + 1) a b h.1)

pub length-same_lines : (n : ℕ) (line : Option ℕ) → length (replicate n line) ≡ n
length-same_lines zero line = refl
length-same_lines (suc n) line = ap suc (length-same_lines n line)

mutual
  pub length-stmt_lines : (p : ℕ) (s : Stmt) (after : Option ℕ)
      → length (stmt_lines s after) ≡ length (stmt_code p s)
  length-stmt_lines p (Assign line x e) after = omega (
    arith,
    length-same_lines (suc (length (expr_code e))) (Some line),
    length-append (expr_code e) (Store x ∷ []),
  )
  length-stmt_lines p (Print line e) after = omega (
    arith,
    length-same_lines (suc (length (expr_code e))) (Some line),
    length-append (expr_code e) (PrintTop ∷ []),
  )
  length-stmt_lines p (If line e a b) after =
      let then = p + length (expr_code e) + 1 in
      let other = then + length (block_code then a) + 1 in
      let end = other + length (block_code other b) in
      let ha = length-block_lines then a after in
      let hb = length-block_lines other b after in
      omega (
        arith,
        ha,
        hb,
        length-same_lines (suc (length (expr_code e))) (Some line),
        length-append (replicate (suc (length (expr_code e))) (Some line)) (block_lines a after ++ (after ∷ block_lines b after)),
        length-append (block_lines a after) (after ∷ block_lines b after),
        length-append (expr_code e) (JumpIfZero other ∷ (block_code then a ++ (Jump end ∷ block_code other b))),
        length-append (block_code then a) (Jump end ∷ block_code other b),
      )
  length-stmt_lines p (While line e body) after =
      let start = p + length (expr_code e) + 1 in
      let end = start + length (block_code start body) + 1 in
      let hb = length-block_lines start body (Some line) in
      omega (
        arith,
        hb,
        length-same_lines (suc (length (expr_code e))) (Some line),
        length-append (replicate (suc (length (expr_code e))) (Some line)) (block_lines body (Some line) ++ (Some line ∷ [])),
        length-append (block_lines body (Some line)) (Some line ∷ []),
        length-append (expr_code e) (JumpIfZero end ∷ (block_code start body ++ (Jump p ∷ []))),
        length-append (block_code start body) (Jump p ∷ []),
      )
  length-stmt_lines p (Hold line bundle body) after =
      let hb = length-block_lines (p + 1) body (Some line) in
      omega (arith, hb, length-append (block_lines body (Some line)) (Some line ∷ []), length-append (block_code (p + 1) body) (Give bundle ∷ []))
  length-stmt_lines p (Parbegin line first arms) after = refl

  pub length-block_lines : (p : ℕ) (block : Block) (after : Option ℕ)
      → length (block_lines block after) ≡ length (block_code p block)
  length-block_lines p Skip after = refl
  length-block_lines p (Then s block) after =
      let mid = p + length (stmt_code p s) in
      let hs = length-stmt_lines p s (block_line block after) in
      let hb = length-block_lines mid block after in
      omega (
        arith,
        hs,
        hb,
        length-append (stmt_lines s (block_line block after)) (block_lines block after),
        length-append (stmt_code p s) (block_code mid block),
      )
