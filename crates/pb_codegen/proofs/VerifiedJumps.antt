-- No jump of generated code leaves its arm, or goes to a join.
use Rattle.std.proofs.Common.{◌≡◌, inl, inr, ⊎_elim, ℕ, ◌+◌, ◌<◌, ◌≤◌, List, [], ◌∷◌, ◌++◌, length, Some}
use Rattle.std.proofs.Common.{refl, sym, ◌∙◌, subst, arith, length-append}
use Rattle.std.specs.Prelude.{slice_get}
use Rattle.pb_names.specs.Program.{Expr, Number, Variable, Unary, Binary, Stmt, Assign, Print, If, While, Hold}
use Rattle.pb_names.specs.Program.{Parbegin, Block, Skip, Then, count}
use Rattle.pb_code.specs.Code.{Instr, Push, Load, Store, Compute1, Compute2, Jump, JumpIfZero, PrintTop, Take}
use Rattle.pb_code.specs.Code.{Give, Fork, Join, End}
use Rattle.pb_verifier.specs.Places.{JumpsTo}
use Rattle.pb_generator.specs.Generate.{expr_code, stmt_code, block_code, arm_code}
use Rattle.pb_codegen.proofs.VerifiedNotes.{In, in_front, in_back}
use Rattle.pb_codegen.proofs.VerifiedInstructions.{EachInstr, each_instr-append}

module _ (is : List Instr) where
  -- no join is at a place
  abbrev pub IsNoJoin : ℕ → Type 0
  IsNoJoin place = (first n : ℕ) → slice_get is place ≡ Some (Join first n) → ⊥

  -- another instruction is there
  other_there : (i : Instr) (place : ℕ) → ((first n : ℕ) → i ≡ Join first n → ⊥) → slice_get is place ≡ Some i
      → IsNoJoin place
  other_there i place other at first n join =
      let e : Some i ≡ Some (Join first n) = sym at ∙ join in
      let e' : i ≡ Join first n = cc in
      other first n e'

  expr_begins : (p : ℕ) (e : Expr) → In is p (expr_code e) → IsNoJoin p
  expr_begins p (Number v) h = other_there (Push v) p (λ f n e. cc) h.0
  expr_begins p (Variable x) h = other_there (Load x) p (λ f n e. cc) h.0
  expr_begins p (Unary op a) h = expr_begins p a (in_front is p (expr_code a) (Compute1 op ∷ []) h)
  expr_begins p (Binary op a b) h =
      expr_begins p a (in_front is p (expr_code a) (expr_code b ++ (Compute2 op ∷ [])) h)

  stmt_begins : (p : ℕ) (s : Stmt) → In is p (stmt_code p s) → IsNoJoin p
  stmt_begins p (Assign line x e) h = expr_begins p e (in_front is p (expr_code e) _ h)
  stmt_begins p (Print line e) h = expr_begins p e (in_front is p (expr_code e) _ h)
  stmt_begins p (If line e a b) h = expr_begins p e (in_front is p (expr_code e) _ h)
  stmt_begins p (While line e body) h = expr_begins p e (in_front is p (expr_code e) _ h)
  stmt_begins p (Hold line bundle body) h = other_there (Take bundle) p (λ f n e. cc) h.0
  stmt_begins p (Parbegin line first arms) h = other_there (Fork first (count arms)) p (λ f n e. cc) h.0

  block_begins : (p after : ℕ) (block : Block) → In is p (block_code p block)
      → p + length (block_code p block) ≡ after → IsNoJoin after → IsNoJoin p
  block_begins p after Skip h e next =
      let same : p ≡ after = omega arith in subst IsNoJoin (sym same) next
  block_begins p after (Then s block) h e next = stmt_begins p s (in_front is p (stmt_code p s) _ h)

  module _ (lo hi : ℕ) where
    abbrev pub IsTarget : ℕ → Type 0
    IsTarget target = (lo ≤ target) × (target < hi) × IsNoJoin target

    -- where the instruction may jump to
    abbrev pub JumpsWell : Instr → Type 0
    JumpsWell i = (target : ℕ) → JumpsTo i target → IsTarget target

    jump : (t : ℕ) → IsTarget t → JumpsWell (Jump t)
    jump t h target (inl e) = let same : t ≡ target = cc in subst IsTarget same h
    jump t h target (inr e) = cc

    test : (t : ℕ) → IsTarget t → JumpsWell (JumpIfZero t)
    test t h target (inl e) = cc
    test t h target (inr e) = let same : t ≡ target = cc in subst IsTarget same h

    expr_jumps : (e : Expr) → EachInstr JumpsWell (expr_code e)
    expr_jumps (Number v) = (λ t j. ⊎_elim (λ x. cc) (λ x. cc) j, tt)
    expr_jumps (Variable x) = (λ t j. ⊎_elim (λ x. cc) (λ x. cc) j, tt)
    expr_jumps (Unary op a) =
        each_instr-append JumpsWell (expr_code a) (Compute1 op ∷ []) (expr_jumps a)
        (λ t j. ⊎_elim (λ x. cc) (λ x. cc) j, tt)
    expr_jumps (Binary op a b) =
        each_instr-append JumpsWell (expr_code a) (expr_code b ++ (Compute2 op ∷ [])) (expr_jumps a)
        (each_instr-append JumpsWell (expr_code b) (Compute2 op ∷ []) (expr_jumps b)
        (λ t j. ⊎_elim (λ x. cc) (λ x. cc) j, tt))

    mutual
      stmt_jumps : (p : ℕ) (s : Stmt) → lo ≤ p → p + length (stmt_code p s) < hi → In is p (stmt_code p s)
          → IsNoJoin (p + length (stmt_code p s)) → EachInstr JumpsWell (stmt_code p s)
      stmt_jumps p (Assign line x e) l u h next =
          each_instr-append JumpsWell (expr_code e) (Store x ∷ []) (expr_jumps e)
          (λ t j. ⊎_elim (λ x. cc) (λ x. cc) j, tt)
      stmt_jumps p (Print line e) l u h next =
          each_instr-append JumpsWell (expr_code e) (PrintTop ∷ []) (expr_jumps e)
          (λ t j. ⊎_elim (λ x. cc) (λ x. cc) j, tt)
      stmt_jumps p (If line e a b) l u h next =
          let q = p + length (expr_code e) in
          let then = q + 1 in
          let j = then + length (block_code then a) in
          let other = j + 1 in
          let after = other + length (block_code other b) in
          let tail = block_code then a ++ (Jump after ∷ block_code other b) in
          let m = length-append (expr_code e) (JumpIfZero other ∷ tail) in
          let n = length-append (block_code then a) (Jump after ∷ block_code other b) in
          let end : p + length (stmt_code p (If line e a b)) ≡ after = omega (arith, m, n) in
          let next' : IsNoJoin after = subst IsNoJoin end next in
          let hq = in_back is p (expr_code e) (JumpIfZero other ∷ tail) h in
          let hj = in_back is then (block_code then a) (Jump after ∷ block_code other b) hq.1 in
          let ha = in_front is then (block_code then a) (Jump after ∷ block_code other b) hq.1 in
          each_instr-append JumpsWell (expr_code e) (JumpIfZero other ∷ tail) (expr_jumps e) (
            test other (omega (arith, l), omega (arith, u, end), block_begins other after b hj.1 refl next'),
            each_instr-append JumpsWell (block_code then a) (Jump after ∷ block_code other b)
                (block_jumps then a (omega (arith, l)) (omega (arith, u, end)) ha
                (other_there (Jump after) j (λ f n e. cc) hj.0)) (
                  jump after (omega (arith, l), omega (arith, u, end), next'),
                  block_jumps other b (omega (arith, l)) (omega (arith, u, end)) hj.1 next',
                ),
          )
      stmt_jumps p (While line e body) l u h next =
          let q = p + length (expr_code e) in
          let start = q + 1 in
          let j = start + length (block_code start body) in
          let after = j + 1 in
          let tail = block_code start body ++ (Jump p ∷ []) in
          let m = length-append (expr_code e) (JumpIfZero after ∷ tail) in
          let n = length-append (block_code start body) (Jump p ∷ []) in
          let end : p + length (stmt_code p (While line e body)) ≡ after = omega (arith, m, n) in
          let hq = in_back is p (expr_code e) (JumpIfZero after ∷ tail) h in
          let hj = in_back is start (block_code start body) (Jump p ∷ []) hq.1 in
          let hb = in_front is start (block_code start body) (Jump p ∷ []) hq.1 in
          each_instr-append JumpsWell (expr_code e) (JumpIfZero after ∷ tail) (expr_jumps e) (
            test after (omega (arith, l), omega (arith, u, end), subst IsNoJoin end next),
            each_instr-append JumpsWell (block_code start body) (Jump p ∷ [])
                (block_jumps start body (omega (arith, l)) (omega (arith, u, end)) hb
                (other_there (Jump p) j (λ f n e. cc) hj.0))
                (jump p (l, omega (arith, u, end), expr_begins p e (in_front is p (expr_code e) _ h)), tt),
          )
      stmt_jumps p (Hold line bundle body) l u h next =
          let j = p + 1 + length (block_code (p + 1) body) in
          let n = length-append (block_code (p + 1) body) (Give bundle ∷ []) in
          let hj = in_back is (p + 1) (block_code (p + 1) body) (Give bundle ∷ []) h.1 in
          let hb = in_front is (p + 1) (block_code (p + 1) body) (Give bundle ∷ []) h.1 in (
            λ t j. ⊎_elim (λ x. cc) (λ x. cc) j,
            each_instr-append JumpsWell (block_code (p + 1) body) (Give bundle ∷ [])
                (block_jumps (p + 1) body (omega (arith, l)) (omega (arith, u, n)) hb
                (other_there (Give bundle) j (λ f n e. cc) hj.0))
                (λ t j. ⊎_elim (λ x. cc) (λ x. cc) j, tt),
          )
      stmt_jumps p (Parbegin line first arms) l u h next =
          (λ t j. ⊎_elim (λ x. cc) (λ x. cc) j, (λ t j. ⊎_elim (λ x. cc) (λ x. cc) j, tt))

      block_jumps : (p : ℕ) (block : Block) → lo ≤ p → p + length (block_code p block) < hi
          → In is p (block_code p block) → IsNoJoin (p + length (block_code p block))
          → EachInstr JumpsWell (block_code p block)
      block_jumps p Skip l u h next = tt
      block_jumps p (Then s block) l u h next =
          let mid = p + length (stmt_code p s) in
          let n = length-append (stmt_code p s) (block_code mid block) in
          let end : p + length (block_code p (Then s block)) ≡ mid + length (block_code mid block) =
          omega (arith, n) in
          let next' : IsNoJoin (mid + length (block_code mid block)) = subst IsNoJoin end next in
          let hs = in_front is p (stmt_code p s) (block_code mid block) h in
          let hb = in_back is p (stmt_code p s) (block_code mid block) h in
          each_instr-append JumpsWell (stmt_code p s) (block_code mid block)
          (stmt_jumps p s l (omega (arith, u, end)) hs (block_begins mid _ block hb refl next'))
          (block_jumps mid block (omega (arith, l)) (omega (arith, u, end)) hb next')

  pub arm_jumps : (p : ℕ) (arm : Block) → In is p (arm_code p arm)
      → EachInstr (JumpsWell p (p + length (arm_code p arm))) (arm_code p arm)
  arm_jumps p arm h =
      let lo = p in
      let hi = p + length (arm_code p arm) in
      let n = length-append (block_code p arm) (End ∷ []) in
      let he = in_back is p (block_code p arm) (End ∷ []) h in
      let hb = in_front is p (block_code p arm) (End ∷ []) h in
      each_instr-append (JumpsWell lo hi) (block_code p arm) (End ∷ [])
      (block_jumps lo hi p arm (omega arith) (omega (arith, n)) hb
      (other_there End (p + length (block_code p arm)) (λ f n e. cc) he.0))
      (λ t j. ⊎_elim (λ x. cc) (λ x. cc) j, tt)
