-- Generated code has a depth and holdings at each of its places.
use Rattle.std.proofs.Common.{◌≡◌, ⊎_elim, ℕ, zero, suc, ◌+◌, ◌<◌, ◌≤◌, List, [], ◌∷◌, ◌++◌, length, get_or}
use Rattle.std.proofs.Common.{Some, refl, sym, ap, ◌∙◌, subst, arith, append_assoc, length-append}
use Rattle.std.specs.Prelude.{slice_get}
use Rattle.std.proofs.lemmas.Bool.{cases_lt}
use Rattle.pb_base.specs.Steppers.{Bundle}
use Rattle.pb_names.specs.Program.{Expr, Number, Variable, Unary, Binary, Stmt, Assign, Print, If, While, Hold}
use Rattle.pb_names.specs.Program.{Parbegin, Block, Skip, Then, count, Process, arms_of}
use Rattle.pb_code.specs.Code.{Instr, Push, Load, Store, Compute1, Compute2, Jump, JumpIfZero, PrintTop, Take}
use Rattle.pb_code.specs.Code.{Give, Fork, Join, End}
use Rattle.pb_code.proofs.Chains.{get_within}
use Rattle.pb_generator.specs.Generate.{expr_code, stmt_code, block_code, arm_code, arms_code, arms_entries}
use Rattle.pb_generator.specs.Generate.{process_code}
use Rattle.pb_generator.proofs.Parts.{get_back}
use Rattle.pb_codegen.proofs.VerifiedNotedCode.{Shape, Notes, Leads, Fits, IsNoted}

abbrev pub shape : ℕ → List Bundle → Shape
shape d hs = record { depth = d; holdings = hs }

abbrev pub expr_shapes : ℕ → List Bundle → Expr → List Shape
expr_shapes d hs (Number v) = shape d hs ∷ []
expr_shapes d hs (Variable x) = shape d hs ∷ []
expr_shapes d hs (Unary op a) = expr_shapes d hs a ++ (shape (suc d) hs ∷ [])
expr_shapes d hs (Binary op a b) =
    expr_shapes d hs a ++ (expr_shapes (suc d) hs b ++ (shape (suc (suc d)) hs ∷ []))

abbrev mutual
  pub stmt_shapes : List Bundle → Stmt → List Shape
  stmt_shapes hs (Assign line x e) = expr_shapes 0 hs e ++ (shape 1 hs ∷ [])
  stmt_shapes hs (Print line e) = expr_shapes 0 hs e ++ (shape 1 hs ∷ [])
  stmt_shapes hs (If line e a b) =
      expr_shapes 0 hs e ++ (shape 1 hs ∷ (block_shapes hs a ++ (shape 0 hs ∷ block_shapes hs b)))
  stmt_shapes hs (While line e body) =
      expr_shapes 0 hs e ++ (shape 1 hs ∷ (block_shapes hs body ++ (shape 0 hs ∷ [])))
  stmt_shapes hs (Hold line bundle body) =
      shape 0 hs ∷ (block_shapes (bundle ∷ hs) body ++ (shape 0 (bundle ∷ hs) ∷ []))
  stmt_shapes hs (Parbegin line first arms) = shape 0 hs ∷ shape 0 hs ∷ []

  pub block_shapes : List Bundle → Block → List Shape
  block_shapes hs Skip = []
  block_shapes hs (Then s block) = stmt_shapes hs s ++ block_shapes hs block

abbrev pub arms_shapes : List Block → List Shape
arms_shapes [] = []
arms_shapes (arm ∷ arms) = (block_shapes [] arm ++ (shape 0 [] ∷ [])) ++ arms_shapes arms

-- a list is in another
abbrev pub In : {X : Type 0} → List X → ℕ → List X → Type 0
In xs p [] = Unit {0}
In xs p (y ∷ ys) = (slice_get xs p ≡ Some y) × In xs (p + 1) ys

pub in_front : {X : Type 0} (xs : List X) (p : ℕ) (a b : List X) → In xs p (a ++ b) → In xs p a
in_front xs p [] b h = tt
in_front xs p (i ∷ a) b h = (h.0, in_front xs (p + 1) a b h.1)

pub in_back : {X : Type 0} (xs : List X) (p : ℕ) (a b : List X) → In xs p (a ++ b) → In xs (p + length a) b
in_back xs p [] b h = let e : p ≡ p + 0 = omega arith in subst (λ n. In xs n b) e h
in_back xs p (i ∷ a) b h =
    let e : p + 1 + length a ≡ p + length (i ∷ a) = omega arith in
    subst (λ n. In xs n b) e (in_back xs (p + 1) a b h.1)

length-expr_shapes : (d : ℕ) (hs : List Bundle) (e : Expr)
    → length (expr_shapes d hs e) ≡ length (expr_code e)
length-expr_shapes d hs (Number v) = refl
length-expr_shapes d hs (Variable x) = refl
length-expr_shapes d hs (Unary op a) = let x = length-expr_shapes d hs a in omega (
  arith,
  x,
  length-append
      (expr_shapes d hs a) (shape (suc d) hs ∷ []),
  length-append (expr_code a) (Compute1 op ∷ []),
)
length-expr_shapes d hs (Binary op a b) =
    let x = length-expr_shapes d hs a in
    let y = length-expr_shapes (suc d) hs b in
    omega (
      arith,
      x,
      y,
      length-append (expr_shapes d hs a) (expr_shapes (suc d) hs b ++ (shape (suc (suc d)) hs ∷ [])),
      length-append (expr_shapes (suc d) hs b) (shape (suc (suc d)) hs ∷ []),
      length-append (expr_code a) (expr_code b ++ (Compute2 op ∷ [])),
      length-append (expr_code b) (Compute2 op ∷ []),
    )

mutual
  length-stmt_shapes : (p : ℕ) (hs : List Bundle) (s : Stmt)
      → length (stmt_shapes hs s) ≡ length (stmt_code p s)
  length-stmt_shapes p hs (Assign line x e) = omega (
    arith,
    length-expr_shapes 0 hs e,
    length-append (expr_shapes 0 hs e)
        (shape 1 hs ∷ []),
    length-append (expr_code e) (Store x ∷ []),
  )
  length-stmt_shapes p hs (Print line e) = omega (
    arith,
    length-expr_shapes 0 hs e,
    length-append (expr_shapes 0 hs e)
        (shape 1 hs ∷ []),
    length-append (expr_code e) (PrintTop ∷ []),
  )
  length-stmt_shapes p hs (If line e a b) =
      let then = p + length (expr_code e) + 1 in
      let other = then + length (block_code then a) + 1 in
      let end = other + length (block_code other b) in
      let ha = length-block_shapes then hs a in
      let hb = length-block_shapes other hs b in
      omega (
        arith,
        ha,
        hb,
        length-expr_shapes 0 hs e,
        length-append (expr_shapes 0 hs e) (shape 1 hs ∷ (block_shapes hs a ++ (shape 0 hs ∷ block_shapes hs b))),
        length-append (block_shapes hs a) (shape 0 hs ∷ block_shapes hs b),
        length-append (expr_code e) (JumpIfZero other ∷ (block_code then a ++ (Jump end ∷ block_code other b))),
        length-append (block_code then a) (Jump end ∷ block_code other b),
      )
  length-stmt_shapes p hs (While line e body) =
      let start = p + length (expr_code e) + 1 in
      let end = start + length (block_code start body) + 1 in
      let hb = length-block_shapes start hs body in
      omega (
        arith,
        hb,
        length-expr_shapes 0 hs e,
        length-append (expr_shapes 0 hs e) (shape 1 hs ∷ (block_shapes hs body ++ (shape 0 hs ∷ []))),
        length-append (block_shapes hs body) (shape 0 hs ∷ []),
        length-append (expr_code e) (JumpIfZero end ∷ (block_code start body ++ (Jump p ∷ []))),
        length-append (block_code start body) (Jump p ∷ []),
      )
  length-stmt_shapes p hs (Hold line bundle body) =
      let hb = length-block_shapes (p + 1) (bundle ∷ hs) body in
      omega (
        arith,
        hb,
        length-append (block_shapes (bundle ∷ hs) body) (shape 0 (bundle ∷ hs) ∷ []),
        length-append
            (block_code (p + 1) body) (Give bundle ∷ []),
      )
  length-stmt_shapes p hs (Parbegin line first arms) = refl

  pub length-block_shapes : (p : ℕ) (hs : List Bundle) (block : Block)
      → length (block_shapes hs block) ≡ length (block_code p block)
  length-block_shapes p hs Skip = refl
  length-block_shapes p hs (Then s block) =
      let mid = p + length (stmt_code p s) in
      let x = length-stmt_shapes p hs s in
      let y = length-block_shapes mid hs block in
      omega (arith, x, y, length-append (stmt_shapes hs s) (block_shapes hs block), length-append (stmt_code p s) (block_code mid block))

-- ---- each place fits

module _ (is : List Instr) (shapes : List Shape) where
  abbrev notes : Notes
  notes p = slice_get shapes p

  abbrev FitsAt : ℕ → Type 0
  FitsAt p =
      (i : Instr) × (d : ℕ) × (hs : List Bundle) × (slice_get is p ≡ Some i) × Leads notes p d hs
      × Fits notes i p d hs

  abbrev AllFit : ℕ → ℕ → Type 0
  AllFit from to = (p : ℕ) → from ≤ p → p < to → FitsAt p

  fit_join : (a b c : ℕ) → AllFit a b → AllFit b c → AllFit a c
  fit_join a b c f g p l u = ⊎_elim (λ v. f p l v) (λ v. g p v u) (cases_lt p b)

  fit_one : (p : ℕ) → FitsAt p → AllFit p (p + 1)
  fit_one p f q l u = let e : p ≡ q = omega arith in subst FitsAt e f

  fit_to : (a b c : ℕ) → b ≡ c → AllFit a b → AllFit a c
  fit_to a b c e f = subst (AllFit a) e f

  expr_first : (p d : ℕ) (hs : List Bundle) (e : Expr) → In shapes p (expr_shapes d hs e) → Leads notes p d hs
  expr_first p d hs (Number v) h = h.0
  expr_first p d hs (Variable x) h = h.0
  expr_first p d hs (Unary op a) h = expr_first p d hs a (in_front shapes p (expr_shapes d hs a) _ h)
  expr_first p d hs (Binary op a b) h = expr_first p d hs a (in_front shapes p (expr_shapes d hs a) _ h)

  -- the shapes after an expression's, at the place after its code
  past_expr : (p d : ℕ) (hs : List Bundle) (e : Expr) (tail : List Shape)
      → In shapes p (expr_shapes d hs e ++ tail) → In shapes (p + length (expr_code e)) tail
  past_expr p d hs e tail h = subst (λ k. In shapes (p + k) tail) (length-expr_shapes d hs e) (in_back shapes p (expr_shapes d hs e) tail h)

  expr_fit : (p d : ℕ) (hs : List Bundle) (e : Expr) → In is p (expr_code e)
      → In shapes p (expr_shapes d hs e) → Leads notes (p + length (expr_code e)) (suc d) hs
      → AllFit p (p + length (expr_code e))
  expr_fit p d hs (Number v) h s next = fit_one p (Push v, d, hs, h.0, s.0, next)
  expr_fit p d hs (Variable x) h s next = fit_one p (Load x, d, hs, h.0, s.0, next)
  expr_fit p d hs (Unary op a) h s next =
      let q = p + length (expr_code a) in
      let len : q + 1 ≡ p + length (expr_code (Unary op a)) =
      omega (arith, length-append (expr_code a) (Compute1 op ∷ [])) in
      let at = (in_back is p (expr_code a) (Compute1 op ∷ []) h).0 in
      let sh = (past_expr p d hs a (shape (suc d) hs ∷ []) s).0 in
      fit_to p (q + 1) _ len (fit_join p q (q + 1)
      (expr_fit p d hs a (in_front is p (expr_code a) _ h) (in_front shapes p (expr_shapes d hs a) _ s) sh)
      (fit_one q (Compute1 op, suc d, hs, at, sh, subst (λ k. Leads notes k (suc d) hs) (sym len) next)))
  expr_fit p d hs (Binary op a b) h s next =
      let q = p + length (expr_code a) in
      let t = q + length (expr_code b) in
      let len : t + 1 ≡ p + length (expr_code (Binary op a b)) = omega (
        arith,
        length-append (expr_code a) (expr_code
            b ++ (Compute2 op ∷ [])),
        length-append (expr_code b) (Compute2 op ∷ []),
      ) in
      let hb = in_back is p (expr_code a) (expr_code b ++ (Compute2 op ∷ [])) h in
      let sb = past_expr p d hs a (expr_shapes (suc d) hs b ++ (shape (suc (suc d)) hs ∷ [])) s in
      let sb' = in_front shapes q (expr_shapes (suc d) hs b) (shape (suc (suc d)) hs ∷ []) sb in
      let at = (in_back is q (expr_code b) (Compute2 op ∷ []) hb).0 in
      let sh = (past_expr q (suc d) hs b (shape (suc (suc d)) hs ∷ []) sb).0 in
      fit_to p (t + 1) _ len (fit_join p q (t + 1)
      (expr_fit p d hs a (in_front is p (expr_code a) _ h) (in_front shapes p (expr_shapes d hs a) _ s) (expr_first q (suc d) hs b sb'))
      (fit_join q t (t + 1) (expr_fit q (suc d) hs b (in_front is q (expr_code b) _ hb) sb' sh)
      (fit_one t (Compute2 op, suc (suc d), hs, at, sh, subst (λ k. Leads notes k (suc d) hs) (sym len) next))))

  stmt_first : (p : ℕ) (hs : List Bundle) (s : Stmt) → In shapes p (stmt_shapes hs s) → Leads notes p 0 hs
  stmt_first p hs (Assign line x e) h = expr_first p 0 hs e (in_front shapes p (expr_shapes 0 hs e) _ h)
  stmt_first p hs (Print line e) h = expr_first p 0 hs e (in_front shapes p (expr_shapes 0 hs e) _ h)
  stmt_first p hs (If line e a b) h = expr_first p 0 hs e (in_front shapes p (expr_shapes 0 hs e) _ h)
  stmt_first p hs (While line e body) h = expr_first p 0 hs e (in_front shapes p (expr_shapes 0 hs e) _ h)
  stmt_first p hs (Hold line bundle body) h = h.0
  stmt_first p hs (Parbegin line first arms) h = h.0

  block_first : (p after : ℕ) (hs : List Bundle) (block : Block) → In shapes p (block_shapes hs block)
      → p + length (block_code p block) ≡ after → Leads notes after 0 hs → Leads notes p 0 hs
  block_first p after hs Skip h e next =
      let same : p ≡ after = omega arith in subst (λ k. Leads notes k 0 hs) (sym same) next
  block_first p after hs (Then s block) h e next =
      stmt_first p hs s (in_front shapes p (stmt_shapes hs s) _ h)

  -- the shapes after a block's, at the place after its code
  past_block : (p : ℕ) (hs : List Bundle) (block : Block) (tail : List Shape)
      → In shapes p (block_shapes hs block ++ tail) → In shapes (p + length (block_code p block)) tail
  past_block p hs block tail h = subst (λ k. In shapes (p + k) tail) (length-block_shapes p hs block) (in_back shapes p (block_shapes hs block) tail h)

  mutual
    stmt_fit : (p : ℕ) (hs : List Bundle) (s : Stmt) → In is p (stmt_code p s)
        → In shapes p (stmt_shapes hs s) → Leads notes (p + length (stmt_code p s)) 0 hs
        → AllFit p (p + length (stmt_code p s))
    stmt_fit p hs (Assign line x e) h s next =
        let q = p + length (expr_code e) in
        let len : q + 1 ≡ p + length (stmt_code p (Assign line x e)) =
        omega (arith, length-append (expr_code e) (Store x ∷ [])) in
        let at = (in_back is p (expr_code e) (Store x ∷ []) h).0 in
        let sh = (past_expr p 0 hs e (shape 1 hs ∷ []) s).0 in
        fit_to p (q + 1) _ len (fit_join p q (q + 1)
        (expr_fit p 0 hs e (in_front is p (expr_code e) _ h) (in_front shapes p (expr_shapes 0 hs e) _ s) sh)
        (fit_one q (Store x, 1, hs, at, sh, subst (λ k. Leads notes k 0 hs) (sym len) next)))
    stmt_fit p hs (Print line e) h s next =
        let q = p + length (expr_code e) in
        let len : q + 1 ≡ p + length (stmt_code p (Print line e)) =
        omega (arith, length-append (expr_code e) (PrintTop ∷ [])) in
        let at = (in_back is p (expr_code e) (PrintTop ∷ []) h).0 in
        let sh = (past_expr p 0 hs e (shape 1 hs ∷ []) s).0 in
        fit_to p (q + 1) _ len (fit_join p q (q + 1)
        (expr_fit p 0 hs e (in_front is p (expr_code e) _ h) (in_front shapes p (expr_shapes 0 hs e) _ s) sh)
        (fit_one q (PrintTop, 1, hs, at, sh, subst (λ k. Leads notes k 0 hs) (sym len) next)))
    stmt_fit p hs (If line e a b) h s next =
        let q = p + length (expr_code e) in
        let then = q + 1 in
        let j = then + length (block_code then a) in
        let other = j + 1 in
        let after = other + length (block_code other b) in
        let tail = block_code then a ++ (Jump after ∷ block_code other b) in
        let stail = block_shapes hs a ++ (shape 0 hs ∷ block_shapes hs b) in
        let len : after ≡ p + length (stmt_code p (If line e a b)) = omega (
          arith,
          length-append (expr_code e)
              (JumpIfZero other ∷ tail),
          length-append (block_code then a) (Jump after ∷ block_code other b),
        ) in
        let next' : Leads notes after 0 hs = subst (λ k. Leads notes k 0 hs) (sym len) next in
        let hq = in_back is p (expr_code e) (JumpIfZero other ∷ tail) h in
        let sq = past_expr p 0 hs e (shape 1 hs ∷ stail) s in
        let hj = in_back is then (block_code then a) (Jump after ∷ block_code other b) hq.1 in
        let sj = past_block then hs a (shape 0 hs ∷ block_shapes hs b) sq.1 in
        let sa = in_front shapes then (block_shapes hs a) (shape 0 hs ∷ block_shapes hs b) sq.1 in
        fit_to p after _ len (fit_join p q after
        (expr_fit p 0 hs e (in_front is p (expr_code e) _ h) (in_front shapes p (expr_shapes 0 hs e) _ s) sq.0)
        (fit_join q then after
        (fit_one q (JumpIfZero other, 1, hs, hq.0, sq.0, (block_first other after hs b sj.1 refl next', block_first then j hs a sa refl sj.0)))
        (fit_join then j after (block_fit then hs a (in_front is then (block_code then a) _ hq.1) sa sj.0)
        (fit_join j other after (fit_one j (Jump after, 0, hs, hj.0, sj.0, next'))
        (block_fit other hs b hj.1 sj.1 next')))))
    stmt_fit p hs (While line e body) h s next =
        let q = p + length (expr_code e) in
        let start = q + 1 in
        let j = start + length (block_code start body) in
        let after = j + 1 in
        let tail = block_code start body ++ (Jump p ∷ []) in
        let len : after ≡ p + length (stmt_code p (While line e body)) = omega (
          arith,
          length-append (expr_code e)
              (JumpIfZero after ∷ tail),
          length-append (block_code start body) (Jump p ∷ []),
        ) in
        let next' : Leads notes after 0 hs = subst (λ k. Leads notes k 0 hs) (sym len) next in
        let hq = in_back is p (expr_code e) (JumpIfZero after ∷ tail) h in
        let sq = past_expr p 0 hs e (shape 1 hs ∷ (block_shapes hs body ++ (shape 0 hs ∷ []))) s in
        let hj = in_back is start (block_code start body) (Jump p ∷ []) hq.1 in
        let sj = past_block start hs body (shape 0 hs ∷ []) sq.1 in
        let sb = in_front shapes start (block_shapes hs body) (shape 0 hs ∷ []) sq.1 in
        let sp : Leads notes p 0 hs = expr_first p 0 hs e (in_front shapes p (expr_shapes 0 hs e) _ s) in
        fit_to p after _ len (fit_join p q after
        (expr_fit p 0 hs e (in_front is p (expr_code e) _ h) (in_front shapes p (expr_shapes 0 hs e) _ s) sq.0)
        (fit_join q start after
        (fit_one q (JumpIfZero after, 1, hs, hq.0, sq.0, (next', block_first start j hs body sb refl sj.0)))
        (fit_join start j after (block_fit start hs body (in_front is start (block_code start body) _ hq.1) sb sj.0)
        (fit_one j (Jump p, 0, hs, hj.0, sj.0, sp)))))
    stmt_fit p hs (Hold line bundle body) h s next =
        let start = p + 1 in
        let j = start + length (block_code start body) in
        let len : j + 1 ≡ p + length (stmt_code p (Hold line bundle body)) =
        omega (arith, length-append (block_code start body) (Give bundle ∷ [])) in
        let hj = in_back is start (block_code start body) (Give bundle ∷ []) h.1 in
        let sj = past_block start (bundle ∷ hs) body (shape 0 (bundle ∷ hs) ∷ []) s.1 in
        let sb = in_front shapes start (block_shapes (bundle ∷ hs) body) (shape 0 (bundle ∷ hs) ∷ []) s.1 in
        fit_to p (j + 1) _ len (fit_join p start (j + 1)
        (fit_one p (Take bundle, 0, hs, h.0, s.0, block_first start j (bundle ∷ hs) body sb refl sj.0))
        (fit_join start j (j + 1) (block_fit start (bundle ∷ hs) body (in_front is start (block_code start body) _ h.1) sb sj.0)
        (fit_one j (Give bundle, 0, bundle ∷ hs, hj.0, sj.0, (refl, subst (λ k. Leads notes k 0 hs) (sym len) next)))))
    stmt_fit p hs (Parbegin line first arms) h s next =
        let len : p + 1 + 1 ≡ p + 2 = omega arith in
        fit_to p (p + 1 + 1) _ len (fit_join p (p + 1) (p + 1 + 1)
        (fit_one p (Fork first (count arms), 0, hs, h.0, s.0, s.1.0))
        (fit_one (p + 1) (Join first (count arms), 0, hs, h.1.0, s.1.0, subst (λ k. Leads notes k 0 hs) (sym len) next)))

    block_fit : (p : ℕ) (hs : List Bundle) (block : Block) → In is p (block_code p block)
        → In shapes p (block_shapes hs block) → Leads notes (p + length (block_code p block)) 0 hs
        → AllFit p (p + length (block_code p block))
    block_fit p hs Skip h s next = λ q l u. elim (let w : ⊥ = omega arith in w) [ ]
    block_fit p hs (Then stmt block) h s next =
        let mid = p + length (stmt_code p stmt) in
        let len : mid + length (block_code mid block) ≡ p + length (block_code p (Then stmt block)) =
        omega (arith, length-append (stmt_code p stmt) (block_code mid block)) in
        let next' : Leads notes (mid + length (block_code mid block)) 0 hs =
        subst (λ k. Leads notes k 0 hs) (sym len) next in
        let sb : In shapes mid (block_shapes hs block) = subst (λ k. In shapes (p + k) (block_shapes hs block))
        (length-stmt_shapes p hs stmt) (in_back shapes p (stmt_shapes hs stmt) (block_shapes hs block) s) in
        fit_to p (mid + length (block_code mid block)) _ len (fit_join p mid (mid + length (block_code mid block))
        (stmt_fit p hs stmt (in_front is p (stmt_code p stmt) _ h) (in_front shapes p (stmt_shapes hs stmt) _ s) (block_first mid _ hs block sb refl next'))
        (block_fit mid hs block (in_back is p (stmt_code p stmt) (block_code mid block) h) sb next'))

  arms_fit : (p : ℕ) (arms : List Block) → In is p (arms_code p arms) → In shapes p (arms_shapes arms)
      → AllFit p (p + length (arms_code p arms)) ×
      ((a : ℕ) → a < length (arms_entries p arms) → Leads notes (get_or (arms_entries p arms) a 0) 0 [])
  arms_fit p [] h s =
      (λ q l u. elim (let w : ⊥ = omega arith in w) [ ], λ a u. elim (let w : ⊥ = omega arith in w) [ ])
  arms_fit p (arm ∷ arms) h s =
      let q = p + length (block_code p arm) in
      let next = p + length (arm_code p arm) in
      let n : q + 1 ≡ next = omega (arith, length-append (block_code p arm) (End ∷ [])) in
      let ha = in_front is p (arm_code p arm) (arms_code next arms) h in
      let sa = in_front shapes p (block_shapes [] arm ++ (shape 0 [] ∷ [])) (arms_shapes arms) s in
      let hq = in_back is p (block_code p arm) (End ∷ []) ha in
      let sq = past_block p [] arm (shape 0 [] ∷ []) sa in
      let sb = in_front shapes p (block_shapes [] arm) (shape 0 [] ∷ []) sa in
      let m : p + length (block_shapes [] arm ++ (shape 0 [] ∷ [])) ≡ next = omega (
        arith,
        length-append (block_shapes
            [] arm) (shape 0 [] ∷ []),
        length-append (block_code p arm) (End ∷ []),
        length-block_shapes p [] arm,
      ) in
      let rest = arms_fit next arms (in_back is p (arm_code p arm) (arms_code next arms) h) (subst (λ k. In shapes k
      (arms_shapes arms)) m (in_back shapes p (block_shapes [] arm ++ (shape 0 [] ∷ [])) (arms_shapes arms) s)) in
      let end : next + length (arms_code next arms) ≡ p + length (arms_code p (arm ∷ arms)) = omega (
        arith,
        length-append (arm_code p arm) (arms_code next arms),
      ) in (
        fit_to p (next + length (arms_code next arms)) _ end (fit_join p next (next + length (arms_code next arms))
            (fit_to p (q + 1) next n (fit_join p q (q + 1) (block_fit p [] arm (in_front is p (block_code p arm) _ ha)
            sb sq.0) (fit_one q (End, 0, [], hq.0, sq.0, (refl, refl)))))
            rest.0),
        elim [ zero ↦ λ u. block_first p q [] arm sb refl sq.0 | suc a ↦ λ u. rest.1 a (omega arith) ],
      )

pub in_all : {X : Type 0} (pre xs : List X) → In (pre ++ xs) (length pre) xs
in_all pre [] = tt
in_all pre (x ∷ xs) =
    let e : length pre + 0 ≡ length pre = omega arith in
    let n : length (pre ++ x ∷ []) ≡ length pre + 1 = omega (arith, length-append pre (x ∷ [])) in
    let rest = subst (λ l. In l (length (pre ++ x ∷ [])) xs) (append_assoc pre (x ∷ []) xs) (in_all (pre ++ x ∷ []) xs) in
    (ap (slice_get (pre ++ x ∷ xs)) (sym e) ∙ get_back pre (x ∷ xs) 0, subst (λ m. In (pre ++ x ∷ xs) m xs) n rest)

pub length-arms_shapes : (p : ℕ) (arms : List Block) → length (arms_shapes arms) ≡ length (arms_code p arms)
length-arms_shapes p [] = refl
length-arms_shapes p (arm ∷ arms) =
    let next = p + length (arm_code p arm) in
    let rest = length-arms_shapes next arms in
    omega (
      arith,
      rest,
      length-append (block_shapes [] arm ++ (shape 0 [] ∷ [])) (arms_shapes arms),
      length-append (block_shapes [] arm) (shape 0 [] ∷ []),
      length-append (arm_code p arm) (arms_code next arms),
      length-append (block_code p arm) (End ∷ []),
      length-block_shapes p [] arm,
    )

abbrev pub process_notes : Process → Notes
process_notes process p = slice_get (arms_shapes (arms_of process)) p

pub notes_fit : (process : Process) → IsNoted (process_code process) (process_notes process)
notes_fit process =
    let arms = arms_of process in
    let is = arms_code 0 arms in
    let shapes = arms_shapes arms in
    let fit = arms_fit is shapes 0 arms (in_all [] is) (in_all [] shapes) in
    record {
      starts = fit.1;
      flows = λ p d hs leads.
          let within = get_within shapes p _ leads in
          let f = fit.0 p (omega arith) (omega (arith, length-arms_shapes 0 arms)) in
          let same : Some (shape f.1 f.2) ≡ Some (shape d hs) = sym f.4 ∙ leads in
          let same' : shape f.1 f.2 ≡ shape d hs = cc in
          (f.0, f.3, subst (λ s. Fits (λ p. slice_get shapes p) f.0 p s.depth s.holdings) same' f.5);
    }
