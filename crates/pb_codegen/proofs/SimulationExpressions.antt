-- What is left of an expression, against the instructions that are left and the stack.
use Rattle.std.proofs.Common.{◌≡◌, ℕ, ◌+◌, ℤ, pos, false, List, [], ◌∷◌, ◌++◌, length, get_or, Some, Result}
use Rattle.std.proofs.Common.{Ok, Err, refl, sym, ap, ◌∙◌, subst, arith, append_assoc}
use Rattle.std.specs.Prelude.{slice_get}
use Rattle.pb_base.specs.Arithmetic.{apply, apply_unary}
use Rattle.pb_base.specs.declared.operators.FaultKind.{FaultKind}
use Rattle.pb_base.specs.declared.operators.UnaryOp.{UnaryOp}
use Rattle.pb_base.specs.declared.operators.BinaryOp.{BinaryOp}
use Rattle.pb_base.specs.Steppers.{Silent}
use Rattle.pb_names.specs.Program.{Expr, Number, Variable, Unary, Binary}
use Rattle.pb_names.specs.Source.{Becomes, Fails, from_result, step_expr}
use Rattle.pb_names.proofs.ExpressionSteps.{unary_becomes, unary_fails, left_becomes, left_fails, right_becomes}
use Rattle.pb_names.proofs.ExpressionSteps.{right_fails}
use Rattle.pb_code.specs.Code.{Instr, Push, Load, Compute1, Compute2, Live, Runs, Traps, with_result, act}
use Rattle.pb_code.specs.Shadows.{is_skip}
use Rattle.pb_generator.specs.Generate.{expr_code}

-- the instructions are in the code at this place
abbrev pub HasAt : List Instr → ℕ → List Instr → Type 0
HasAt is place [] = Unit {0}
HasAt is place (i ∷ rest) = (slice_get is place ≡ Some i) × HasAt is (place + 1) rest

pub has_front : (is : List Instr) (p : ℕ) (a b : List Instr) → HasAt is p (a ++ b) → HasAt is p a
has_front is p [] b h = tt
has_front is p (i ∷ a) b h = (h.0, has_front is (p + 1) a b h.1)

pub has_back : (is : List Instr) (p : ℕ) (a b : List Instr) → HasAt is p (a ++ b) → HasAt is (p + length a) b
has_back is p [] b h = let e : p ≡ p + 0 = omega arith in subst (λ n. HasAt is n b) e h
has_back is p (i ∷ a) b h =
    let e : p + 1 + length a ≡ p + length (i ∷ a) = omega arith in
    subst (λ n. HasAt is n b) e (has_back is (p + 1) a b h.1)

-- what is left of an expression, the instructions that are left for it, and its part of the stack
pub data Left : Expr → List Instr → List ℤ → Type 0 where
  unpushed : (v : ℤ) → Left (Number v) (Push v ∷ []) []
  pushed : (v : ℤ) → Left (Number v) [] (v ∷ [])
  unloaded : (x : ℕ) → Left (Variable x) (Load x ∷ []) []
  under : (op : UnaryOp) (a : Expr) (code : List Instr) (stack : List ℤ) → Left a code stack
      → Left (Unary op a) (code ++ Compute1 op ∷ []) stack
  on_left : (op : BinaryOp) (a b : Expr) (code : List Instr) (stack : List ℤ) → Left a code stack
      → Left (Binary op a b) (code ++ (expr_code b ++ Compute2 op ∷ [])) stack
  on_right : (op : BinaryOp) (v : ℤ) (b : Expr) (code : List Instr) (stack : List ℤ) → Left b code stack
      → Left (Binary op (Number v) b) (code ++ Compute2 op ∷ []) (stack ++ v ∷ [])

pub whole : (e : Expr) → Left e (expr_code e) []
whole (Number v) = unpushed v
whole (Variable x) = unloaded x
whole (Unary op a) = under op a (expr_code a) [] (whole a)
whole (Binary op a b) = on_left op a b (expr_code a) [] (whole a)

-- what the next instruction does, and what the source's next step does
pub data Progress (vars : List ℤ) (e : Expr) (code : List Instr) (stack : List ℤ) : Type 0 where
  finished : (v : ℤ) → e ≡ Number v → code ≡ [] → stack ≡ v ∷ [] → Progress vars e code stack
  pushes : (v : ℤ) (rest : List Instr) → code ≡ Push v ∷ rest → Left e rest (v ∷ stack)
      → Progress vars e code stack
  works : (i : Instr) (rest : List Instr) (e' : Expr) (stack' : List ℤ) → code ≡ i ∷ rest → is_skip i ≡ false →
      step_expr vars e ≡ Becomes e' → ((p : ℕ) (below : List ℤ) → act vars i p (stack ++ below) ≡ Some (Runs vars
      (Live (p + 1) (stack' ++ below)) Silent)) → Left e' rest stack' → Progress vars e code stack
  traps : (i : Instr) (rest : List Instr) (kind : FaultKind) → code ≡ i ∷ rest → is_skip i ≡ false
      → step_expr vars e ≡ Fails kind
      → ((p : ℕ) (below : List ℤ) → act vars i p (stack ++ below) ≡ Some (Traps kind))
      → Progress vars e code stack

-- ---- progress

-- the operator itself, on operands that are numbers
operates : (vars : List ℤ) (e : Expr) (i : Instr) (stack : List ℤ) (r : Result ℤ FaultKind) → is_skip i ≡ false →
    step_expr vars e ≡ from_result r → ((p : ℕ) (below : List ℤ) → act vars i p (stack ++ below) ≡ Some (with_result r
    (λ v. Runs vars (Live (p + 1) (v ∷ below)) Silent))) → Progress vars e (i ∷ []) stack
operates vars e i stack (Ok v) skip step acts = works i [] (Number v) (v ∷ []) refl skip step acts (pushed v)
operates vars e i stack (Err kind) skip step acts = traps i [] kind refl skip step acts

under_progress : (vars : List ℤ) (op : UnaryOp) (a : Expr) (code : List Instr) (stack : List ℤ)
    → Progress vars a code stack → Progress vars (Unary op a) (code ++ Compute1 op ∷ []) stack
under_progress vars op a code stack (finished v e c s) =
    subst (λ a. Progress vars (Unary op a) (code ++ Compute1 op ∷ []) stack) (sym e)
    (subst (λ c. Progress vars (Unary op (Number v)) (c ++ Compute1 op ∷ []) stack) (sym c)
    (subst (λ s. Progress vars (Unary op (Number v)) (Compute1 op ∷ []) s) (sym s)
    (operates vars (Unary op (Number v)) (Compute1 op) (v ∷ []) (apply_unary op v) refl refl (λ p below. refl))))
under_progress vars op a code stack (pushes v rest c l) =
    pushes v (rest ++ Compute1 op ∷ []) (ap (λ c. c ++ Compute1 op ∷ []) c) (under op a rest (v ∷ stack) l)
under_progress vars op a code stack (works i rest a' stack' c skip step acts l) =
    works i (rest ++ Compute1 op ∷ []) (Unary op a') stack' (ap (λ c. c ++ Compute1 op ∷ []) c) skip (unary_becomes
    vars op a a' step) acts (under op a' rest stack' l)
under_progress vars op a code stack (traps i rest kind c skip step acts) =
    traps i (rest ++ Compute1 op ∷ []) kind (ap (λ c. c ++ Compute1 op ∷ []) c) skip (unary_fails vars op a kind step) acts

right_progress : (vars : List ℤ) (op : BinaryOp) (v : ℤ) (b : Expr) (code : List Instr) (stack : List ℤ)
    → Progress vars b code stack
    → Progress vars (Binary op (Number v) b) (code ++ Compute2 op ∷ []) (stack ++ v ∷ [])
right_progress vars op v b code stack (finished w e c s) =
    subst (λ b. Progress vars (Binary op (Number v) b) (code ++ Compute2 op ∷ []) (stack ++ v ∷ [])) (sym e)
    (subst (λ c. Progress vars (Binary op (Number v) (Number w)) (c ++ Compute2 op ∷ []) (stack ++ v ∷ [])) (sym c)
    (subst (λ s. Progress vars (Binary op (Number v) (Number w)) (Compute2 op ∷ []) (s ++ v ∷ [])) (sym s)
    (operates vars (Binary op (Number v) (Number w)) (Compute2 op) (w ∷ v ∷ []) (apply op v w) refl refl (λ p below. refl))))
right_progress vars op v b code stack (pushes w rest c l) =
    pushes w (rest ++ Compute2 op ∷ []) (ap (λ c. c ++ Compute2 op ∷ []) c) (on_right op v b rest (w ∷ stack) l)
right_progress vars op v b code stack (works i rest b' stack' c skip step acts l) =
    works i (rest ++ Compute2 op ∷ []) (Binary op (Number v) b') (stack' ++ v ∷ []) (ap (λ c. c ++ Compute2 op ∷ []) c) skip (right_becomes vars op v b b' step)
    (λ p below. ap (act vars i p) (append_assoc stack (v ∷ []) below) ∙ acts p (v ∷ below) ∙ ap (λ s. Some (Runs vars
    (Live (p + 1) s) Silent)) (sym (append_assoc stack' (v ∷ []) below)))
    (on_right op v b' rest stack' l)
right_progress vars op v b code stack (traps i rest kind c skip step acts) =
    traps i (rest ++ Compute2 op ∷ []) kind (ap (λ c. c ++ Compute2 op ∷ []) c) skip (right_fails vars op v b kind step)
    (λ p below. ap (act vars i p) (append_assoc stack (v ∷ []) below) ∙ acts p (v ∷ below))

left_progress : (vars : List ℤ) (op : BinaryOp) (a b : Expr) (code : List Instr) (stack : List ℤ)
    → Progress vars b (expr_code b) [] → Progress vars a code stack
    → Progress vars (Binary op a b) (code ++ (expr_code b ++ Compute2 op ∷ [])) stack
left_progress vars op a b code stack q (finished v e c s) =
    subst (λ a. Progress vars (Binary op a b) (code ++ (expr_code b ++ Compute2 op ∷ [])) stack) (sym e)
    (subst (λ c. Progress vars (Binary op (Number v) b) (c ++ (expr_code b ++ Compute2 op ∷ [])) stack) (sym c)
    (subst (λ s. Progress vars (Binary op (Number v) b) (expr_code b ++ Compute2 op ∷ []) s) (sym s)
    (right_progress vars op v b (expr_code b) [] q)))
left_progress vars op a b code stack q (pushes v rest c l) =
    let tail = expr_code b ++ Compute2 op ∷ [] in
    pushes v (rest ++ tail) (ap (λ c. c ++ tail) c) (on_left op a b rest (v ∷ stack) l)
left_progress vars op a b code stack q (works i rest a' stack' c skip step acts l) =
    let tail = expr_code b ++ Compute2 op ∷ [] in
    works i (rest ++ tail) (Binary op a' b) stack' (ap (λ c. c ++ tail) c) skip (left_becomes vars op a a' b step) acts (on_left op a' b rest stack' l)
left_progress vars op a b code stack q (traps i rest kind c skip step acts) =
    let tail = expr_code b ++ Compute2 op ∷ [] in
    traps i (rest ++ tail) kind (ap (λ c. c ++ tail) c) skip (left_fails vars op a b kind step) acts

loads : (vars : List ℤ) (x : ℕ) → Progress vars (Variable x) (Load x ∷ []) []
loads vars x = works (Load x) [] (Number (get_or vars x (pos 0))) (get_or vars x (pos 0) ∷ []) refl refl refl (λ p below. refl) (pushed (get_or vars x (pos 0)))

whole_progress : (vars : List ℤ) (e : Expr) → Progress vars e (expr_code e) []
whole_progress vars (Number v) = pushes v [] refl (pushed v)
whole_progress vars (Variable x) = loads vars x
whole_progress vars (Unary op a) = under_progress vars op a (expr_code a) [] (whole_progress vars a)
whole_progress vars (Binary op a b) =
    left_progress vars op a b (expr_code a) [] (whole_progress vars b) (whole_progress vars a)

pub progress : (vars : List ℤ) (e : Expr) (code : List Instr) (stack : List ℤ) → Left e code stack
    → Progress vars e code stack
progress vars e code stack (unpushed v) = pushes v [] refl (pushed v)
progress vars e code stack (pushed v) = finished v refl refl refl
progress vars e code stack (unloaded x) = loads vars x
progress vars e code stack (under op a code' stack' l) =
    under_progress vars op a code' stack' (progress vars a code' stack' l)
progress vars e code stack (on_left op a b code' stack' l) =
    left_progress vars op a b code' stack' (whole_progress vars b) (progress vars a code' stack' l)
progress vars e code stack (on_right op v b code' stack' l) =
    right_progress vars op v b code' stack' (progress vars b code' stack' l)
