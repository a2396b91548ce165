-- The plain trees that a `Vec` stands for, after one more.
use Rattle.std.proofs.Common.{◌≡◌, ℕ, List, [], ◌∷◌, ◌++◌, Vec, Result, Ok, Err, map, refl, ap, ◌∙◌}
use Rattle.std.specs.Prelude.{IfOk, OnOk}
use Rattle.pb_tree.specs.declared.expr.Expr.{Expr}
use Rattle.pb_tree.specs.declared.expr.Name.{Name}
use Rattle.pb_tree.specs.declared.stmt.Demand.{Demand}
use Rattle.pb_tree.specs.declared.stmt.Stmt.{Stmt, Assign, Print, If, While, Hold, Parbegin}
use Rattle.pb_tree.specs.Syntax as tree
use Rattle.pb_tree.specs.Syntax.{NameSyntax, ExprSyntax, DemandSyntax, StmtSyntax, StmtsSyntax, ArmsSyntax, stmt_then}
use Rattle.pb_tree.specs.Syntax.{arm_then}
use Rattle.pb_tree.specs.View.{name_view, expr_view, demand_view, stmt_view, stmts_view, arm_view, arms_view}
use Rattle.pb_tree.proofs.Views.{view-Assign, view-Print, view-If, view-While, view-Hold, view-Parbegin}
use Rattle.pb_grammar.specs.Lists.{append, append_arms, single, single_arm}
use Rattle.pb_grammar.specs.StatementReader.{concat}

stmts-push : {A : Type 0} (xs : List (Stmt A)) (s : Stmt A) → stmts_view (xs ++ (s ∷ [])) ≡ append (stmts_view xs) (single (stmt_view s))
stmts-push [] s = refl
stmts-push (x ∷ xs) s = ap (stmt_then (stmt_view x)) (stmts-push xs s)

-- one more statement
pub stmts_added : {A : Type 0} (xs ys : List (Stmt A)) (s : Stmt A) (x : StmtSyntax) (before : StmtsSyntax) → ys ≡ xs ++ (s ∷ [])
    → stmt_view s ≡ x → stmts_view xs ≡ before
    → stmts_view ys ≡ append before (single x)
stmts_added xs ys s x before e is was = ap stmts_view e ∙ stmts-push xs s ∙ ap (λ y. append (stmts_view xs) (single y)) is ∙ ap (λ b. append b (single x)) was

arms-push : {A : Type 0} (xs : List (Vec (Stmt A) A)) (a : Vec (Stmt A) A)
    → arms_view (xs ++ (a ∷ [])) ≡ append_arms (arms_view xs) (single_arm (stmts_view a.items))
unfolding arm_view
arms-push [] a = refl
arms-push (x ∷ xs) a = ap (arm_then (arm_view x)) (arms-push xs a)

-- one more arm
pub arms_added : {A : Type 0} (xs ys : List (Vec (Stmt A) A)) (a : Vec (Stmt A) A) (x : StmtsSyntax) (before : ArmsSyntax)
    → ys ≡ xs ++ (a ∷ []) → stmts_view a.items ≡ x
    → arms_view xs ≡ before → arms_view ys ≡ append_arms before (single_arm x)
arms_added xs ys a x before e is was = ap arms_view e ∙ arms-push xs a ∙ ap (λ y. append_arms (arms_view xs)
    (single_arm y)) is ∙ ap (λ b. append_arms b (single_arm x)) was

items-push : {G X : Type 0} (view : G → X) (xs : List G) (x : G) → map view (xs ++ (x ∷ [])) ≡ concat (map view xs) (view x ∷ [])
items-push view [] x = refl
items-push view (y ∷ xs) x = ap (λ r. view y ∷ r) (items-push view xs x)

-- one more item of a list
pub items_added : {G X : Type 0} (view : G → X) (xs ys : List G) (g : G) (x : X) (before : List X) → ys ≡ xs ++ (g ∷ []) → view g ≡ x
    → map view xs ≡ before
    → map view ys ≡ concat before (x ∷ [])
items_added view xs ys g x before e is was = ap (map view) e ∙ items-push view xs g ∙ ap (λ y. concat (map view xs) (y
    ∷ [])) is ∙ ap (λ b. concat b (x ∷ [])) was

-- ---- a statement, seen through what was known of its parts

pub assign_seen : {A : Type 0} (line : ℕ) (target : Name A) (value : Expr A) (n : NameSyntax) (e : ExprSyntax) → name_view target ≡ n
    → expr_view value ≡ e
    → stmt_view (Assign line target value) ≡ tree.assign line n e
assign_seen line target value n e h i = view-Assign line target value ∙ rw (h, i) refl

pub print_seen : {A : Type 0} (line : ℕ) (value : Expr A) (e : ExprSyntax) → expr_view value ≡ e
    → stmt_view (Print line value) ≡ tree.print line e
print_seen line value e h = view-Print line value ∙ rw h refl

pub if_else_seen : {A : Type 0} (line : ℕ) (test : Expr A) (on_true on_false : Vec (Stmt A) A) (e : ExprSyntax) (a b : StmtsSyntax)
    → expr_view test ≡ e
    → stmts_view on_true.items ≡ a → stmts_view on_false.items ≡ b → stmt_view (If line test on_true on_false) ≡ tree.if_else line e a b
if_else_seen line test on_true on_false e a b h i j = view-If line test on_true on_false ∙ rw (h, i, j) refl

pub while_do_seen : {A : Type 0} (line : ℕ) (test : Expr A) (body : Vec (Stmt A) A) (e : ExprSyntax) (a : StmtsSyntax)
    → expr_view test ≡ e → stmts_view body.items ≡ a
    → stmt_view (While line test body) ≡ tree.while_do line e a
while_do_seen line test body e a h i = view-While line test body ∙ rw (h, i) refl

pub hold_seen : {A : Type 0} (line : ℕ) (demands : Vec (Demand A) A) (body : Vec (Stmt A) A) (ds : List DemandSyntax) (a : StmtsSyntax)
    → map demand_view demands.items ≡ ds
    → stmts_view body.items ≡ a → stmt_view (Hold line demands body) ≡ tree.hold line ds a
hold_seen line demands body ds a h i = view-Hold line demands body ∙ rw (h, i) refl

pub parbegin_seen : {A : Type 0} (line : ℕ) (arms : Vec (Vec (Stmt A) A) A) (a : ArmsSyntax) → arms_view arms.items ≡ a
    → stmt_view (Parbegin line arms) ≡ tree.parbegin line a
parbegin_seen line arms a h = view-Parbegin line arms ∙ ap (tree.parbegin line) h

-- the same, if the addition succeeded

pub stmts_put : {A N : Type 0} (r : Result (Unit {0}) N) (xs ys : List (Stmt A)) (s : Stmt A) (x : StmtSyntax)
    → OnOk r (ys ≡ xs ++ (s ∷ [])) → stmt_view s ≡ x
    → IfOk r (λ _. (before : StmtsSyntax) → stmts_view xs ≡ before → stmts_view ys ≡ append before (single x))
stmts_put (Ok u) xs ys s x pushed seen = λ before was. stmts_added xs ys s x before pushed seen was
stmts_put (Err e) xs ys s x pushed seen = tt

pub arms_put : {A N : Type 0} (r : Result (Unit {0}) N) (xs ys : List (Vec (Stmt A) A)) (a : Vec (Stmt A) A) (x : StmtsSyntax)
    → OnOk r (ys ≡ xs ++ (a ∷ [])) → stmts_view a.items ≡ x
    → IfOk r (λ _. (before : ArmsSyntax) → arms_view xs ≡ before → arms_view ys ≡ append_arms before (single_arm x))
arms_put (Ok u) xs ys a x pushed seen = λ before was. arms_added xs ys a x before pushed seen was
arms_put (Err e) xs ys a x pushed seen = tt

pub items_put : {G X N : Type 0} (view : G → X) (r : Result (Unit {0}) N) (xs ys : List G) (g : G) (x : X)
    → OnOk r (ys ≡ xs ++ (g ∷ [])) → view g ≡ x
    → IfOk r (λ _. (before : List X) → map view xs ≡ before → map view ys ≡ concat before (x ∷ []))
items_put view (Ok u) xs ys g x pushed seen = λ before was. items_added view xs ys g x before pushed seen was
items_put view (Err e) xs ys g x pushed seen = tt
