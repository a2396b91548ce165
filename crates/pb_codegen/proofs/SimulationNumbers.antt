-- The numbers of the arms inside what is left of an arm.
use Rattle.std.proofs.Common.{◌≡◌, ℕ, ◌+◌, ◌≤◌, ℤ, Bool, true, false, cond, List, [], ◌∷◌, ◌++◌, length}
use Rattle.std.proofs.Common.{sym, subst, arith, length-append}
use Rattle.pb_base.specs.Arithmetic.{is_zero}
use Rattle.pb_base.specs.Steppers.{Effect}
use Rattle.pb_names.specs.Program.{Expr, Block, Skip, Then, Stmt, Assign, Print, If, While, Hold, Parbegin}
use Rattle.pb_names.specs.Program.{count, arms_list, arms_in, arms_in_stmt, arms_in_arms}
use Rattle.pb_names.specs.Program.{IsNumbered, IsNumberedStmt, AreNumbered}
use Rattle.pb_names.specs.Source.{ExprStep, Is, Becomes, Fails, step_expr, Item}
use Rattle.pb_names.specs.Source.{GiveBack, item_of, items_of, Doing, Waiting, Ended, ArmStep}
use Rattle.pb_names.specs.Source.{Goes, Breaks, Ends, evaluate, step_items}
use Rattle.pb_names.proofs.NumberedLists.{length-arms_list}
use Rattle.pb_codegen.proofs.SimulationTrees.{OwnsBlock, OwnsItem, Owns}

owns_item : (lo hi m : ℕ) (s : Stmt) → lo ≤ m → IsNumberedStmt m s → m + length (arms_in_stmt s) ≤ hi
    → OwnsItem lo hi (item_of s)
owns_item lo hi m (Assign line x e) l n u = tt
owns_item lo hi m (Print line e) l n u = tt
owns_item lo hi m (If line e a b) l n u =
    let len = length-append (arms_in a) (arms_in b) in
    ((m, l, n.0, omega (arith, len)), (m + length (arms_in a), omega arith, n.1, omega (arith, len)))
owns_item lo hi m (While line e body) l n u = (m, l, n, u)
owns_item lo hi m (Hold line bundle body) l n u = (m, l, n, u)
owns_item lo hi m (Parbegin line first arms) l n u =
    let e : m ≡ first = sym n.0 in (
      omega arith,
      subst (λ k. AreNumbered (k + count arms) arms) e n.1,
      omega (
        arith,
        length-append (arms_list arms)
            (arms_in_arms arms),
        length-arms_list arms,
      ),
    )

owns_items : (lo hi m : ℕ) (block : Block) (rest : List Item) → lo ≤ m → IsNumbered m block
    → m + length (arms_in block) ≤ hi → Owns lo hi rest → Owns lo hi (items_of block ++ rest)
owns_items lo hi m Skip rest l n u o = o
owns_items lo hi m (Then s block) rest l n u o =
    let len = length-append (arms_in_stmt s) (arms_in block) in (
      owns_item lo hi m s l n.0 (omega (arith, len)),
      owns_items lo hi (m + length (arms_in_stmt s)) block rest (omega arith) n.1 (omega (arith, len)) o,
    )

pub owns_block : (lo hi : ℕ) (block : Block) (rest : List Item) → OwnsBlock lo hi block → Owns lo hi rest
    → Owns lo hi (items_of block ++ rest)
owns_block lo hi block rest b o = owns_items lo hi b.0 block rest b.1 b.2 b.3 o

abbrev Keeps : ℕ → ℕ → ArmStep → Type 0
Keeps lo hi (Goes vars (Doing items) effect) = Owns lo hi items
Keeps lo hi (Goes vars (Waiting line first arms rest) effect) = Unit {0}
Keeps lo hi (Goes vars Ended effect) = Unit {0}
Keeps lo hi (Breaks kind) = Unit {0}
Keeps lo hi Ends = Unit {0}

evaluate_keeps : (lo hi : ℕ) (r : ExprStep) (keep : Expr → ArmStep) (done : ℤ → ArmStep)
    → ((e : Expr) → Keeps lo hi (keep e)) → ((v : ℤ) → Keeps lo hi (done v))
    → Keeps lo hi (evaluate r keep done)
evaluate_keeps lo hi (Is v) keep done k d = d v
evaluate_keeps lo hi (Becomes e) keep done k d = k e
evaluate_keeps lo hi (Fails kind) keep done k d = tt

choice_owns : (lo hi : ℕ) (z : Bool) (a b : Block) (rest : List Item) → OwnsBlock lo hi a → OwnsBlock lo hi b
    → Owns lo hi rest → Owns lo hi (items_of (cond z b a) ++ rest)
choice_owns lo hi true a b rest oa ob o = owns_block lo hi b rest ob o
choice_owns lo hi false a b rest oa ob o = owns_block lo hi a rest oa o

loop_owns : (lo hi : ℕ) (z : Bool) (rest more : List Item) → Owns lo hi rest → Owns lo hi more
    → Owns lo hi (cond z rest more)
loop_owns lo hi true rest more r m = r
loop_owns lo hi false rest more r m = m

step_keeps : (lo hi : ℕ) (vars : List ℤ) (items : List Item) → Owns lo hi items
    → Keeps lo hi (step_items vars items)
step_keeps lo hi vars [] o = tt
step_keeps lo hi vars (Item.Assign line x e ∷ rest) o =
    evaluate_keeps lo hi (step_expr vars e) _ _ (λ e'. o) (λ v. o.1)
step_keeps lo hi vars (Item.Print line e ∷ rest) o =
    evaluate_keeps lo hi (step_expr vars e) _ _ (λ e'. o) (λ v. o.1)
step_keeps lo hi vars (Item.If line e a b ∷ rest) o =
    evaluate_keeps lo hi (step_expr vars e) _ _ (λ e'. o) (λ v. choice_owns lo hi (is_zero v) a b rest o.0.0 o.0.1 o.1)
step_keeps lo hi vars (Item.While line test e body ∷ rest) o =
    evaluate_keeps lo hi (step_expr vars e) _ _ (λ e'. o) (λ v. loop_owns lo hi (is_zero v) rest _ o.1 (owns_block lo
    hi body (Item.While line test test body ∷ rest) o.0 o))
step_keeps lo hi vars (Item.Hold line bundle body ∷ rest) o =
    owns_block lo hi body (GiveBack line bundle ∷ rest) o.0 (tt, o.1)
step_keeps lo hi vars (GiveBack line bundle ∷ rest) o = o.1
step_keeps lo hi vars (Item.Parbegin line first arms ∷ rest) o = tt

pub keeps : (lo hi : ℕ) (vars vars' : List ℤ) (items items' : List Item) (effect : Effect) → Owns lo hi items
    → step_items vars items ≡ Goes vars' (Doing items') effect → Owns lo hi items'
keeps lo hi vars vars' items items' effect o e = subst (Keeps lo hi) e (step_keeps lo hi vars items o)
