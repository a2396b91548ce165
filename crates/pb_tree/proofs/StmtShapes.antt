-- Which kind of statement a statement is, with its view.
use Rattle.std.proofs.Common.{◌≡◌, ℕ, List, Vec, map, ap, sym, ◌∙◌}
use Rattle.pb_tree.specs.Syntax.{NameSyntax, ExprSyntax, DemandSyntax, StmtSyntax, StmtsSyntax, ArmsSyntax}
use Rattle.pb_tree.specs.Syntax.{assign, print, if_else, while_do, hold, parbegin, stmt_line}
use Rattle.pb_tree.specs.View.{name_view, expr_view, demand_view, stmt_view, stmts_view, arms_view}
use Rattle.pb_tree.specs.declared.expr.Name.{Name}
use Rattle.pb_tree.specs.declared.expr.Expr.{Expr}
use Rattle.pb_tree.specs.declared.stmt.Demand.{Demand}
use Rattle.pb_tree.specs.declared.stmt.Stmt.{Stmt, Assign, Print, If, While, Hold, Parbegin, out-Stmt, roll-Stmt}
use Rattle.pb_tree.specs.declared.stmt.Stmt.{roll-out-Stmt}
use Rattle.pb_tree.specs.declared.stmt.Stmt.TheOpen.{Stmt-F}
use Rattle.pb_tree.specs.declared.stmt.Stmt.TheVariants.{rolls-Assign, rolls-Print, rolls-If, rolls-While}
use Rattle.pb_tree.specs.declared.stmt.Stmt.TheVariants.{rolls-Hold, rolls-Parbegin}
use Rattle.pb_tree.proofs.Views.{view-Assign, view-Print, view-If, view-While, view-Hold, view-Parbegin}

pub data StmtShape {A : Type 0} (s : Stmt A) : Type 0 where
  is_Assign : (line : ℕ) (x : Name A) (e : Expr A)
      → s ≡ Assign line x e → stmt_view s ≡ assign line (name_view x) (expr_view e) → StmtShape s
  is_Print : (line : ℕ) (e : Expr A)
      → s ≡ Print line e → stmt_view s ≡ print line (expr_view e) → StmtShape s
  is_If : (line : ℕ) (e : Expr A) (a b : Vec (Stmt A) A)
      → s ≡ If line e a b
      → stmt_view s ≡ if_else line (expr_view e) (stmts_view a.items) (stmts_view b.items) → StmtShape s
  is_While : (line : ℕ) (e : Expr A) (a : Vec (Stmt A) A)
      → s ≡ While line e a → stmt_view s ≡ while_do line (expr_view e) (stmts_view a.items) → StmtShape s
  is_Hold : (line : ℕ) (ds : Vec (Demand A) A) (a : Vec (Stmt A) A)
      → s ≡ Hold line ds a
      → stmt_view s ≡ hold line (map demand_view ds.items) (stmts_view a.items) → StmtShape s
  is_Parbegin : (line : ℕ) (arms : Vec (Vec (Stmt A) A) A)
      → s ≡ Parbegin line arms → stmt_view s ≡ parbegin line (arms_view arms.items) → StmtShape s

stmt_shape_of : {A : Type 0} (layer : Stmt-F A (Stmt A)) (s : Stmt A) → s ≡ roll-Stmt A layer → StmtShape s
stmt_shape_of {A} (Stmt-F.Assign line x e) s is =
    let here = is ∙ rolls-Assign line x e in
    is_Assign line x e here (ap stmt_view here ∙ view-Assign line x e)
stmt_shape_of {A} (Stmt-F.Print line e) s is =
    let here = is ∙ rolls-Print line e in
    is_Print line e here (ap stmt_view here ∙ view-Print line e)
stmt_shape_of {A} (Stmt-F.If line e a b) s is =
    let here = is ∙ rolls-If line e a b in
    is_If line e a b here (ap stmt_view here ∙ view-If line e a b)
stmt_shape_of {A} (Stmt-F.While line e a) s is =
    let here = is ∙ rolls-While line e a in
    is_While line e a here (ap stmt_view here ∙ view-While line e a)
stmt_shape_of {A} (Stmt-F.Hold line ds a) s is =
    let here = is ∙ rolls-Hold line ds a in
    is_Hold line ds a here (ap stmt_view here ∙ view-Hold line ds a)
stmt_shape_of {A} (Stmt-F.Parbegin line arms) s is =
    let here = is ∙ rolls-Parbegin line arms in
    is_Parbegin line arms here (ap stmt_view here ∙ view-Parbegin line arms)

stmt_shape : {A : Type 0} (s : Stmt A) → StmtShape s
stmt_shape {A} s = stmt_shape_of (out-Stmt A s) s (sym (roll-out-Stmt A s))

-- A statement that has the view of an assignment is one, and so on.

not_Assign : {A : Type 0} {s : Stmt A} (line : ℕ) (x : NameSyntax) (e : ExprSyntax) → StmtShape s → stmt_view s ≡ assign line x e
    → ((l : ℕ) (y : Name A) (f : Expr A) → s ≡ Assign l y f → ⊥) → ⊥
not_Assign line x e (is_Assign l y f is view) h never = never l y f is
not_Assign line x e (is_Print l f is view) h never = cc
not_Assign line x e (is_If l f c d is view) h never = cc
not_Assign line x e (is_While l f c is view) h never = cc
not_Assign line x e (is_Hold l fs c is view) h never = cc
not_Assign line x e (is_Parbegin l c is view) h never = cc

pub only_Assign : {A : Type 0} (s : Stmt A) (line : ℕ) (x : NameSyntax) (e : ExprSyntax) → stmt_view s ≡ assign line x e
    → ((l : ℕ) (y : Name A) (f : Expr A) → s ≡ Assign l y f → ⊥) → ⊥
only_Assign s line x e = not_Assign line x e (stmt_shape s)

not_Print : {A : Type 0} {s : Stmt A} (line : ℕ) (e : ExprSyntax) → StmtShape s → stmt_view s ≡ print line e
    → ((l : ℕ) (f : Expr A) → s ≡ Print l f → ⊥) → ⊥
not_Print line e (is_Assign l y f is view) h never = cc
not_Print line e (is_Print l f is view) h never = never l f is
not_Print line e (is_If l f c d is view) h never = cc
not_Print line e (is_While l f c is view) h never = cc
not_Print line e (is_Hold l fs c is view) h never = cc
not_Print line e (is_Parbegin l c is view) h never = cc

pub only_Print : {A : Type 0} (s : Stmt A) (line : ℕ) (e : ExprSyntax) → stmt_view s ≡ print line e
    → ((l : ℕ) (f : Expr A) → s ≡ Print l f → ⊥) → ⊥
only_Print s line e = not_Print line e (stmt_shape s)

not_If : {A : Type 0} {s : Stmt A} (line : ℕ) (e : ExprSyntax) (a b : StmtsSyntax) → StmtShape s → stmt_view s ≡ if_else line e a b
    → ((l : ℕ) (f : Expr A) (c d : Vec (Stmt A) A) → s ≡ If l f c d → ⊥) → ⊥
not_If line e a b (is_Assign l y f is view) h never = cc
not_If line e a b (is_Print l f is view) h never = cc
not_If line e a b (is_If l f c d is view) h never = never l f c d is
not_If line e a b (is_While l f c is view) h never = cc
not_If line e a b (is_Hold l fs c is view) h never = cc
not_If line e a b (is_Parbegin l c is view) h never = cc

pub only_If : {A : Type 0} (s : Stmt A) (line : ℕ) (e : ExprSyntax) (a b : StmtsSyntax) → stmt_view s ≡ if_else line e a b
    → ((l : ℕ) (f : Expr A) (c d : Vec (Stmt A) A) → s ≡ If l f c d → ⊥) → ⊥
only_If s line e a b = not_If line e a b (stmt_shape s)

not_While : {A : Type 0} {s : Stmt A} (line : ℕ) (e : ExprSyntax) (a : StmtsSyntax) → StmtShape s → stmt_view s ≡ while_do line e a
    → ((l : ℕ) (f : Expr A) (c : Vec (Stmt A) A) → s ≡ While l f c → ⊥) → ⊥
not_While line e a (is_Assign l y f is view) h never = cc
not_While line e a (is_Print l f is view) h never = cc
not_While line e a (is_If l f c d is view) h never = cc
not_While line e a (is_While l f c is view) h never = never l f c is
not_While line e a (is_Hold l fs c is view) h never = cc
not_While line e a (is_Parbegin l c is view) h never = cc

pub only_While : {A : Type 0} (s : Stmt A) (line : ℕ) (e : ExprSyntax) (a : StmtsSyntax) → stmt_view s ≡ while_do line e a
    → ((l : ℕ) (f : Expr A) (c : Vec (Stmt A) A) → s ≡ While l f c → ⊥) → ⊥
only_While s line e a = not_While line e a (stmt_shape s)

not_Hold : {A : Type 0} {s : Stmt A} (line : ℕ) (ds : List DemandSyntax) (a : StmtsSyntax) → StmtShape s → stmt_view s ≡ hold line ds a
    → ((l : ℕ) (fs : Vec (Demand A) A) (c : Vec (Stmt A) A) → s ≡ Hold l fs c → ⊥) → ⊥
not_Hold line ds a (is_Assign l y f is view) h never = cc
not_Hold line ds a (is_Print l f is view) h never = cc
not_Hold line ds a (is_If l f c d is view) h never = cc
not_Hold line ds a (is_While l f c is view) h never = cc
not_Hold line ds a (is_Hold l fs c is view) h never = never l fs c is
not_Hold line ds a (is_Parbegin l c is view) h never = cc

pub only_Hold : {A : Type 0} (s : Stmt A) (line : ℕ) (ds : List DemandSyntax) (a : StmtsSyntax) → stmt_view s ≡ hold line ds a
    → ((l : ℕ) (fs : Vec (Demand A) A) (c : Vec (Stmt A) A) → s ≡ Hold l fs c → ⊥) → ⊥
only_Hold s line ds a = not_Hold line ds a (stmt_shape s)

not_Parbegin : {A : Type 0} {s : Stmt A} (line : ℕ) (arms : ArmsSyntax) → StmtShape s → stmt_view s ≡ parbegin line arms
    → ((l : ℕ) (c : Vec (Vec (Stmt A) A) A) → s ≡ Parbegin l c → ⊥) → ⊥
not_Parbegin line arms (is_Assign l y f is view) h never = cc
not_Parbegin line arms (is_Print l f is view) h never = cc
not_Parbegin line arms (is_If l f c d is view) h never = cc
not_Parbegin line arms (is_While l f c is view) h never = cc
not_Parbegin line arms (is_Hold l fs c is view) h never = cc
not_Parbegin line arms (is_Parbegin l c is view) h never = never l c is

pub only_Parbegin : {A : Type 0} (s : Stmt A) (line : ℕ) (arms : ArmsSyntax) → stmt_view s ≡ parbegin line arms
    → ((l : ℕ) (c : Vec (Vec (Stmt A) A) A) → s ≡ Parbegin l c → ⊥) → ⊥
only_Parbegin s line arms = not_Parbegin line arms (stmt_shape s)

-- Two plain statements of one kind are the same if their lines and parts are, and not else.

pub same_lines : {a b : ℕ} (v w : StmtSyntax) → a ≡ stmt_line v → b ≡ stmt_line w → a ≡ b
    → stmt_line v ≡ stmt_line w
same_lines v w a b e = sym a ∙ e ∙ b

pub other_lines : {a b : ℕ} (v w : StmtSyntax) → a ≡ stmt_line v → b ≡ stmt_line w → (a ≡ b → ⊥)
    → v ≡ w → ⊥
other_lines v w a b differ e = differ (a ∙ ap stmt_line e ∙ sym b)

module _ {v w : StmtSyntax} {l m : ℕ} where
  module _ {x y : NameSyntax} {e f : ExprSyntax} (left : v ≡ assign l x e) (right : w ≡ assign m y f) where
    pub same_assign : l ≡ m → x ≡ y → e ≡ f → v ≡ w
    same_assign line targets values = cc

    pub assign_targets : v ≡ w → x ≡ y
    assign_targets same = cc

    pub assign_values : v ≡ w → e ≡ f
    assign_values same = cc

  module _ {e f : ExprSyntax} (left : v ≡ print l e) (right : w ≡ print m f) where
    pub same_print : l ≡ m → e ≡ f → v ≡ w
    same_print line values = cc

    pub print_values : v ≡ w → e ≡ f
    print_values same = cc

  module _ {e f : ExprSyntax} {a b c d : StmtsSyntax} (left : v ≡ if_else l e a b)
      (right : w ≡ if_else m f c d) where
    pub same_if : l ≡ m → e ≡ f → a ≡ c → b ≡ d → v ≡ w
    same_if line tests trues falses = cc

    pub if_tests : v ≡ w → e ≡ f
    if_tests same = cc

    pub if_trues : v ≡ w → a ≡ c
    if_trues same = cc

    pub if_falses : v ≡ w → b ≡ d
    if_falses same = cc

  module _ {e f : ExprSyntax} {a b : StmtsSyntax} (left : v ≡ while_do l e a) (right : w ≡ while_do m f b) where
    pub same_while : l ≡ m → e ≡ f → a ≡ b → v ≡ w
    same_while line tests bodies = cc

    pub while_tests : v ≡ w → e ≡ f
    while_tests same = cc

    pub while_bodies : v ≡ w → a ≡ b
    while_bodies same = cc

  module _ {ds es : List DemandSyntax} {a b : StmtsSyntax} (left : v ≡ hold l ds a) (right : w ≡ hold m es b)
    where
      pub same_hold : l ≡ m → ds ≡ es → a ≡ b → v ≡ w
      same_hold line demands bodies = cc

      pub hold_demands : v ≡ w → ds ≡ es
      hold_demands same = cc

      pub hold_bodies : v ≡ w → a ≡ b
      hold_bodies same = cc

  module _ {a b : ArmsSyntax} (left : v ≡ parbegin l a) (right : w ≡ parbegin m b) where
    pub same_parbegin : l ≡ m → a ≡ b → v ≡ w
    same_parbegin line arms = cc

    pub parbegin_arms : v ≡ w → a ≡ b
    parbegin_arms same = cc
