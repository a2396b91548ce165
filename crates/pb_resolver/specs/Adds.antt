-- What numbering a statement adds to the list that is made. No public contract cites this file.
use Rattle.std.specs.Prelude.{◌≡◌, ℕ, List, [], ◌∷◌, ◌++◌}
use Rattle.pb_tree.specs.Syntax.{StmtSyntax}
use Rattle.pb_names.specs.Program.{Name, IsNumberedStmt}
use Rattle.pb_names.specs.Resolves.{ResolvesStmt}
use Rattle.pb_names.specs.View.{stmt_view}
use Rattle.pb_names.specs.declared.resolved.Stmt.{Stmt}

-- the list gets one more statement, that of the written one, whose arms have the numbers from n on
pub record Adds {A : Type 0} (integers resources : List Name) (n : ℕ) (written : StmtSyntax)
    (before after : List (Stmt A)) : Type 0 where
  pub made : Stmt A
  pub pushed : after ≡ before ++ made ∷ []
  pub resolves : ResolvesStmt integers resources written (stmt_view made)
  pub numbered : IsNumberedStmt n (stmt_view made)
