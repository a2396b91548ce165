-- Lists of statements and of arms: a reader must believe that `append` puts one list after another.
use Rattle.pb_tree.specs.Syntax as tree
use Rattle.pb_tree.specs.Syntax.{StmtSyntax, StmtsSyntax, ArmsSyntax}

-- one list after another
abbrev pub append : StmtsSyntax → StmtsSyntax → StmtsSyntax
append tree.no_stmt b = b
append (tree.stmt_then s a) b = tree.stmt_then s (append a b)

-- some arms after others
abbrev pub append_arms : ArmsSyntax → ArmsSyntax → ArmsSyntax
append_arms tree.no_arm b = b
append_arms (tree.arm_then s a) b = tree.arm_then s (append_arms a b)

-- the list of one statement
abbrev pub single : StmtSyntax → StmtsSyntax
single s = tree.stmt_then s tree.no_stmt

-- the list of one arm
abbrev pub single_arm : StmtsSyntax → ArmsSyntax
single_arm a = tree.arm_then a tree.no_arm
