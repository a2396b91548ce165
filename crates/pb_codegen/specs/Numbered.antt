-- A text, and the numbered program that it spells, with its claims.
use Rattle.std.specs.Prelude.{ℕ, List}
use Rattle.pb_base.specs.Steppers.{Table}
use Rattle.pb_lexer.specs.Cutting.{AreTokensOf}
use Rattle.pb_lexer.specs.Tokens.{Token}
use Rattle.pb_tree.specs.Syntax.{ProgramSyntax}
use Rattle.pb_parser.specs.Limits.{IsSmallTree}
use Rattle.pb_parser.specs.Nesting.{NestsTooDeep}
use Rattle.pb_grammar.specs.Programs.{ReadsProgram}
use Rattle.pb_names.specs.Meaning.{AreClaims}
use Rattle.pb_names.specs.Program.{Program}
use Rattle.pb_names.specs.Resolves.{Resolves}

-- the text spells this tree, which is within its limits
pub record Spells (text : List ℕ) (tree : ProgramSyntax) : Type 0 where
  pub tokens : List Token
  pub cut : AreTokensOf text tokens
  pub flat : ¬ NestsTooDeep tokens
  pub read : ReadsProgram tokens tree
  pub limits : IsSmallTree tree

-- the text spells a tree, the program is that of the tree, and these are its claims
pub record IsReadAs (text : List ℕ) (program : Program) (claims : Table) : Type 0 where
  pub tree : ProgramSyntax
  pub spelled : Spells text tree
  pub numbered : Resolves tree program
  pub claimed : AreClaims program claims

-- some text does
abbrev pub IsSpelled : Program → Table → Type 0
IsSpelled program claims = (text : List ℕ) × IsReadAs text program claims
