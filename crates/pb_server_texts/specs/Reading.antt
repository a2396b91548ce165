-- When a text is read: into its tokens, and these into a tree, within the limits of the language.
use Rattle.std.specs.Prelude.{ℕ, List}
use Rattle.pb_lexer.specs.Cutting.{AreTokensOf}
use Rattle.pb_lexer.specs.Tokens.{Token}
use Rattle.pb_tree.specs.Syntax.{ProgramSyntax}
use Rattle.pb_grammar.specs.Programs.{ReadsProgram}
use Rattle.pb_parser.specs.Limits.{IsSmallTree}
use Rattle.pb_parser.specs.Nesting.{NestsTooDeep}

-- the tokens are this program, within the limits
pub record IsTreeOf (tokens : List Token) (tree : ProgramSyntax) : Type 0 where
  pub flat : ¬ NestsTooDeep tokens
  pub read : ReadsProgram tokens tree
  pub small : IsSmallTree tree

-- the text is cut into these tokens, and they are this program
pub record IsRead (text : List ℕ) (tokens : List Token) (tree : ProgramSyntax) : Type 0 where
  pub cut : AreTokensOf text tokens
  pub tree_of : IsTreeOf tokens tree
