-- The limits of a tree. A reader must believe 200 and 16,384.
use Rattle.std.specs.Prelude.{◌<◌, ◌≤◌, List}
use Rattle.pb_base.specs.declared.limits.TheConstants.{MAX_HEIGHT, MAX_NODES}
use Rattle.pb_lexer.specs.Tokens.{Token}
use Rattle.pb_tree.specs.Syntax.{ProgramSyntax}
use Rattle.pb_tree.specs.Measure.{program_height, program_nodes}
use Rattle.pb_grammar.specs.declared.fault.ParseFault.{ParseFault}
use Rattle.pb_grammar.specs.declared.fault.ParseFault.TheVariants as fault
use Rattle.pb_parser.specs.Nesting.{NestsTooDeep}
use Rattle.pb_grammar.specs.Programs.{ReadsProgram}

-- the tree is within the limits
pub record IsSmallTree (p : ProgramSyntax) : Type 0 where
  pub height : program_height p ≤ MAX_HEIGHT
  pub nodes : program_nodes p ≤ MAX_NODES

-- the tokens are a program that is too high
abbrev pub IsTooHigh : List Token → Type 0
IsTooHigh ts = (p : ProgramSyntax) × (ReadsProgram ts p) × (MAX_HEIGHT < program_height p)

-- the tokens are a program that is not too high, and has too many nodes
abbrev pub IsTooLarge : List Token → Type 0
IsTooLarge ts =
    (p : ProgramSyntax) × (ReadsProgram ts p) × (program_height p ≤ MAX_HEIGHT) × (MAX_NODES < program_nodes p)

-- the tokens are a program within the limits, of tokens that do not nest too deep
abbrev pub IsSmallProgram : List Token → Type 0
IsSmallProgram ts = (¬ NestsTooDeep ts) × ((p : ProgramSyntax) × (ReadsProgram ts p) × IsSmallTree p)

-- the tokens are not a program
abbrev pub IsNoProgram : List Token → Type 0
IsNoProgram ts = (p : ProgramSyntax) → ReadsProgram ts p → ⊥

-- the fault says that the tokens are not a program
abbrev pub IsSyntax : ParseFault → Type 0
IsSyntax (fault.Syntax at) = Unit {0}
IsSyntax _ = ⊥
