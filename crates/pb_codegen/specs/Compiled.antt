-- What it means that a text was compiled, or refused.
use Rattle.std.specs.Prelude.{◌≡◌, ℕ, List, [], slice_index_or, ◌⊎◌, ⊤}
use Rattle.pb_base.specs.Steppers.{Table}
use Rattle.pb_lexer.specs.declared.fault.LexFault.{LexFault}
use Rattle.pb_lexer.specs.declared.fault.LexFault.TheVariants as lex
use Rattle.pb_lexer.specs.Cutting.{AreTokensOf, Refuses}
use Rattle.pb_lexer.specs.Tokens.{Token}
use Rattle.pb_tree.specs.Syntax.{ProgramSyntax}
use Rattle.pb_grammar.specs.declared.fault.ParseFault.{ParseFault}
use Rattle.pb_grammar.specs.declared.fault.ParseFault.TheVariants as parse
use Rattle.pb_parser.specs.Limits.{IsTooHigh, IsTooLarge, IsNoProgram}
use Rattle.pb_parser.specs.Nesting.{NestsTooDeep}
use Rattle.pb_names.specs.declared.fault.NameFault.{NameFault}
use Rattle.pb_names.specs.declared.fault.NameFault.TheVariants as names
use Rattle.pb_names.specs.Faults.{IsFault}
use Rattle.pb_names.specs.Program.{Program, capital_of}
use Rattle.pb_names.specs.Resolves.{process_names, resource_names}
use Rattle.pb_claims.specs.Fits.{FitCapital, IsFirstOver}
use Rattle.pb_claims.specs.declared.over_capital.OverCapital.{OverCapital}
use Rattle.pb_code.specs.Limits.{AreLabels}
use Rattle.pb_code.specs.Whole.{Code, ProcessLabels, bank_of}
use Rattle.pb_verifier.specs.Behaviour.{IsWellBehaved}
use Rattle.pb_verifier.specs.Verified.{VerifiedCode}
use Rattle.pb_codegen.specs.Correct.{MeansTheSame, IsFollowed}
use Rattle.pb_generator.specs.Generate.{names_of, program_code}
use Rattle.pb_generator.specs.Lines.{program_labels}
use Rattle.pb_codegen.specs.Numbered.{IsReadAs, Spells}
use Rattle.pb_codegen.specs.SourceBehaviour.{KeepsClaims}
use Rattle.pb_codegen.specs.declared.fault.ClaimsFault.{ClaimsFault}
use Rattle.pb_codegen.specs.declared.fault.CompileFault.{CompileFault}
use Rattle.pb_codegen.specs.declared.fault.CompileFault.TheVariants.{Lex, Parse, Names, Claims, Memory}

-- what a contract sees of a compiled text
pub record CompiledText : Type 0 where
  pub verified : VerifiedCode
  pub labels : List ProcessLabels

-- the text spells a program, and the code means the same; its names, claims and labels are those of the
-- program, and the capital is enough for the claims; both are well behaved: no request passes its claim, and
-- all loans are safe; the labels have a line or none for each place of the code, and a name for each integer
pub record IsCompiled (text : List ℕ) (code : Code) (labels : List ProcessLabels) : Type 0 where
  pub program : Program
  pub numbered : IsReadAs text program code.claims
  pub generated : code ≡ program_code program code.claims
  pub names : code.names ≡ names_of program
  pub enough : FitCapital code.claims code.capital
  pub same : MeansTheSame program code
  pub labelled : labels ≡ program_labels program
  pub lines : IsFollowed (bank_of code) program.processes code.processes
  pub behaves : IsWellBehaved code
  pub keeps : KeepsClaims program code.claims
  pub fit : AreLabels code labels

-- ---- refusals

-- the cause of a fault of the grammar, for the tokens of a text, and none that is looked for before it: they
-- nest too deep, are not a program, are one that is too high, or are one that is too large
abbrev pub IsParseFault : List Token → ParseFault → Type 0
IsParseFault tokens (parse.Syntax at) = (¬ NestsTooDeep tokens) × IsNoProgram tokens
IsParseFault tokens parse.TooDeep = NestsTooDeep tokens ⊎ IsTooHigh tokens
IsParseFault tokens parse.TooLarge = (¬ NestsTooDeep tokens) × (¬ IsTooHigh tokens) × IsTooLarge tokens
IsParseFault tokens parse.NoMemory = ⊥

-- the fault tells this claim, with the names of its process and its resource
pub record NamesClaim (program : Program) (over : OverCapital) (fault : ClaimsFault) : Type 0 where
  pub process : fault.process.items ≡ slice_index_or (process_names program) over.process []
  pub resource : fault.resource.items ≡ slice_index_or (resource_names program) over.resource []
  pub claim : fault.claim ≡ over.claim
  pub capital : fault.capital ≡ over.capital

-- the fault tells the first claim of the program that is over its capital
pub record IsClaimsFault (program : Program) (claims : Table) (fault : ClaimsFault) : Type 0 where
  pub over : OverCapital
  pub first : IsFirstOver claims (capital_of program) over
  pub named : NamesClaim program over fault

-- the fault is in the text, and nothing before it refuses the text; being out of memory is always `Memory`
abbrev pub IsRefused : List ℕ → CompileFault → Type 0
IsRefused text (Lex lex.NoMemory) = ⊥
IsRefused text (Lex fault) = Refuses text fault
IsRefused text (Parse fault) = (tokens : List Token) × AreTokensOf text tokens × IsParseFault tokens fault
IsRefused text (Names names.NoMemory) = ⊥
IsRefused text (Names fault) = (tree : ProgramSyntax) × Spells text tree × IsFault tree fault
IsRefused text (Claims fault) =
    (program : Program) × (claims : Table) × IsReadAs text program claims × IsClaimsFault program claims fault
IsRefused text Memory = ⊤

-- ---- out of memory is one fault, wherever it comes

-- a fault of tokens as a fault of the text
abbrev pub of_lex : LexFault → CompileFault
of_lex lex.NoMemory = Memory
of_lex fault = Lex fault

-- a fault of the grammar as a fault of the text
abbrev pub of_parse : ParseFault → CompileFault
of_parse parse.NoMemory = Memory
of_parse fault = Parse fault

-- a fault of names and amounts as a fault of the text
abbrev pub of_names : NameFault → CompileFault
of_names names.NoMemory = Memory
of_names fault = Names fault

-- ---- claims

-- the fault is none of claims
abbrev pub IsBeforeClaims : CompileFault → Type 0
IsBeforeClaims (Claims fault) = ⊥
IsBeforeClaims fault = ⊤

-- the fault is that of a claim over the capital, or out of memory
abbrev pub IsCapitalFault : Program → Table → CompileFault → Type 0
IsCapitalFault program claims (Lex fault) = ⊥
IsCapitalFault program claims (Parse fault) = ⊥
IsCapitalFault program claims (Names fault) = ⊥
IsCapitalFault program claims (Claims fault) = IsClaimsFault program claims fault
IsCapitalFault program claims Memory = ⊤
