-- The line of each refusal of a text. A fault that is out of memory has no line.
use Rattle.std.specs.Prelude.{◌≡◌, ℕ, List, [], ◌∷◌, ◌++◌, Option, None, Some, codes, option_map, ⊤}
use Rattle.std.specs.Fmt.{decimal}
use Rattle.pb_base.specs.Steppers.{Table}
use Rattle.pb_lexer.specs.declared.fault.LexFault.{LexFault}
use Rattle.pb_grammar.specs.declared.fault.ParseFault.{ParseFault}
use Rattle.pb_names.specs.Program.{Program, capital_of}
use Rattle.pb_names.specs.declared.fault.Kind.{Kind}
use Rattle.pb_names.specs.declared.fault.Kind.TheVariants.{Processes, Resources, Integers, Fork, Arms}
use Rattle.pb_names.specs.declared.fault.NameFault.{NameFault}
use Rattle.pb_names.specs.declared.fault.NameFault.TheVariants as names
use Rattle.pb_claims.specs.Fits.{FitCapital}
use Rattle.pb_codegen.specs.Compiled.{IsRefused}
use Rattle.pb_codegen.specs.Numbered.{IsReadAs}
use Rattle.pb_codegen.specs.declared.fault.ClaimsFault.{ClaimsFault}
use Rattle.pb_codegen.specs.declared.fault.CompileFault.TheVariants.{Lex, Parse, Names, Claims}
use Rattle.pb_base.specs.Lines.{line}
use Rattle.pb_options.specs.declared.code.Code.TheVariants.{C1}
use Rattle.pb_accept.specs.Causes.{cause_line, lex_cause, names_cause, parse_cause}
use Rattle.pb_accept.specs.declared.accept.Refusal.{Refusal}
use Rattle.pb_accept.specs.declared.accept.Refusal.TheVariants.{Line, NoMemory}
use Rattle.pb_command_io.specs.declared.status.Status.{Status}
use Rattle.pb_command_io.specs.declared.status.Status.TheVariants.{Refused}

-- the line of a fault of tokens
abbrev pub lex_line : LexFault → Option (List ℕ)
lex_line fault = option_map cause_line (lex_cause fault)

-- the line of a fault of the grammar
abbrev pub parse_line : ParseFault → Option (List ℕ)
parse_line fault = option_map cause_line (parse_cause fault)

-- what there is too much of
abbrev pub kind_words : Kind → List ℕ
kind_words Processes = codes " processes"
kind_words Resources = codes " resources"
kind_words Integers = codes " integers"
kind_words Fork = codes " fork"
kind_words Arms = codes " arms"

-- the words after the code of a fault of names
abbrev pub limit_words : NameFault → List ℕ
limit_words (names.TooMany kind) = kind_words kind
limit_words (names.Twice at) = []
limit_words (names.Unknown at) = []
limit_words (names.Amount at) = []
limit_words (names.Repeated at) = []
limit_words names.NoMemory = []

-- the line of a fault of names
abbrev pub names_line : NameFault → Option (List ℕ)
names_line fault = option_map (λ cause. cause_line cause ++ limit_words fault) (names_cause fault)

-- a claim that is over its capital, with the names of its process and its resource
abbrev pub claims_line : ClaimsFault → List ℕ
claims_line fault =
    cause_line (record { code = C1; at = None }) ++ (32 ∷ fault.process.items ++ 32 ∷ fault.resource.items
    ++ codes " claim " ++ decimal fault.claim ++ codes " capital " ++ decimal fault.capital)

-- the line of the first fault of a text that spells no program
pub data RefusesEarly (text : List ℕ) : List ℕ → Type 0 where
  by_tokens : (fault : LexFault) → IsRefused text (Lex fault)
      → (refusal : List ℕ) → lex_line fault ≡ Some refusal → RefusesEarly text refusal
  by_grammar : (fault : ParseFault) → IsRefused text (Parse fault)
      → (refusal : List ℕ) → parse_line fault ≡ Some refusal → RefusesEarly text refusal
  by_names : (fault : NameFault) → IsRefused text (Names fault)
      → (refusal : List ℕ) → names_line fault ≡ Some refusal → RefusesEarly text refusal

-- the line of the first fault of a text: it spells no program, or a claim is over its capital
pub data RefusesWith (text : List ℕ) : List ℕ → Type 0 where
  early : (refusal : List ℕ) → RefusesEarly text refusal → RefusesWith text refusal
  by_claims : (fault : ClaimsFault) → IsRefused text (Claims fault) → RefusesWith text (claims_line fault)

-- the text spells a program, and the capital is enough for its claims
pub record IsAcceptedText (text : List ℕ) : Type 0 where
  pub program : Program
  pub claims : Table
  pub numbered : IsReadAs text program claims
  pub enough : FitCapital claims (capital_of program)

-- a refusal is by the line of the first fault, or out of memory
abbrev pub IsRefusal : List ℕ → Refusal → Type 0
IsRefusal text (Line line) = RefusesWith text line.items
IsRefusal text NoMemory = ⊤

-- what is said of a refused text
pub data SaysOfRefusedText (text : List ℕ) : List ℕ → Status → Type 0 where
  refused : (refusal : List ℕ) → RefusesWith text refusal → SaysOfRefusedText text (line refusal) Refused
