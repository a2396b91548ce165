-- What is answered to a request over the text of a document.
use Rattle.std.specs.Prelude.{◌≡◌, ℕ, [], List, Option, Some, None}
use Rattle.serde_json.specs.Data.{Data, null}
use Rattle.pb_lexer.specs.Cutting.{AreTokensOf}
use Rattle.pb_lexer.specs.Tokens.{Token}
use Rattle.pb_tree.specs.Syntax.{ProgramSyntax}
use Rattle.pb_outline.specs.Declares.{declared_by}
use Rattle.pb_outline.specs.Places.{Place, program_places}
use Rattle.pb_server_names.specs.Answers.{definition_data, references_data, rename_data}
use Rattle.pb_server_names.specs.Asked.{asked_name, asked_offset, asked_place, asks_declaration}
use Rattle.pb_server_names.specs.Completions.{completions_data, items_data}
use Rattle.pb_server_names.specs.Symbols.{symbols_data}
use Rattle.pb_server_texts.specs.Reading.{IsRead}

-- an answer by the tokens and the names of a text, or another one if the text is not read
pub data Answers (of : List Token → List Place → Data) (otherwise : Data) (text : List ℕ) : Data → Type 0 where
  read : (tokens : List Token) (tree : ProgramSyntax) → IsRead text tokens tree
      → Answers of otherwise text (of tokens (program_places tree))
  unread : ((tokens : List Token) (tree : ProgramSyntax) → IsRead text tokens tree → ⊥)
      → Answers of otherwise text otherwise

-- where the name at a position is declared
abbrev pub AnswersDefinition : (uri text : List ℕ) → Option Data → Data → Type 0
AnswersDefinition uri text params =
    Answers (λ tokens places. definition_data uri text places (asked_place text places params)) null text

-- where it stands
abbrev pub AnswersReferences : (uri text : List ℕ) → Option Data → Data → Type 0
AnswersReferences uri text params =
    Answers (λ tokens places. references_data uri text places (asks_declaration params) (asked_place text places params))
    null text

-- what a new name changes; nothing if none is given
abbrev pub RenamesTo : (uri text : List ℕ) → Option Data → Option (List ℕ) → Data → Type 0
RenamesTo uri text params None d = d ≡ null
RenamesTo uri text params (Some name) d =
    Answers (λ tokens places. rename_data uri text name places (asked_place text places params)) null text d

-- what a new name that the parameters give changes
abbrev pub AnswersRename : (uri text : List ℕ) → Option Data → Data → Type 0
AnswersRename uri text params d = RenamesTo uri text params (asked_name params) d

-- the symbols
abbrev pub AnswersSymbols : (text : List ℕ) → Data → Type 0
AnswersSymbols text = Answers (λ tokens places. symbols_data text tokens places) null text

-- what may be written at an offset: names that the tokens of the text declare, whether or not they are a program, and the
-- reserved words; these alone if the text has no tokens
pub data CompletesIn (text : List ℕ) (at : ℕ) : Data → Type 0 where
  by_tokens : (tokens : List Token) → AreTokensOf text tokens → CompletesIn text at (completions_data (declared_by tokens) at)
  by_words : ((tokens : List Token) → AreTokensOf text tokens → ⊥) → CompletesIn text at (items_data [])

-- what may be written at a position; only the reserved words if no offset has it
abbrev pub CompletesAt : (text : List ℕ) → Option ℕ → Data → Type 0
CompletesAt text None d = d ≡ items_data []
CompletesAt text (Some at) d = CompletesIn text at d

-- what may be written where the parameters ask for it
abbrev pub AnswersCompletion : (text : List ℕ) → Option Data → Data → Type 0
AnswersCompletion text params d = CompletesAt text (asked_offset text params) d
