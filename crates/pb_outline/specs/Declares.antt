-- What the tokens of a text declare, whether or not they are a program: the name after `resource`, that after `process`,
-- and the names of a list after `integer`, which are of the process that was named last.
use Rattle.std.specs.Prelude.{ℕ, zero, suc, ◌+◌, true, List, [], ◌∷◌, ◌++◌, Option, None, Some}
use Rattle.pb_lexer.specs.declared.token.Mark.{Mark}
use Rattle.pb_lexer.specs.declared.token.Mark.TheVariants as mark
use Rattle.pb_lexer.specs.Tokens.{Lexeme, Name, Number, Fixed, Token}
use Rattle.pb_outline.specs.Places.{Place}
use Rattle.pb_outline.specs.declared.reading.Coming.{Coming}
use Rattle.pb_outline.specs.declared.reading.Coming.TheVariants as coming
use Rattle.pb_outline.specs.declared.reading.Reading.{Reading}
use Rattle.pb_outline.specs.declared.place.Kind.{Kind}
use Rattle.pb_outline.specs.declared.place.Kind.TheVariants.{Resource, Process, Integer}

-- before all tokens
abbrev pub unread : Reading
unread = record { coming = coming.Nothing; processes = 0 }

-- what a name declares after a comma: one more integer of a list
abbrev pub behind_comma : Coming → Coming
behind_comma coming.Integers = coming.Integers
behind_comma _ = coming.Nothing

-- what a name declares after a symbol or a reserved word
abbrev pub behind_mark : Mark → Coming → Coming
behind_mark mark.Resource _ = coming.Resource
behind_mark mark.Process _ = coming.Process
behind_mark mark.Integer _ = coming.Integers
behind_mark mark.Comma before = behind_comma before
behind_mark _ _ = coming.Nothing

-- what is known after a name, by what it declares
abbrev pub behind_name : Coming → (processes : ℕ) → Reading
behind_name coming.Process processes = record { coming = coming.Nothing; processes = processes + 1 }
behind_name coming.Integers processes = record { coming = coming.Integers; processes = processes }
behind_name _ processes = record { coming = coming.Nothing; processes = processes }

-- what is known after a token
abbrev pub behind_lexeme : Reading → Lexeme → Reading
behind_lexeme before (Name name) = behind_name before.coming before.processes
behind_lexeme before (Number n) = record { coming = coming.Nothing; processes = before.processes }
behind_lexeme before (Fixed m) = record { coming = behind_mark m before.coming; processes = before.processes }

-- so it is by a whole token
abbrev pub behind_token : Reading → Token → Reading
behind_token before token = behind_lexeme before token.lexeme

-- a name that declares something of this kind, at a token
abbrev pub declared_at : Kind → Token → List Place
declared_at kind token = record { kind = kind; text = token.text; at = token.start; declares = true } ∷ []

-- what a name declares: an integer only after the name of a process
abbrev pub kind_named : Coming → (processes : ℕ) → Option Kind
kind_named coming.Nothing _ = None
kind_named coming.Resource _ = Some Resource
kind_named coming.Process _ = Some Process
kind_named coming.Integers zero = None
kind_named coming.Integers (suc p) = Some (Integer p)

-- what a name of this kind declares; nothing if it has no kind
abbrev pub named : Option Kind → Token → List Place
named None token = []
named (Some kind) token = declared_at kind token

-- what a token declares
abbrev pub declared_here : Reading → Token → Lexeme → List Place
declared_here before token (Name name) = named (kind_named before.coming before.processes) token
declared_here before token _ = []

-- what tokens declare, in their order
abbrev pub declared_from : Reading → List Token → List Place
declared_from before [] = []
declared_from before (token ∷ tokens) =
    declared_here before token token.lexeme ++ declared_from (behind_token before token) tokens

-- what all tokens of a text declare
abbrev pub declared_by : List Token → List Place
declared_by tokens = declared_from unread tokens
