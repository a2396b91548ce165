-- What is shown of an offset of a text: of the name there, or else of the reserved word or the number.
use Rattle.std.specs.Prelude.{ℕ, ◌&&◌, nat_le, nat_lt, Bool, List, Option, Some, None, codes}
use Rattle.std.specs.List.{find}
use Rattle.std.specs.Str.Lossy.{utf8_lossy}
use Rattle.serde_json.specs.Data.{Data, null, string, object, no_members, member}
use Rattle.pb_lexer.specs.Tokens.{Lexeme, Name, Number, Fixed, Token}
use Rattle.pb_outline.specs.Places.{Place, is_at, program_places}
use Rattle.pb_server_claims.specs.Known.{Known}
use Rattle.pb_server_claims.specs.Said.{name_words}
use Rattle.pb_server_claims.specs.Words.{meaning}
use Rattle.pb_server_names.specs.Values.{name_range, range_data}

-- plain text about a range
abbrev pub hover_text : (range : Data) → (text : List ℕ) → Data
hover_text range text =
    object (member (codes "contents") (object (member (codes "kind") (string (codes "plaintext"))
    (member (codes "value") (string text) no_members)))
    (member (codes "range") range no_members))

-- plain words
abbrev pub hover_data : (range : Data) → (words : List ℕ) → Data
hover_data range words = hover_text range (utf8_lossy words)

-- the byte at the offset is one of the token
abbrev pub covers : ℕ → Token → Bool
covers at token = nat_le token.start at && nat_lt at token.end

-- what is said of a number and of a reserved word
abbrev pub lexeme_words : Lexeme → Option (List ℕ)
lexeme_words (Name name) = None
lexeme_words (Number value) =
    Some (codes "A number is from 0 to 9223372036854775807, an amount of a resource at most 1000000.")
lexeme_words (Fixed mark) = meaning mark

-- what is shown of a token, if anything is said of it
abbrev pub hover_if : (text : List ℕ) → Token → Option (List ℕ) → Data
hover_if text token None = null
hover_if text token (Some words) = hover_data (range_data text token.start token.end) words

-- what is shown of a token, if there is one
abbrev pub hover_token : (text : List ℕ) → Option Token → Data
hover_token text None = null
hover_token text (Some token) = hover_if text token (lexeme_words token.lexeme)

-- what is shown of the name there, or else of the token
abbrev pub hover_at : (text : List ℕ) → Known → (at : ℕ) → Option Place → Data
hover_at text known at None = hover_token text (find (covers at) known.tokens)
hover_at text known at (Some place) = hover_data (name_range text place) (name_words known place)

-- what is shown of an offset, if one is asked for and something is known of the text
abbrev pub hover_asked : (text : List ℕ) → Option Known → Option ℕ → Data
hover_asked text (Some known) (Some at) = hover_at text known at (find (is_at at) (program_places known.tree))
hover_asked text _ _ = null
