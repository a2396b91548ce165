-- Tokens as values: what each says, its bytes, where it starts and ends, and its line. Where its bytes are in
-- memory is left out.
use Rattle.std.specs.Prelude.{ℕ, ℤ, List, map}
use Rattle.pb_lexer.specs.declared.token.Mark.{Mark}
use Rattle.pb_lexer.specs.declared.token.Kind.{Kind}
use Rattle.pb_lexer.specs.declared.token.Kind.TheVariants as kind
use Rattle.pb_lexer.specs.declared.token.Token.{Token as Given}

-- what a token says: a name, a number, or a symbol or reserved word
pub data Lexeme : Type 0 where
  Name : List ℕ → Lexeme
  Number : ℤ → Lexeme
  Fixed : Mark → Lexeme

-- a token, whose bytes are in the text from its start up to its end
pub record Token : Type 0 where
  pub lexeme : Lexeme
  pub text : List ℕ
  pub start : ℕ
  pub end : ℕ
  pub line : ℕ

-- what a token of this kind and with these bytes says
abbrev pub lexeme : Kind → List ℕ → Lexeme
lexeme kind.Name text = Name text
lexeme (kind.Number n) text = Number n
lexeme (kind.Mark m) text = Fixed m

-- the token that a token of the code is
abbrev pub token : Given → Token
token t = record {
  lexeme = lexeme t.kind t.text.now;
  text = t.text.now;
  start = t.start;
  end = t.end;
  line = t.line;
}

-- the tokens that a slice of the code holds
abbrev pub tokens : List Given → List Token
tokens ts = map token ts
