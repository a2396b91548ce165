-- Where the declaration of a resource or a process begins and ends, by the tokens of its text: it begins with its word
-- `resource` or `process`, and ends before the next one of these words.
use Rattle.std.specs.Prelude.{ℕ, ◌==◌, Bool, true, false, cond, List, [], ◌∷◌}
use Rattle.pb_lexer.specs.declared.token.Mark.TheVariants as mark
use Rattle.pb_lexer.specs.Tokens.{Lexeme, Fixed, Token}
use Rattle.pb_outline.specs.declared.extent.Extent.{Extent}

-- the token is `resource` or `process`
abbrev pub is_opening : Lexeme → Bool
is_opening (Fixed mark.Resource) = true
is_opening (Fixed mark.Process) = true
is_opening _ = false

-- the tokens from the one at an offset on
abbrev pub tokens_from : ℕ → List Token → List Token
tokens_from at [] = []
tokens_from at (t ∷ ts) = cond (t.start == at) (t ∷ ts) (tokens_from at ts)

-- the offset of the token before the one at an offset, or else of what is before all tokens
abbrev pub start_before : ℕ → ℕ → List Token → ℕ
start_before before at [] = before
start_before before at (t ∷ ts) = cond (t.start == at) before (start_before t.start at ts)

-- the end of the last token before the next opening word, or else of what is before all tokens
abbrev pub end_before_opening : ℕ → List Token → ℕ
end_before_opening before [] = before
end_before_opening before (t ∷ ts) = cond (is_opening t.lexeme) before (end_before_opening t.end ts)

-- the declaration whose name is at an offset
abbrev pub extent_of : List Token → ℕ → Extent
extent_of tokens at = record {
  start = start_before at at tokens;
  end = end_before_opening at (tokens_from at tokens);
}
