-- Ranges of a text, by lines and characters from 0. A character is a UTF-16 unit, which a byte is up to a fault of bytes.
use Rattle.std.specs.Prelude.{◌≡◌, ◌≢◌, ◌⊎◌, ℕ, ◌+◌, min, nat_eq, List, length, Bool, Option, None, Some}
use Rattle.std.specs.List.{find}
use Rattle.serde_json.specs.Data.{Data}
use Rattle.pb_lexer.specs.Cutting.{AreTokensOf, Refuses}
use Rattle.pb_lexer.specs.Tokens.{Token}
use Rattle.pb_lexer.specs.declared.fault.LexFault.{LexFault}
use Rattle.pb_lexer.specs.declared.fault.LexFault.TheVariants as lex
use Rattle.pb_server_names.specs.Values.{range_data}

-- where a token ends; without one, the other offset
abbrev pub end_of : Option Token → (other : ℕ) → ℕ
end_of None other = other
end_of (Some t) other = t.end

-- whether a token begins at this offset
abbrev pub begins_at : ℕ → Token → Bool
begins_at at t = nat_eq t.start at

-- where the token ends that begins at an offset; else what is given
abbrev pub token_end : List Token → (at other : ℕ) → ℕ
token_end ts at other = end_of (find (begins_at at) ts) other

-- where a range ends that begins at an offset: with the token there, or with the byte there if the text has no tokens or
-- none begins there
abbrev pub IsStop : (text : List ℕ) → (at stop : ℕ) → Type 0
IsStop text at stop =
    ((ts : List Token) × AreTokensOf text ts × (stop ≡ min (token_end ts at (at + 1)) (length text)))
    ⊎ ((fault : LexFault) × Refuses text fault × (fault ≢ lex.NoMemory) × (stop ≡ min (at + 1) (length text)))

-- the range of a text that begins at this offset
abbrev pub IsRange : (text : List ℕ) → (at : ℕ) → Data → Type 0
IsRange text at d = (stop : ℕ) × IsStop text at stop × (d ≡ range_data text at stop)
