-- Where a byte of a text is, as editors count: by its line and its byte in the line, both from 0. Texts that are
-- accepted have only ASCII, in which each byte is one unit of UTF-16.
use Rattle.std.specs.Prelude.{ℕ, zero, suc, ◌+◌, ◌==◌, ◌&&◌, ◌||◌, not, nat_lt, Bool, cond, List, [], ◌∷◌, take, length, slice_index_or, Option, None, Some}
use Rattle.std.specs.List.{fold}
use Rattle.pb_outline.specs.declared.position.Position.{Position}

-- the beginning of a text
abbrev pub beginning : Position
beginning = record { line = 0; character = 0 }

-- whether a byte ends its line: a line feed does, and a carriage return with no line feed after it
abbrev pub ends_line : (byte next : ℕ) → Bool
ends_line byte next = byte == 10 || (byte == 13 && not (next == 10))

-- the same of each byte of a text
abbrev pub line_ends : List ℕ → List Bool
line_ends [] = []
line_ends (b ∷ bs) = ends_line b (slice_index_or bs 0 0) ∷ line_ends bs

-- the position after a byte, which ends its line or not
abbrev pub behind : Position → Bool → Position
behind position ends = cond ends
    (record { line = position.line + 1; character = 0 })
    (record { line = position.line; character = position.character + 1 })

-- the position of an offset: that after all bytes before it, all bytes of the text if it is past the end
abbrev pub position_of : List ℕ → ℕ → Position
position_of text at = fold behind beginning (take at (line_ends text))

-- whether a position is in the line of another one, and not after that
abbrev pub is_up_to : Position → Position → Bool
is_up_to position here = here.line == position.line && not (nat_lt position.character here.character)

-- the last number below n with a property, if there is one
abbrev pub last_below : (ℕ → Bool) → ℕ → Option ℕ
last_below p zero = None
last_below p (suc n) = cond (p n) (Some n) (last_below p n)

-- the offset, of the bytes of a text and its end, that has this position; that of the end of its line if the line is
-- shorter
abbrev pub offset_at : List ℕ → Position → Option ℕ
offset_at text position = last_below (λ at. is_up_to position (position_of text at)) (suc (length text))
