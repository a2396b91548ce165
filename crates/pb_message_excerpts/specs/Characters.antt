-- Bytes of a text as they are shown: what is printable, and the characters of UTF-8.
use Rattle.std.specs.Prelude.{ℕ, ◌+◌, ◌-◌, ◌*◌, List, [], ◌∷◌, ◌++◌, replicate, Bool, not, ◌&&◌, ◌||◌, ◌==◌, if◌then◌else◌, nat_le, nat_lt, slice_index}

-- the byte with a number; 0 past the end
abbrev pub byte_at : List ℕ → ℕ → ℕ
byte_at bytes number = slice_index bytes number

-- whether a number is between two others, or is one of them
abbrev pub is_between : (low high number : ℕ) → Bool
is_between low high number = nat_le low number && nat_le number high

-- whether a byte is one of a character after its first
abbrev pub is_later : ℕ → Bool
is_later byte = is_between 128 191 byte

-- the number of the character of two, three or four bytes with which bytes begin; 0 if they begin with none
abbrev pub of_two : List ℕ → ℕ
of_two bytes =
    if is_between 194 223 (byte_at bytes 0) && is_later (byte_at bytes 1)
    then (byte_at bytes 0 - 192) * 64 + (byte_at bytes 1 - 128)
    else 0

abbrev pub of_three : List ℕ → ℕ
of_three bytes =
    if is_between 224 239 (byte_at bytes 0) && is_later (byte_at bytes 1) && is_later (byte_at bytes 2)
    then (byte_at bytes 0 - 224) * 4096 + (byte_at bytes 1 - 128) * 64 + (byte_at bytes 2 - 128)
    else 0

abbrev pub of_four : List ℕ → ℕ
of_four bytes =
    if is_between 240 244 (byte_at bytes 0) && is_later (byte_at bytes 1) && is_later (byte_at bytes 2) && is_later (byte_at bytes 3)
    then (byte_at bytes 0 - 240) * 262144 + (byte_at bytes 1 - 128) * 4096 + (byte_at bytes 2 - 128) * 64 + (byte_at bytes 3 - 128)
    else 0

-- whether a character can be seen: it is no control character, and none that turns or hides others
abbrev pub is_seen : ℕ → Bool
is_seen number = not (nat_lt number 160
    || (number == 0xAD)
    || (number == 0x61C)
    || (number == 0x180E)
    || is_between 0x200B 0x200F number
    || is_between 0x2028 0x202E number
    || is_between 0x2060 0x206F number
    || is_between 0xD800 0xDFFF number
    || (number == 0xFEFF)
    || is_between 0xFFF9 0xFFFB number
    || nat_le 0xE0000 number)

-- the number of the character beyond ASCII with which bytes begin, if it can be seen and is in its shortest form; else 0
abbrev pub character_at : List ℕ → ℕ
character_at bytes =
    if is_seen (of_two bytes) then of_two bytes
    else if is_seen (of_three bytes) && nat_le 0x800 (of_three bytes) then of_three bytes
    else if is_seen (of_four bytes) && nat_le 0x10000 (of_four bytes) then of_four bytes
    else 0

-- how many bytes a character has after its first
abbrev pub later_bytes : ℕ → ℕ
later_bytes number = if nat_lt number 0x80 then 0 else if nat_lt number 0x800 then 1 else if nat_lt number 0x10000 then 2 else 3

-- whether a character is put over the one before it
abbrev pub is_over : ℕ → Bool
is_over number = is_between 0x300 0x36F number || is_between 0x20D0 0x20FF number || is_between 0xFE00 0xFE0F number

-- whether a character is a letter of East Asia
abbrev pub is_wide_letter : ℕ → Bool
is_wide_letter number =
    is_between 0x1100 0x115F number || is_between 0x2E80 0xA4CF number || is_between 0xAC00 0xD7A3 number
    || is_between 0xF900 0xFAFF number || is_between 0x20000 0x3FFFD number

-- whether a character is a sign of East Asia, or a picture
abbrev pub is_wide_sign : ℕ → Bool
is_wide_sign number =
    is_between 0xFE30 0xFE6F number || is_between 0xFF01 0xFF60 number || is_between 0xFFE0 0xFFE6 number
    || is_between 0x1F300 0x1F64F number || is_between 0x1F680 0x1F6FF number || is_between 0x1F900 0x1F9FF number

-- how many columns of a terminal a character takes: none if it is put over the one before, two if it is wide
abbrev pub columns : ℕ → ℕ
columns number = if is_over number then 0 else if is_wide_letter number || is_wide_sign number then 2 else 1

-- a byte as it is shown: itself if it is printable or a tab, a space for a carriage return, and else a
-- question mark
abbrev pub shown_byte : ℕ → ℕ
shown_byte b = if (b == 9) || (nat_le 32 b && nat_le b 126) then b else (if b == 13 then 32 else 63)

-- what is below a byte before the mark: a tab below a tab, and else a space
abbrev pub below_byte : ℕ → ℕ
below_byte b = if b == 9 then 9 else 32

-- the first of some bytes as it is shown: itself if a character that can be seen begins there
abbrev pub shown_first : (character byte : ℕ) → ℕ
shown_first character byte = if character == 0 then shown_byte byte else byte

-- the first of some bytes as it is shown, after a character of which some bytes are still to come
abbrev pub shown_next : (later : ℕ) → List ℕ → (byte : ℕ) → ℕ
shown_next later bytes byte = if later == 0 then shown_first (character_at bytes) byte else byte

-- how many bytes are still to come after the first of them
abbrev pub later_next : (later : ℕ) → List ℕ → ℕ
later_next later bytes = if later == 0 then later_bytes (character_at bytes) else later - 1

-- bytes as they are shown, of which the first ones are later bytes of a character
unfoldable pub shown_bytes : (later : ℕ) → List ℕ → List ℕ
shown_bytes later [] = []
shown_bytes later (byte ∷ bytes) =
    shown_next later (byte ∷ bytes) byte ∷ shown_bytes (later_next later (byte ∷ bytes)) bytes

-- what is below the character with which bytes begin: as many spaces as it takes columns
abbrev pub below_first : (character byte : ℕ) → List ℕ
below_first character byte = if character == 0 then below_byte byte ∷ [] else replicate (columns character) 32

-- what is below the first of some bytes, after a character of which some bytes are still to come
abbrev pub below_next : (later : ℕ) → List ℕ → (byte : ℕ) → List ℕ
below_next later bytes byte = if later == 0 then below_first (character_at bytes) byte else []

-- what is below bytes before the mark, of which the first ones are later bytes of a character
unfoldable pub below_bytes : (later : ℕ) → List ℕ → List ℕ
below_bytes later [] = []
below_bytes later (byte ∷ bytes) =
    below_next later (byte ∷ bytes) byte ++ below_bytes (later_next later (byte ∷ bytes)) bytes
