-- JSON strings (RFC 8259) of bytes: what is written of each byte, and what a string says.
use Rattle.std.specs.Prelude.{◌≢◌, ◌≤◌, ◌<◌, ◌+◌, ◌*◌, ◌/◌, ◌%◌, ℕ, cond, ◌==◌, ◌&&◌, not, nat_lt, nat_le, Bool, List, [], ◌∷◌, ◌++◌, All}
use Rattle.std.specs.List.{flat_map}

-- a digit of base 16, in small letters
abbrev pub hex_digit : ℕ → ℕ
hex_digit n = cond (nat_lt n 10) (48 + n) (87 + n)

-- a byte that stands for itself: ASCII, no control, no `<`; quote and backslash are told apart before
abbrev pub is_plain : ℕ → Bool
is_plain b = nat_le 32 b && (nat_lt b 127 && not (b == 60))

-- what is written of a byte: `\"`, `\\`, `\n`, itself, or `\u00` and two digits of base 16
abbrev pub escaped : ℕ → List ℕ
escaped b =
    cond (b == 34) (92 ∷ 34 ∷ [])
    (cond (b == 92) (92 ∷ 92 ∷ [])
    (cond (b == 10) (92 ∷ 110 ∷ [])
    (cond (is_plain b) (b ∷ [])
    (92 ∷ 117 ∷ 48 ∷ 48 ∷ hex_digit (b / 16) ∷ hex_digit (b % 16) ∷ []))))

-- the string of some bytes, between its quotes
abbrev pub string_text : List ℕ → List ℕ
string_text bytes = 34 ∷ (flat_map escaped bytes ++ 34 ∷ [])

-- ---- what a reader of JSON makes of the inside of a string

-- what stands between the quotes says these bytes. All of it is ASCII from the space on, but not `<`; a quote
-- stands after a backslash alone
pub data Says : List ℕ → List ℕ → Type 0 where
  nothing : Says [] []
  itself : (b : ℕ) → 32 ≤ b → b < 127 → b ≢ 34 → b ≢ 92 → b ≢ 60 → (inside bytes : List ℕ) → Says inside bytes
      → Says (b ∷ inside) (b ∷ bytes)
  quote : (inside bytes : List ℕ) → Says inside bytes → Says (92 ∷ 34 ∷ inside) (34 ∷ bytes)
  backslash : (inside bytes : List ℕ) → Says inside bytes → Says (92 ∷ 92 ∷ inside) (92 ∷ bytes)
  line_feed : (inside bytes : List ℕ) → Says inside bytes → Says (92 ∷ 110 ∷ inside) (10 ∷ bytes)
  by_number : (high low : ℕ) → high < 16 → low < 16 → (inside bytes : List ℕ) → Says inside bytes
      → Says (92 ∷ 117 ∷ 48 ∷ 48 ∷ hex_digit high ∷ hex_digit low ∷ inside) ((16 * high + low) ∷ bytes)

-- the string of any bytes says just these
abbrev pub StringsSayTheirBytes : Type 0
StringsSayTheirBytes = (bytes : List ℕ) → All (λ b. b < 256) bytes → Says (flat_map escaped bytes) bytes
