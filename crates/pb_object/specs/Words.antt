-- Words of a line: numbers and names that are new.
use Rattle.std.specs.Prelude.{ℕ, ◌≤◌, Bool, true, not, ◌&&◌, ◌||◌, nat_lt, List, [], ◌∷◌, if◌then◌else◌}
use Rattle.std.specs.Prelude.{◌++◌, ⊤}
use Rattle.std.specs.Str.Parse.{digits_value}
use Rattle.pb_code.specs.Names.{Word, is_among, is_name}
use Rattle.pb_code.specs.Numerals.{is_numeral}
use Rattle.pb_object.specs.declared.words.Verdict.{Verdict}
use Rattle.pb_object.specs.declared.words.Verdict.TheVariants.{Malformed, Beyond, Read}

-- ---- what a line or a part of it says: first that it is of the form, then that its numbers are in range

-- what is made of what was read; a fault stays
abbrev pub mapped : {A B : Type 0} → (A → B) → Verdict A → Verdict B
mapped f Malformed = Malformed
mapped f Beyond = Beyond
mapped f (Read x) = Read (f x)

-- both of what was read, or the fault: that one is not of the form goes before a number out of range
abbrev pub paired : {A B : Type 0} → Verdict A → Verdict B → Verdict (A × B)
paired Malformed b = Malformed
paired Beyond Malformed = Malformed
paired Beyond Beyond = Beyond
paired Beyond (Read y) = Beyond
paired (Read x) Malformed = Malformed
paired (Read x) Beyond = Beyond
paired (Read x) (Read y) = Read (x, y)

-- ---- numbers

-- a number from low to high
unfoldable pub number : ℕ → ℕ → Word → Verdict ℕ
number low high word =
    if is_numeral word then
    if nat_lt (digits_value 10 word) low || nat_lt high (digits_value 10 word)
    then Beyond
    else Read (digits_value 10 word)
    else Malformed

-- numbers from low to high, one after the other
abbrev pub numbers : ℕ → ℕ → List Word → Verdict (List ℕ)
numbers low high [] = Read []
numbers low high (w ∷ ws) = mapped (λ p. p.0 ∷ p.1) (paired (number low high w) (numbers low high ws))

-- what was read is from low to high
abbrev pub IsBetween : ℕ → ℕ → Verdict ℕ → Type 0
IsBetween low high Malformed = ⊤
IsBetween low high Beyond = ⊤
IsBetween low high (Read n) = (low ≤ n) × (n ≤ high)

-- so it is with two numbers, each with its own range
abbrev pub AreWithin : ℕ → ℕ → ℕ → ℕ → Verdict (ℕ × ℕ) → Type 0
AreWithin a b c d Malformed = ⊤
AreWithin a b c d Beyond = ⊤
AreWithin a b c d (Read n) = ((a ≤ n.0) × (n.0 ≤ b)) × ((c ≤ n.1) × (n.1 ≤ d))

-- ---- names

-- a name that no earlier one is
abbrev pub is_new_name : List Word → Word → Bool
is_new_name earlier name = is_name name && not (is_among earlier name)

-- each is none of the earlier ones nor of those before it
abbrev pub are_new : List Word → List Word → Bool
are_new earlier [] = true
are_new earlier (w ∷ ws) = not (is_among earlier w) && are_new (earlier ++ w ∷ []) ws
