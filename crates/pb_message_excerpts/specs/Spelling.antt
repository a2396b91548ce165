-- How near two words are: how many edits lead from one to the other, where an edit inserts, leaves out or replaces a
-- letter, or exchanges two neighbours, and no part is edited twice (optimal string alignment).
use Rattle.std.specs.Prelude.{ℕ, suc, ◌+◌, List, [], ◌∷◌, length, Bool, Option, None, Some, if◌then◌else◌, nat_le, nat_lt}
use Rattle.std.specs.Str.{chars}
use Rattle.strsim.specs.Edits.{osa_table}

-- how many edits lead from a word to another one
abbrev pub distance : (word other : List ℕ) → ℕ
distance word other = (osa_table (chars word) (chars other)).last_row (length (chars other))

-- how many edits a word of this length may be away from one that is near it
abbrev pub most_edits : ℕ → ℕ
most_edits letters = if nat_le letters 4 then 1 else 2

-- whether a word is near another one
abbrev pub is_near : (word other : List ℕ) → Bool
is_near word other = nat_le (distance word other) (most_edits (length word))

-- of words from a number on the first of those that are nearest, if one is nearer than a bound; else the one found before
unfoldable pub nearest_from : (word : List ℕ) → (others : List (List ℕ)) → (number bound : ℕ) → (found : Option ℕ) → Option ℕ
nearest_from word [] number bound found = found
nearest_from word (other ∷ others) number bound found =
    if nat_lt (distance word other) bound
    then nearest_from word others (suc number) (distance word other) (Some number)
    else nearest_from word others (suc number) bound found

-- the number of the first of those words that are nearest to a word; none if none is near
abbrev pub nearest : (word : List ℕ) → (others : List (List ℕ)) → Option ℕ
nearest word others = nearest_from word others 0 (most_edits (length word) + 1) None
