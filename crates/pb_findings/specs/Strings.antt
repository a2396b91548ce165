-- Strings of JSON in UTF-8, and lists.
use Rattle.std.specs.Prelude.{ℕ, cond, ◌==◌, ◌/◌, ◌%◌, nat_lt, List, [], ◌∷◌, ◌++◌, codes}
use Rattle.std.specs.List.{flat_map}
use Rattle.pb_json.specs.Strings.{hex_digit}

-- what is written of a byte inside a string: `\"`, `\\`, `\n`, `\u00` and two digits of base 16 for another control byte, or
-- itself
abbrev pub byte_in_words : ℕ → List ℕ
byte_in_words b =
    cond (b == 34) (92 ∷ 34 ∷ [])
    (cond (b == 92) (92 ∷ 92 ∷ [])
    (cond (b == 10) (92 ∷ 110 ∷ [])
    (cond (nat_lt b 32) (92 ∷ 117 ∷ 48 ∷ 48 ∷ hex_digit (b / 16) ∷ hex_digit (b % 16) ∷ [])
    (b ∷ []))))

-- what stands for some bytes inside a string
abbrev pub inside : List ℕ → List ℕ
inside bytes = flat_map byte_in_words bytes

-- the string of some bytes, between its quotes
abbrev pub words_text : List ℕ → List ℕ
words_text bytes = 34 ∷ (inside bytes ++ 34 ∷ [])

-- a member of an object, of this name with what separates it from the others
abbrev pub words_member : (name bytes : List ℕ) → List ℕ
words_member name bytes = name ++ words_text bytes

-- ---- lists

-- an item that is not the first of a list
abbrev pub further : {X : Type 0} → (X → List ℕ) → X → List ℕ
further item x = codes ", " ++ item x

-- the items of a list
abbrev pub items_text : {X : Type 0} → (X → List ℕ) → List X → List ℕ
items_text item [] = []
items_text item (x ∷ xs) = item x ++ flat_map (further item) xs

-- a member of an object that is a list, of this name with what separates it from the others
abbrev pub list_member : {X : Type 0} → (name : List ℕ) → (X → List ℕ) → List X → List ℕ
list_member name item xs = name ++ (codes "[" ++ (items_text item xs ++ codes "]"))
