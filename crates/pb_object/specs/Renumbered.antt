-- Two lines that differ in their numbers alone.
use Rattle.std.specs.Prelude.{◌≡◌, ◌⊎◌, ◌<◌, Bool, true, false, cond, not, ◌&&◌, ◌||◌, ◌==◌, List, [], ◌∷◌, length, codes, ⊤}
use Rattle.std.specs.List.{list_all}
use Rattle.std.specs.Str.{bytes_eq}
use Rattle.pb_base.specs.declared.limits.TheConstants.{MAX_INTEGERS}
use Rattle.pb_code.specs.Names.{Word, is_name}
use Rattle.pb_code.specs.Numerals.{is_numeral}
use Rattle.pb_object.specs.Instructions.{names_resource}
use Rattle.pb_object.specs.Reading.{says_number}

-- a number below 0, however small
abbrev pub is_below : Word → Bool
is_below [] = false
is_below (b ∷ ds) = b == 45 && (is_numeral ds && not (bytes_eq ds (codes "0")))

-- the same word, or both are numbers, or both are numbers below 0, however large
abbrev pub AreAlike : Word → Word → Type 0
AreAlike v w = (v ≡ w) ⊎ (((is_numeral v ≡ true) × (is_numeral w ≡ true)) ⊎ ((is_below v ≡ true) × (is_below w ≡ true)))

-- word for word
abbrev pub AllAlike : List Word → List Word → Type 0
AllAlike [] [] = ⊤
AllAlike [] (w ∷ ws) = ⊥
AllAlike (v ∷ vs) [] = ⊥
AllAlike (v ∷ vs) (w ∷ ws) = AreAlike v w × AllAlike vs ws

-- the line has no number that could be another: it names the format, or says how many names follow
abbrev pub is_fixed : List Word → Bool
is_fixed [] = false
is_fixed (k ∷ []) = false
is_fixed (k ∷ n ∷ names) = bytes_eq k (codes "PBO") || (bytes_eq k (codes "vars") && says_number n (length names))

-- whether a keyword is that of a take or of a give
abbrev pub lends : Word → Bool
lends k = bytes_eq k (codes "take") || bytes_eq k (codes "give")

-- each second word, from the first on, is there once
abbrev pub is_once : List Word → Bool
is_once [] = true
is_once (r ∷ []) = true
is_once (r ∷ k ∷ ws) = not (names_resource ws r) && is_once ws

-- no resource is there twice after `take` or `give`, the first word or the one after the source line
abbrev pub takes_once : List Word → Bool
takes_once [] = true
takes_once (k ∷ []) = true
takes_once (k ∷ j ∷ ws) = cond (lends k) (is_once (j ∷ ws)) (cond (lends j) (is_once ws) true)

-- The words `line` are the words `other` with other numbers.
pub record IsRenumbered (other line : List Word) : Type 0 where
  pub alike : AllAlike other line
  pub fixed : is_fixed other ≡ true → line ≡ other
  pub once : takes_once line ≡ true

-- more names of integers than a process can have, and their number
pub record HasManyNames (line : List Word) : Type 0 where
  pub count : Word
  pub names : List Word
  pub words : line ≡ codes "vars" ∷ count ∷ names
  pub counted : says_number count (length names) ≡ true
  pub all_names : list_all is_name names ≡ true
  pub many : MAX_INTEGERS < length names

-- The line is of the form that the other one has: it has other numbers, or names too many integers.
abbrev pub IsOfForm : List Word → List Word → Type 0
IsOfForm other line =
    IsRenumbered other line ⊎ (HasManyNames line × (other ≡ codes "vars" ∷ codes "1" ∷ codes "a" ∷ []))
