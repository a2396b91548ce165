-- The parts of an input, which lines `%%` part.
use Rattle.std.specs.Prelude.{◌≡◌, ◌+◌, ◌-◌, ◌<◌, ◌⊎◌, ℕ, List, [], ◌∷◌, Some, drop, take, slice_get}

-- a line of the two bytes `%%`, which a line feed or the end of the text ends
abbrev pub IsMark : List ℕ → Type 0
IsMark text = (text ≡ 37 ∷ 37 ∷ []) ⊎ ((after : List ℕ) × (text ≡ 37 ∷ 37 ∷ 10 ∷ after))

-- such a line begins at this place
pub record IsMarkAt (text : List ℕ) (at : ℕ) : Type 0 where
  pub begins : (at ≡ 0) ⊎ (slice_get text (at - 1) ≡ Some 10)
  pub marks : IsMark (drop at text)

-- such a line begins at no place below n
abbrev pub HasNoMarkBelow : List ℕ → ℕ → Type 0
HasNoMarkBelow text n = (at : ℕ) → at < n → ¬ IsMarkAt text at

-- a text with no mark has itself as its one part; else its first part ends before the first mark, and what
-- follows the mark has the others
pub data AreParts : List ℕ → List (List ℕ) → Type 0 where
  last : (text : List ℕ) → ((at : ℕ) → ¬ IsMarkAt text at) → AreParts text (text ∷ [])
  more : (text : List ℕ) (at : ℕ) (parts : List (List ℕ)) → IsMarkAt text at → HasNoMarkBelow text at
      → AreParts (drop (at + 3) text) parts → AreParts text (take at text ∷ parts)

-- the text is cut at its first mark
abbrev pub IsCutAt : (text part rest : List ℕ) → Type 0
IsCutAt text part rest =
    (at : ℕ) × IsMarkAt text at × HasNoMarkBelow text at × (part ≡ take at text) × (rest ≡ drop (at + 3) text)

-- the text is cut at its first mark; if it has none, it is its own first part, and nothing is after that
abbrev pub AreTwoParts : (text part rest : List ℕ) → Type 0
AreTwoParts text part rest =
    IsCutAt text part rest ⊎ ((part ≡ text) × (rest ≡ []) × ((at : ℕ) → ¬ IsMarkAt text at))
