-- The lines of bytes: each ends in a line feed, which the last may lack.
use Rattle.std.specs.Prelude.{ℕ, zero, suc, cond, ◌==◌, List, [], ◌∷◌, ◌++◌, Option, None, slice_get}

-- lines that a line feed ends, and what is after the last
pub record SplitLines : Type 0 where
  pub lines : List (List ℕ)
  pub rest : List ℕ

-- one line before the others
abbrev pub one_line_more : List ℕ → SplitLines → SplitLines
one_line_more line c = record { lines = line ∷ c.lines; rest = c.rest }

-- the lines of bytes that come after the first part of a line
abbrev pub cut : List ℕ → List ℕ → SplitLines
cut part [] = record { lines = []; rest = part }
cut part (b ∷ bytes) = cond (b == 10) (one_line_more part (cut [] bytes)) (cut (part ++ b ∷ []) bytes)

-- what is after the last line feed is a line, if it is not empty
abbrev pub last_line : List ℕ → List (List ℕ)
last_line [] = []
last_line (b ∷ bytes) = (b ∷ bytes) ∷ []

-- all lines of bytes; the last line feed may be missing
abbrev pub lines_of : List ℕ → List (List ℕ)
lines_of bytes = (cut [] bytes).lines ++ last_line (cut [] bytes).rest

-- line n, counted from 1, without its line feed; none if there is no such line
abbrev pub line_numbered : List ℕ → ℕ → Option (List ℕ)
line_numbered bytes zero = None
line_numbered bytes (suc n) = slice_get (lines_of bytes) n
