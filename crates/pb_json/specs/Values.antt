-- JSON numbers, and lists.
use Rattle.std.specs.Prelude.{ℕ, ℤ, pos, negsuc, cond, ◌==◌, nat_lt, List, [], ◌∷◌, ◌++◌, length, Bool}
use Rattle.std.specs.Prelude.{slice_index_or}
use Rattle.std.specs.Fmt.{signed_decimal}
use Rattle.pb_base.specs.Lines.{each_below}

-- a reader that keeps numbers as floats of 64 bits keeps it: it is within ±(2^53 - 1)
abbrev pub is_exact : ℤ → Bool
is_exact (pos n) = nat_lt n 9007199254740992
is_exact (negsuc n) = nat_lt n 9007199254740991

-- an integer: a number, or a string of its digits if a reader might round it
abbrev pub integer_text : ℤ → List ℕ
integer_text v = cond (is_exact v) (signed_decimal v) (34 ∷ (signed_decimal v ++ 34 ∷ []))

-- the comma before an item of a list, if it is not the first
abbrev pub comma : ℕ → List ℕ
comma k = cond (k == 0) [] (44 ∷ [])

-- a list of n items, by their numbers
abbrev pub list_text : (ℕ → List ℕ) → ℕ → List ℕ
list_text item n = 91 ∷ (each_below (λ k. comma k ++ item k) n ++ 93 ∷ [])

-- a list of integers
abbrev pub integers_text : List ℤ → List ℕ
integers_text values = list_text (λ k. integer_text (slice_index_or values k (pos 0))) (length values)
