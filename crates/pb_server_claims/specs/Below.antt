-- What is made of each number below another one.
use Rattle.std.specs.Prelude.{ℕ, zero, suc, List, [], ◌++◌, cond, length, slice_index_or}
use Rattle.std.specs.Str.{bytes_eq}
use Rattle.pb_names.specs.Program.{Name}

-- what is made of each number below n, one after another
abbrev pub each_below : {X : Type 0} → (ℕ → List X) → ℕ → List X
each_below made zero = []
each_below made (suc n) = each_below made n ++ made n

-- what is made of the number of a name among others
abbrev pub made_of : {X : Type 0} → List Name → Name → (ℕ → List X) → List X
made_of names name made =
    each_below (λ i. cond (bytes_eq (slice_index_or names i []) name) (made i) []) (length names)
