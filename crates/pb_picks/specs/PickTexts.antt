-- Pick lines as they are written: each says a pick and how often it is made, as `P.a COUNT`.
use Rattle.std.specs.Prelude.{ℕ, List, [], ◌∷◌, ◌++◌}
use Rattle.std.specs.Fmt.{decimal}
use Rattle.pb_base.specs.Lines.{name_of}
use Rattle.pb_history.specs.declared.counted.CountedPick.{CountedPick}

-- the arm and the count, in decimal with one space between them
abbrev pub arm_and_count : ℕ → ℕ → List ℕ
arm_and_count arm count = decimal arm ++ (32 ∷ decimal count)

-- the line of a counted pick, without its line feed
abbrev pub pick_line : List (List ℕ) → CountedPick → List ℕ
pick_line names c = name_of names c.pick.process ++ (46 ∷ arm_and_count c.pick.arm c.count)

-- the lines of counted picks in their order, each with its line feed
abbrev pub pick_lines : List (List ℕ) → List CountedPick → List ℕ
pick_lines names [] = []
pick_lines names (c ∷ picks) = pick_line names c ++ (10 ∷ pick_lines names picks)
