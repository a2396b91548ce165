-- How each command is spelled.
use Rattle.std.specs.Prelude.{◌≡◌, ◌↔◌, ◌⊎◌, ℕ, ◌<◌, ◌≤◌, true, List, ◌∷◌, ◌++◌, length, codes, Some, ⊤}
use Rattle.std.specs.Fmt.{decimal}
use Rattle.pb_debug_commands.specs.Commands.{Command, To, Step, Back, Mark, Vars, Threads, Fault, Wrote, Until, Loans, Next, Prev}
use Rattle.pb_debug_commands.specs.Commands.{Help, Circle, Arms, Line, Text, Why, Stack, Pick, Does, Who, command_of, looks_like_name, trimmed}

-- the bytes of a command: a word, and after a space a number, a name, or a process and an arm with a point
-- between
abbrev pub command_spelling : Command → List ℕ
command_spelling (To n) = codes "to " ++ decimal n
command_spelling (Step n) = codes "step " ++ decimal n
command_spelling (Back n) = codes "back " ++ decimal n
command_spelling (Mark n) = codes "mark " ++ decimal n
command_spelling (Vars process) = codes "vars " ++ process
command_spelling (Threads process) = codes "threads " ++ process
command_spelling (Fault process) = codes "fault " ++ process
command_spelling (Wrote process integer) = codes "wrote " ++ (process ++ 32 ∷ integer)
command_spelling (Until process arm n) = codes "until " ++ ((process ++ 46 ∷ decimal arm) ++ 32 ∷ decimal n)
command_spelling Loans = codes "loans"
command_spelling Circle = codes "circle"
command_spelling Arms = codes "arms"
command_spelling Next = codes "next"
command_spelling Prev = codes "prev"
command_spelling Help = codes "help"
command_spelling (Who resource) = codes "who " ++ resource
command_spelling (Line process arm) = codes "line " ++ (process ++ 46 ∷ decimal arm)
command_spelling (Text process arm) = codes "text " ++ (process ++ 46 ∷ decimal arm)
command_spelling (Why process arm) = codes "why " ++ (process ++ 46 ∷ decimal arm)
command_spelling (Stack process arm) = codes "stack " ++ (process ++ 46 ∷ decimal arm)
command_spelling (Pick process arm) = codes "pick " ++ (process ++ 46 ∷ decimal arm)
command_spelling (Does process arm) = codes "does " ++ (process ++ 46 ∷ decimal arm)

-- its numbers have at most eight digits, but that a mark is up to 4294967295, and its names look like names
abbrev pub IsProper : Command → Type 0
IsProper (To n) = n < 100000000
IsProper (Step n) = n < 100000000
IsProper (Back n) = n < 100000000
IsProper (Mark n) = n < 4294967296
IsProper (Vars process) = looks_like_name process ≡ true
IsProper (Threads process) = looks_like_name process ≡ true
IsProper (Fault process) = looks_like_name process ≡ true
IsProper (Wrote process integer) = (looks_like_name process ≡ true) × (looks_like_name integer ≡ true)
IsProper (Until process arm n) = (looks_like_name process ≡ true) × (arm < 100000000) × (n < 100000000)
IsProper Loans = ⊤
IsProper Circle = ⊤
IsProper Arms = ⊤
IsProper Next = ⊤
IsProper Prev = ⊤
IsProper Help = ⊤
IsProper (Who resource) = looks_like_name resource ≡ true
IsProper (Line process arm) = (looks_like_name process ≡ true) × (arm < 100000000)
IsProper (Text process arm) = (looks_like_name process ≡ true) × (arm < 100000000)
IsProper (Why process arm) = (looks_like_name process ≡ true) × (arm < 100000000)
IsProper (Stack process arm) = (looks_like_name process ≡ true) × (arm < 100000000)
IsProper (Pick process arm) = (looks_like_name process ≡ true) × (arm < 100000000)
IsProper (Does process arm) = (looks_like_name process ≡ true) × (arm < 100000000)

-- one step, without its number
abbrev pub IsOneStep : List ℕ → Command → Type 0
IsOneStep line c = ((line ≡ codes "step") × (c ≡ Step 1)) ⊎ ((line ≡ codes "back") × (c ≡ Back 1))

-- a line of at most 256 bytes says a command exactly if it is its spelling, but for white space at its end
abbrev pub CommandsBySpelling : Type 0
CommandsBySpelling =
    (line : List ℕ) (c : Command)
    → (command_of line ≡ Some c)
    ↔ (((trimmed line ≡ command_spelling c) ⊎ IsOneStep (trimmed line) c) × IsProper c × (length line ≤ 256))
