-- Whose forms the lines of a call have, by its words and its status.
use Rattle.std.specs.Prelude.{ℕ, Bool, true, false, cond, not, ◌&&◌, ◌||◌, List, [], ◌∷◌, nat_eq, codes}
use Rattle.std.specs.List.{list_any, starts_with}
use Rattle.std.specs.Str.{bytes_eq}
use Rattle.pb_command_io.specs.declared.status.Status.{Status}
use Rattle.pb_command_io.specs.declared.status.Status.TheVariants.{Done, Refused, Words, Limit, Fault, Memory, Device}
use Rattle.pb_command_io.specs.declared.status.Status.TheVariants.{Threads, Deadlock, Unexpected}
use Rattle.pb_json_lines.specs.declared.form.Dialect.{Dialect}
use Rattle.pb_json_lines.specs.declared.form.Dialect.TheVariants.{Program, Record, Debug, Bank, Explain}

-- some word is this option, or begins with it and the sign before its value
abbrev pub is_given : (option begun : List ℕ) → List (List ℕ) → Bool
is_given option begun words = list_any (λ word. bytes_eq word option || starts_with nat_eq word begun) words

-- `outcomes` is asked for the text with the picks to one of them, which `--expect` and `--endless` override
abbrev pub asks_picks : List (List ℕ) → Bool
asks_picks words =
    (not (is_given (codes "--expect") (codes "--expect=") words)
    && not (is_given (codes "--endless") (codes "--endless=") words))
    && (is_given (codes "--run") (codes "--run=") words || is_given (codes "--deadlock") (codes "--deadlock=") words)

-- a text with picks has been written, and not a refusal or that there is none
abbrev pub is_recorded : Status → Bool
is_recorded Done = true
is_recorded Deadlock = true
is_recorded Refused = false
is_recorded Words = false
is_recorded Limit = false
is_recorded Fault = false
is_recorded Memory = false
is_recorded Device = false
is_recorded Threads = false
is_recorded Unexpected = false

-- a command writes a text with the picks of a run
abbrev pub writes_picks : (command : List ℕ) → List (List ℕ) → Bool
writes_picks command words = bytes_eq command (codes "record") || (bytes_eq command (codes "outcomes") && asks_picks words)

-- whose forms the lines of this command have
abbrev pub dialect_for : (command : List ℕ) → List (List ℕ) → Status → Dialect
dialect_for command words status =
    cond (bytes_eq command (codes "debug")) Debug (
    cond (bytes_eq command (codes "bank")) Bank (
    cond (bytes_eq command (codes "explain")) Explain (
    cond (writes_picks command words && is_recorded status) Record Program)))

-- the command is the word after the program's name
abbrev pub dialect_of : List (List ℕ) → Status → Dialect
dialect_of [] status = Program
dialect_of (name ∷ []) status = Program
dialect_of (name ∷ command ∷ words) status = dialect_for command words status

-- the lines of these commands are told as they come, each by itself
abbrev pub comes_live : Dialect → Bool
comes_live Program = false
comes_live Record = false
comes_live Debug = true
comes_live Bank = true
comes_live Explain = false
