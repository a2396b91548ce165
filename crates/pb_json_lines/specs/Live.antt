-- Lines that are told as JSON lines as they come, each by itself.
use Rattle.std.specs.Prelude.{◌≡◌, ◌++◌, ℕ, false, List, [], ◌∷◌, Option, Some, None, length}
use Rattle.pb_base.specs.Device.{appended, one_more_failure, AddsPrefix}
use Rattle.pb_base.specs.Lines.{line}
use Rattle.pb_command_io.specs.Answers.{Says}
use Rattle.pb_command_io.specs.Faults.{TellsWriteFaults}
use Rattle.pb_command_io.specs.declared.status.Status.{Status}
use Rattle.pb_command_io.specs.declared.status.Status.TheVariants.{Device, Memory}
use Rattle.pb_json_lines.specs.JsonLines.{lines_of, object_of}
use Rattle.pb_json_lines.specs.Replies.{memory_object}
use Rattle.pb_json_lines.specs.declared.form.Dialect.{Dialect}
use Rattle.pb_json_lines.specs.declared.telling.Telling.{Telling}
use Rattle.pb_json_lines.specs.declared.telling.Telling.TheVariants.{Whole, Failed, NoMemory}

-- an object for each line
abbrev pub lines_alone : Dialect → List (List ℕ) → List ℕ
lines_alone dialect [] = []
lines_alone dialect (text ∷ lines) = line (object_of dialect false text) ++ lines_alone dialect lines

-- the JSON lines of a text, each line by itself. laws.rt says that those of `debug` and of `bank` are no others
unfoldable pub told_alone : Dialect → List ℕ → List ℕ
told_alone dialect text = lines_alone dialect (lines_of text)

-- an output that passes on what it is given, or tells the lines of it as JSON lines: what is written to the output
-- after it, and how many writes have failed; and if it tells lines, in whose forms, the bytes that it was given,
-- how it went, and how many writes it has refused
pub record LiveSink : Type 0 where
  pub written : Option (List ℕ)
  pub writes : ℕ
  pub dialect : Option Dialect
  pub heard : List ℕ
  pub telling : Telling
  pub refused : ℕ

-- what was written by one who writes to it: the text, if it tells lines
abbrev pub seen_in : (dialect : Option Dialect) → (written : Option (List ℕ)) → (heard : List ℕ) → Option (List ℕ)
seen_in None written heard = written
seen_in (Some dialect) written heard = Some heard

-- what was written to an output, as its writers see it
abbrev pub seen_by_writers : LiveSink → Option (List ℕ)
seen_by_writers s = seen_in s.dialect s.written s.heard

-- how many of that one's writes have failed
abbrev pub failed_in : (dialect : Option Dialect) → (writes refused : ℕ) → ℕ
failed_in None writes refused = writes
failed_in (Some dialect) writes refused = refused

-- how many writes to an output have failed, as its writers see it
abbrev pub failures_of_writers : LiveSink → ℕ
failures_of_writers s = failed_in s.dialect s.writes s.refused

-- the bytes end with a line, or there are none: what comes next begins one
abbrev pub EndsLine : List ℕ → Type 0
EndsLine front = (more : List ℕ) → lines_of (front ++ more) ≡ lines_of front ++ lines_of more

-- of these bytes the first are told, after what was written before: all lines that have ended
pub record TellsFront (dialect : Dialect) (heard : List ℕ) (told : ℕ) (before written : Option (List ℕ)) : Type 0 where
  pub front : List ℕ
  pub rest : List ℕ
  pub split : heard ≡ front ++ rest
  pub count : length front ≡ told
  pub ended : EndsLine front
  pub written_so : written ≡ appended before (told_alone dialect front)

-- what is told so far, after what was written before, when this many writes had failed: if a write failed, or there
-- was no memory, some first part
abbrev pub IsToldSoFar : Telling → Dialect → (heard : List ℕ) → (told : ℕ) → (before : Option (List ℕ)) → (failed : ℕ)
    → (written : Option (List ℕ)) → (writes : ℕ) → Type 0
IsToldSoFar Whole dialect heard told before failed written writes =
    TellsFront dialect heard told before written × (writes ≡ failed)
IsToldSoFar Failed dialect heard told before failed written writes =
    AddsPrefix before written (told_alone dialect heard) × (writes ≡ one_more_failure failed)
IsToldSoFar NoMemory dialect heard told before failed written writes =
    AddsPrefix before written (told_alone dialect heard) × (writes ≡ failed)

-- so it is of an output that tells lines
abbrev pub IsLive : Option Dialect → (heard : List ℕ) → (told : ℕ) → Telling → (written : Option (List ℕ)) → (writes : ℕ) → Type 0
IsLive None heard told telling written writes = told ≡ 0
IsLive (Some dialect) heard told telling written writes =
    (before : Option (List ℕ)) × (failed : ℕ) × IsToldSoFar telling dialect heard told before failed written writes

-- what is told of a text in the end, after what was written before: its JSON lines, with the status of its command;
-- or a write failed, or memory did not suffice, and some first part of them
pub data EndsTelling (dialect : Dialect) (text : List ℕ) (given : Status) (before : Option (List ℕ)) (failed : ℕ)
    : Option (List ℕ) → ℕ → Status → Type 0 where
  whole : EndsTelling dialect text given before failed (appended before (told_alone dialect text)) failed given
  broken : (written : Option (List ℕ)) → AddsPrefix before written (told_alone dialect text)
      → EndsTelling dialect text given before failed written (one_more_failure failed) Device
  no_memory : (between written : Option (List ℕ)) (writes : ℕ) (answered : Status)
      → AddsPrefix before between (told_alone dialect text) → Says between written memory_object Memory answered
      → TellsWriteFaults failed writes answered → EndsTelling dialect text given before failed written writes answered

-- the same, whatever was written before, and however many writes had failed
abbrev pub TellsLive : Dialect → (text : List ℕ) → (given : Status) → (written : Option (List ℕ)) → (writes : ℕ) → Status → Type 0
TellsLive dialect text given written writes answered =
    (before : Option (List ℕ)) × (failed : ℕ) × EndsTelling dialect text given before failed written writes answered

-- an output that begins to tell lines
abbrev pub begun : Dialect → LiveSink → LiveSink
begun dialect s =
    record { written = s.written; writes = s.writes; dialect = Some dialect; heard = []; telling = Whole; refused = 0 }

-- how an output is left in the end, by whether it tells lines
abbrev pub EndsSo : Option Dialect → (after : LiveSink) → (given : Status) → (new : LiveSink) → Status → Type 0
EndsSo None after given new answered = (new ≡ after) × (answered ≡ given)
EndsSo (Some dialect) after given new answered =
    TellsLive dialect after.heard given new.written new.writes answered × (new.dialect ≡ None)

-- the lines that an output was to tell are told, its command having ended with this status, and it passes on again what
-- it is given
abbrev pub IsEnded : (after : LiveSink) → (given : Status) → (new : LiveSink) → Status → Type 0
IsEnded after given new answered = EndsSo after.dialect after given new answered
