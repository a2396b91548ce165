-- What a look for an arm finds: whether it is there, and its line.
use Rattle.std.specs.Prelude.{ℕ, Option, Some, None, option_and_then}
use Rattle.pb_names.specs.HeadLines.{head_line}
use Rattle.pb_names.specs.Source.{Arm, SourceProcess, find}
use Rattle.pb_rewrite.specs.declared.arm.Found.{Found}
use Rattle.pb_rewrite.specs.declared.arm.Found.TheVariants.{At, Nowhere}

-- what is found of an arm, if there is such an arm
abbrev pub found_line : Option Arm → Found
found_line None = Nowhere
found_line (Some arm) = At (head_line arm)

-- the line of an arm of a process
abbrev pub line_in : SourceProcess → ℕ → Option ℕ
line_in process a = option_and_then head_line (option_and_then (find a 0) process.run)
