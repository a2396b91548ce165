-- The exit status of the program.
use Rattle.std.specs.Prelude.{ℕ}
use Rattle.pb_command_io.specs.declared.status.Status.{Status}
use Rattle.pb_command_io.specs.declared.status.Status.TheVariants.{Done, Refused, Words, Limit, Fault, Memory, Device}
use Rattle.pb_command_io.specs.declared.status.Status.TheVariants.{Threads, Deadlock, Unexpected}

-- the number of each status
abbrev pub status_number : Status → ℕ
status_number Done = 0
status_number Refused = 1
status_number Words = 2
status_number Limit = 3
status_number Fault = 4
status_number Memory = 5
status_number Device = 6
status_number Threads = 7
status_number Deadlock = 9
status_number Unexpected = 10
