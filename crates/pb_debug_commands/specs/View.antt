-- Commands as they are held, seen as the plain ones.
use Rattle.std.specs.Prelude.{ℕ, List}
use Rattle.pb_debug_commands.specs.declared.command.Command.{Command as Given}
use Rattle.pb_debug_commands.specs.declared.command.Command.TheVariants as given
use Rattle.pb_debug_commands.specs.declared.words.ArmWord.{ArmWord}
use Rattle.pb_debug_commands.specs.declared.words.IntegerWord.{IntegerWord}
use Rattle.pb_debug_commands.specs.Commands.{Command, To, Step, Back, Mark, Vars, Threads, Fault, Wrote, Until, Loans, Next, Prev}
use Rattle.pb_debug_commands.specs.Commands.{Help, Circle, Arms, Line, Text, Why, Stack, Pick, Does, Who}

-- an arm of a process
abbrev pub arm_view : ArmWord → List ℕ × ℕ
arm_view word = (word.process.now, word.arm)

-- an integer of a process
abbrev pub integer_view : IntegerWord → List ℕ × List ℕ
integer_view word = (word.process.now, word.integer.now)

-- a command
abbrev pub command_view : Given → Command
command_view (given.To n) = To n
command_view (given.Step n) = Step n
command_view (given.Back n) = Back n
command_view (given.Mark n) = Mark n
command_view (given.Vars word) = Vars word.now
command_view (given.Threads word) = Threads word.now
command_view (given.Fault word) = Fault word.now
command_view (given.Wrote word) = Wrote word.process.now word.integer.now
command_view (given.Until word) = Until word.process.now word.arm word.line
command_view given.Loans = Loans
command_view given.Circle = Circle
command_view given.Arms = Arms
command_view given.Next = Next
command_view given.Prev = Prev
command_view given.Help = Help
command_view (given.Who word) = Who word.now
command_view (given.Line word) = Line word.process.now word.arm
command_view (given.Text word) = Text word.process.now word.arm
command_view (given.Why word) = Why word.process.now word.arm
command_view (given.Stack word) = Stack word.process.now word.arm
command_view (given.Pick word) = Pick word.process.now word.arm
command_view (given.Does word) = Does word.process.now word.arm
