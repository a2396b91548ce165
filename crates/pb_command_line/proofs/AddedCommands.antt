-- The rules of a subcommand that is added, if there was memory to make it.
use Rattle.std.proofs.Common.{◌≡◌}
use Rattle.std.specs.Prelude.{IfOk, Result, Ok, Err}
use Rattle.clap.specs.Words.{App, app_of}
use Rattle.clap.specs.declared.builder.command.Command.{Command}
use Rattle.pb_command_line.specs.CommandLine.{IsCommand}

pub has_rules : {E : Type 0} (a : App) (r : Result Command E) → IfOk r (IsCommand a) → IfOk r (λ c. app_of c ≡ a)
has_rules a (Ok c) h = h.0
has_rules a (Err e) h = tt
