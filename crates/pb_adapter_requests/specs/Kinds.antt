-- What a request asks for, by its command.
use Rattle.std.specs.Prelude.{ℕ, cond, List, codes}
use Rattle.std.specs.Str.{bytes_eq}
use Rattle.pb_adapter_requests.specs.declared.kind.Kind.{Kind}
use Rattle.pb_adapter_requests.specs.declared.kind.Kind.TheVariants as kind

-- what a command that moves the run asks for; else what is given
abbrev pub move_or : List ℕ → Kind → Kind
move_or c other =
    cond (bytes_eq c (codes "continue")) kind.Continue
    (cond (bytes_eq c (codes "reverseContinue")) kind.ReverseContinue
    (cond (bytes_eq c (codes "next")) kind.Step
    (cond (bytes_eq c (codes "stepIn")) kind.Step
    (cond (bytes_eq c (codes "stepOut")) kind.Step
    (cond (bytes_eq c (codes "stepBack")) kind.StepBack
    (cond (bytes_eq c (codes "restart")) kind.Restart
    (cond (bytes_eq c (codes "pause")) kind.Pause other)))))))

-- what a command that asks for the state at the position asks for; else what is given
abbrev pub shows_or : List ℕ → Kind → Kind
shows_or c other =
    cond (bytes_eq c (codes "threads")) kind.Threads
    (cond (bytes_eq c (codes "stackTrace")) kind.StackTrace
    (cond (bytes_eq c (codes "scopes")) kind.Scopes
    (cond (bytes_eq c (codes "variables")) kind.Variables
    (cond (bytes_eq c (codes "evaluate")) kind.Evaluate other))))

-- what a command asks for
abbrev pub kind_of : List ℕ → Kind
kind_of c =
    cond (bytes_eq c (codes "initialize")) kind.Initialize
    (cond (bytes_eq c (codes "launch")) kind.Launch
    (cond (bytes_eq c (codes "setBreakpoints")) kind.SetBreakpoints
    (cond (bytes_eq c (codes "setExceptionBreakpoints")) kind.SetEvents
    (cond (bytes_eq c (codes "disconnect")) kind.Disconnect
    (cond (bytes_eq c (codes "configurationDone")) kind.ConfigurationDone
    (cond (bytes_eq c (codes "terminate")) kind.Terminate
    (shows_or c (move_or c kind.Unknown))))))))
