-- What `claims` says of an input, as data, and with which status.
use Rattle.std.specs.Prelude.{◌≢◌, ℕ, List, [], ◌∷◌}
use Rattle.std.specs.List.{flat_map, zip}
use Rattle.pb_accept.specs.Sayings.{Saying, Claim, NoMemory, Refused, TooLong}
use Rattle.pb_base.specs.Steppers.{Table}
use Rattle.pb_codegen.specs.Compiled.{IsBeforeClaims, IsRefused}
use Rattle.pb_codegen.specs.Numbered.{IsReadAs}
use Rattle.pb_codegen.specs.declared.fault.CompileFault.{CompileFault}
use Rattle.pb_codegen.specs.declared.fault.CompileFault.TheVariants as fault
use Rattle.pb_command_io.specs.declared.status.Status.{Status}
use Rattle.pb_command_io.specs.declared.status.Status.TheVariants as status
use Rattle.pb_names.specs.Program.{Name, Program}
use Rattle.pb_names.specs.Resolves.{process_names, resource_names}
use Rattle.pb_voice.specs.Inputs as inputs

-- what is said of a process: its claim on each resource, in the order of the resources
abbrev pub said_of_process : List Name → Name → List ℕ → List Saying
said_of_process resources process row =
    flat_map (λ claim. Claim process claim.0 claim.1 ∷ []) (zip row resources)

-- what is said of a program: that of each process with its row of claims, in the order of the processes
abbrev pub said_of_program : Program → Table → List Saying
said_of_program program claims =
    flat_map (λ process. said_of_process (resource_names program) process.0 process.1)
    (zip (process_names program) claims)

-- what is said of a text: it spells no program; or it spells one, whose claims are told, whatever its capital
pub data SaysOfClaims (text : List ℕ) : List Saying → Status → Type 0 where
  refused : (f : CompileFault) → f ≢ fault.Memory → IsRefused text f → IsBeforeClaims f
      → SaysOfClaims text (Refused f ∷ []) status.Refused
  claimed : (program : Program) (claims : Table) → IsReadAs text program claims
      → SaysOfClaims text (said_of_program program claims) status.Done

-- what may be said of any input of which this is said if it is read
abbrev pub SaysOfAny : (List ℕ → List Saying → Status → Type 0) → List ℕ → List Saying → Status → Type 0
SaysOfAny = inputs.SaysOfWhole TooLong NoMemory
