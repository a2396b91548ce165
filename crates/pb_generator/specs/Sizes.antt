-- How large a program may be of which code is generated.
use Rattle.std.specs.Prelude.{◌≤◌, length, All}
use Rattle.pb_base.specs.declared.limits.TheConstants.{MAX_AMOUNT, MAX_ARMS, MAX_INTEGERS, MAX_PLACES, MAX_PROCESSES}
use Rattle.pb_base.specs.declared.limits.TheConstants.{MAX_RESOURCES}
use Rattle.pb_names.specs.Program.{Process, Program, arms_of}
use Rattle.pb_generator.specs.Generate.{process_code}

-- a process whose instructions, integers and arms can be numbered
pub record IsGeneratableProcess (process : Process) : Type 0 where
  pub small : length (process_code process).instrs ≤ MAX_PLACES
  pub few_integers : length process.integers ≤ MAX_INTEGERS
  pub few_arms : length (arms_of process) ≤ MAX_ARMS

-- what a program that can be generated keeps within
pub record IsGeneratable (program : Program) : Type 0 where
  pub few_processes : length program.processes ≤ MAX_PROCESSES
  pub few_resources : length program.resources ≤ MAX_RESOURCES
  pub small : All (λ resource. resource.capital ≤ MAX_AMOUNT) program.resources
  pub each : All IsGeneratableProcess program.processes
