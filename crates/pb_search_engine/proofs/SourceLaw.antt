-- The laws of the outcomes and of the runs of a text.
use Rattle.std.proofs.Common.{sym, subst}
use Rattle.pb_base.specs.declared.lending.Lending.{Lending}
use Rattle.pb_base.specs.Steppers.{Table}
use Rattle.pb_codegen.proofs.VerifiedProcesses.{well_numbered}
use Rattle.pb_generator.specs.Generate.{program_code}
use Rattle.pb_names.specs.Program.{AllWellNumbered, Program}
use Rattle.pb_names.specs.Resolves.{resource_names}
use Rattle.pb_search_engine.specs.SourceFair.{FairRunsEnd, FairRunsOfProgramsEnd}
use Rattle.pb_search_engine.specs.SourceOutcomes.{HasOutcomesOf, OutcomesAreThoseOfTheProgram}
use Rattle.pb_search_engine.specs.SourceRuns.{HasRunsOf, RunsAreThoseOfTheProgram}
use Rattle.pb_search_engine.proofs.PrintedOutcomes.{listed_printed, same_printed}
use Rattle.pb_search_engine.proofs.SourceFairLemmas.{fair_run_of_code}
use Rattle.pb_search_engine.proofs.SourceOutcomeLemmas.{listed_is, same_outcome}
use Rattle.pb_search_engine.proofs.SourceRunLemmas.{has_runs}

-- the code of a program has the outcomes of the program
has_outcomes : (lending : Lending) (program : Program) (claims : Table) → AllWellNumbered program.processes
    → HasOutcomesOf program lending (program_code program claims)
has_outcomes lending program claims numbered = record {
  same = λ outcome. same_outcome lending program claims numbered outcome;
  listed = λ found are outcome.
      let l = listed_is lending (program_code program claims) found are outcome in
      let same = same_outcome lending program claims numbered outcome in
      (λ has. same.0 (l.0 has), λ is. l.1 (same.1 is));
  same_printed = λ outcome. same_printed lending program claims numbered outcome;
  listed_printed = λ found are outcome.
      let l = listed_printed lending (program_code program claims) found are outcome in
      let same = same_printed lending program claims numbered outcome in
      (λ has. same.0 (l.0 has), λ is. l.1 (same.1 is));
}

pub outcomes_are_those_of_the_program : OutcomesAreThoseOfTheProgram
outcomes_are_those_of_the_program text code labels is =
    let program = is.program in
    let arms = well_numbered (resource_names program) is.numbered.tree.processes program.processes is.numbered.numbered.processes in (
      program,
      is.numbered,
      λ lending. subst (HasOutcomesOf program lending) (sym is.generated) (has_outcomes lending program code.claims arms),
    )

pub runs_are_those_of_the_program : RunsAreThoseOfTheProgram
runs_are_those_of_the_program text code labels is =
    let program = is.program in
    let arms = well_numbered (resource_names program) is.numbered.tree.processes program.processes is.numbered.numbered.processes in (
      program,
      is.numbered,
      λ mode. subst (HasRunsOf program mode) (sym is.generated) (has_runs mode program code.claims arms),
    )

-- the fair runs of a program end if those of its code do
pub fair_end : (lending : Lending) (program : Program) (claims : Table) → AllWellNumbered program.processes
    → FairRunsEnd program lending (program_code program claims)
fair_end lending program claims numbered = record {
  kept = λ run. fair_run_of_code lending program claims numbered run;
  told = λ states none run. none (fair_run_of_code lending program claims numbered run);
}

pub fair_runs_of_programs_end : FairRunsOfProgramsEnd
fair_runs_of_programs_end text code labels is =
    let program = is.program in
    let arms = well_numbered (resource_names program) is.numbered.tree.processes program.processes is.numbered.numbered.processes in (
      program,
      is.numbered,
      λ lending. subst (FairRunsEnd program lending) (sym is.generated) (fair_end lending program code.claims arms),
    )
