use Rattle.std.proofs.Common.{ap, arith, length, rules}
use Rattle.std.proofs.lemmas.Grind.{common_steps}
use Rattle.std.proofs.lemmas.List.{length-map}
use Rattle.pb_code.specs.View.{process_view}
use Rattle.pb_code.specs.Whole.{Code}
use Rattle.pb_verifier.specs.declared.fault.VerifyFault.TheVariants.{OutOfLimits}
use Rattle.pb_example_batch.proofs.run_batch.Goals as goal

pub results-requires : goal.results-requires
results-requires g c =
    let given = c.code.result.now in
    let few = (c.code.ensures.verified.faultless OutOfLimits).some_processes.1 in
    let same = ap (λ (code : Code). length code.processes) c.code.ensures.code in
    let count = length-map given.processes.items process_view in
    omega (arith, few, same, count, c.len-jobs.ensures, given.processes.ok.0)

pub returns : goal.returns
returns g c = grind (arith, rules, common_steps)
