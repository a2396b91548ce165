-- The numbers of processes and arms fit a byte.
use Rattle.std.proofs.Common.{◌≡◌, ℕ, ◌≤◌, [], length, get_or, Some, arith}
use Rattle.std.specs.Prelude.{slice_get}
use Rattle.std.proofs.lemmas.Option.{slice_get-get_or, slice_get_within}
use Rattle.pb_base.specs.declared.lending.Lending.{Lending}
use Rattle.pb_code.specs.Code.{CodeProcess, ProcessCode}
use Rattle.pb_machine.proofs.EitherLending.{good_reached}
use Rattle.pb_machine.specs.Views.{machine_view, IsMachineBy}
use Rattle.pb_machine.specs.declared.machine.Machine.{Machine}
use Rattle.pb_verifier.specs.declared.fault.VerifyFault.TheVariants.{OutOfLimits}
use Rattle.pb_verifier.specs.Verified.{VerifiedCode, IsVerified}

module _ {lending : Lending} (v : VerifiedCode) (verified : IsVerified v) (m : Machine) (of : IsMachineBy lending v m) where
  pub few_processes : length (machine_view m).processes ≤ 64
  few_processes =
      let count = (good_reached v.code verified.faultless lending (machine_view m) of.reached).count in
      let few = (verified.faultless OutOfLimits).some_processes.1 in
      omega (arith, count, few)

  pub few_arms : (p : ℕ) (process : CodeProcess) → slice_get (machine_view m).processes p ≡ Some process → length process.threads ≤ 64
  few_arms p process there =
      let good = good_reached v.code verified.faultless lending (machine_view m) of.reached in
      let count = good.count in
      let within = slice_get_within (machine_view m).processes p process there in
      let none : ProcessCode = record { integers = 0; entries = []; instrs = [] } in
      let code : ProcessCode = get_or v.code.processes p none in
      let at : slice_get v.code.processes p ≡ Some code = slice_get-get_or v.code.processes p none (omega (arith, count, within)) in
      let threads = (good.fit p code process at there).threads in
      let few = ((verified.faultless OutOfLimits).each p code at).some_arms.1 in
      omega (arith, threads, few)
