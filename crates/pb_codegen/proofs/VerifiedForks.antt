-- The forks of generated code are sound.
use Rattle.std.proofs.Common.{◌≡◌, inl, inr, ◌⊎◌, ℕ, suc, ◌+◌, ◌-◌, ◌<◌, ◌≤◌, length, subst, arith}
use Rattle.std.proofs.lemmas.Option.{slice_get_within}
use Rattle.pb_names.specs.Program.{Process, arms_of, arms_in, IsWellNumbered}
use Rattle.pb_code.specs.Code.{Instr, Fork, Join, ProcessCode}
use Rattle.pb_verifier.specs.Places.{InstrAt, arms, IsInArm, IsAmong}
use Rattle.pb_verifier.specs.Faults.{HasForks}
use Rattle.pb_verifier.proofs.ForkTables.{arm_of}
use Rattle.pb_generator.specs.Generate.{arm_code, process_code}
use Rattle.pb_codegen.proofs.VerifiedForkCounts.{among, one_among, among_or_none, times_in}
use Rattle.pb_codegen.proofs.VerifiedForkCounts.{named_once_at_least, place_naming, one_place}
use Rattle.pb_codegen.proofs.VerifiedInstructions.{EachInstr, each_instr_at, each_of_arm}
use Rattle.pb_codegen.proofs.VerifiedLaterArms.{ForksFrom, forks_from_elsewhere, forks_later}
use Rattle.pb_codegen.proofs.VerifiedArmRanges.{block_at, within, lies, in_code, instr_in_arm, jumps_well, has_arms}
use Rattle.pb_codegen.proofs.VerifiedForkOnce.{times_in-body}
use Rattle.pb_codegen.proofs.VerifiedJoins.{paired_arms, join_after, fork_before}
use Rattle.pb_codegen.proofs.SimulationPlaces.{length-entries}

module _ (process : Process) (numbered : IsWellNumbered process) where
  abbrev code : ProcessCode
  code = process_code process

  count_arms : arms code ≡ suc (length (arms_in process.body))
  count_arms = length-entries 0 (arms_of process)

  -- a place is in some arm
  pub arm_with : (place : ℕ) (i : Instr) → InstrAt (process_code process) place i
      → (a : ℕ) × IsInArm (process_code process) a place
  arm_with place i at =
      arm_of code (has_arms process) (let n = count_arms in omega (arith, n)) place
      (slice_get_within code.instrs place i at)

  -- a fork that names an arm names one that is there
  named_within : (place first n b : ℕ) → InstrAt code place (Fork first n) → IsAmong first n b → b < arms code
  named_within place first n b at h = go (among_or_none b 1 (length (arms_in process.body)))
    where
      go : IsAmong 1 (length (arms_in process.body)) b ⊎ (among b 1 (length (arms_in process.body)) ≡ 0)
          → b < arms code
      go (inl w) = let l = w.1 in let c = count_arms in omega (arith, l, c)
      go (inr z) =
          let x = named_once_at_least b code.instrs place first n at h in
          let y = times_in-body b process.body numbered in
          absurd (omega (arith, x, y, z))

  later_than : (a place first n : ℕ) → IsInArm code a place → InstrAt code place (Fork first n) → a < first
  later_than a place first n here at =
      let start = (lies process a here.0).start in
      let arm = block_at (arms_of process) a in
      let each : EachInstr (ForksFrom (suc a)) (arm_code start arm) =
      each_of_arm (ForksFrom (suc a)) (forks_from_elsewhere (suc a)) start arm
      (forks_later process.body a numbered (within process a here.0))
      in
      let l : suc a ≤ first =
      each_instr_at (ForksFrom (suc a)) (arm_code start arm) (in_code process a place here).0 (Fork first n) each
      (instr_in_arm process a place (Fork first n) here at)
      in
      omega (arith, l)

  few_named : (b : ℕ) → times_in b code.instrs ≤ 1
  few_named b = go (among_or_none b 1 (length (arms_in process.body)))
    where
      go : IsAmong 1 (length (arms_in process.body)) b ⊎ (among b 1 (length (arms_in process.body)) ≡ 0)
          → times_in b code.instrs ≤ 1
      go (inl w) =
          let x = one_among b 1 (length (arms_in process.body)) w in
          let y = times_in-body b process.body numbered in
          omega (arith, x, y)
      go (inr z) = let y = times_in-body b process.body numbered in omega (arith, y, z)

  -- if each parbegin has an arm
  pub has_forks : ((place first n : ℕ) → InstrAt (process_code process) place (Fork first n) → 1 ≤ n)
      → HasForks (process_code process)
  has_forks some = record {
    later = λ a place first n here at.
        let l = later_than a place first n here at in
        let one = some place first n at in
        let last : first + (n - 1) < arms code =
        named_within place first n (first + (n - 1)) at (omega arith, omega (arith, one))
        in
        (l, omega (arith, last, one));
    then_join = λ place first n at.
        let e : suc place ≡ place + 1 = omega arith in
        subst (λ k. InstrAt code k (Join first n)) e
        (join_after code.instrs place first n (paired_arms 0 (arms_of process)) at);
    after_fork = λ place first n at.
        let w = fork_before code.instrs place first n (paired_arms 0 (arms_of process)) at in
        let e = w.1 in
        (w.0, omega (arith, e), w.2);
    no_jump = λ place target first n i at jump join.
        let w = arm_with place i at in
        (jumps_well process w.0 place target i w.1 at jump).1 first n join;
    named = λ b l u.
        let c = count_arms in
        let one = one_among b 1 (length (arms_in process.body)) (l, omega (arith, u, c)) in
        let all = times_in-body b process.body numbered in
        place_naming b code.instrs (omega (arith, one, all));
    once = λ b p f n q g m at h at' h'. one_place b code.instrs p f n q g m (few_named b) at h at' h';
  }
