-- The code of an accepted process keeps the limits of code.
use Rattle.std.proofs.Common.{inl, inr, ℕ, ◌<◌, ◌≤◌, List, length, refl, arith}
use Rattle.std.proofs.lemmas.List.{get_or_default}
use Rattle.pb_names.specs.Program.{Name, Process, arms_of}
use Rattle.pb_code.specs.Code.{Instr, Push, Load, Store, Compute1, Compute2, Jump, JumpIfZero, PrintTop, Take}
use Rattle.pb_code.specs.Code.{Give, Fork, Join, End, ProcessCode}
use Rattle.pb_verifier.specs.Faults.{UsesWhatIsThere, IsInRange}
use Rattle.pb_verifier.specs.Limits.{IsUpTo, HasSmallNumbers, IsSmallProcess}
use Rattle.pb_verifier.specs.Places.{InstrAt, JumpsTo}
use Rattle.pb_verifier.proofs.ArmOrder.{arm_lies, rise_of}
use Rattle.pb_generator.specs.Generate.{arms_entries, process_code}
use Rattle.pb_generator.specs.Sizes.{IsGeneratableProcess}
use Rattle.pb_codegen.proofs.VerifiedProcesses.{IsFine, names_at, sound_forks}
use Rattle.pb_codegen.proofs.VerifiedForks.{arm_with}
use Rattle.pb_codegen.proofs.VerifiedArmRanges.{has_arms}
use Rattle.pb_codegen.proofs.VerifiedNumbers.{NamesWell}
use Rattle.pb_codegen.proofs.SimulationPlaces.{length-entries}

there : (integers resources : ℕ) (i : Instr) → NamesWell integers resources i
    → UsesWhatIsThere integers resources i
there n m (Push v) h = tt
there n m (Load x) h = h
there n m (Store x) h = h
there n m (Compute1 op) h = tt
there n m (Compute2 op) h = tt
there n m (Jump target) h = tt
there n m (JumpIfZero target) h = tt
there n m PrintTop h = tt
there n m (Take bundle) h = h.1
there n m (Give bundle) h = h.1
there n m (Fork first count) h = tt
there n m (Join first count) h = tt
there n m End h = tt

module _ (resources : List Name) (process : Process) (fine : IsFine resources process) where
  abbrev code : ProcessCode
  code = process_code process

  pub in_range : IsInRange (length resources) (process_code process)
  in_range place i at =
      there (length process.integers) (length resources) i (names_at resources process fine place i at)

  module _ (size : IsGeneratableProcess process) where
    -- jumps go to places of their arm
    small_target : (place target : ℕ) (i : Instr) → InstrAt code place i → JumpsTo i target → target < 40000
    small_target place target i at jump =
        let w = arm_with process fine.tree.resolves.numbered place i at in
        let there = (has_arms process).jumps_stay w.0 place target i w.1 at jump in
        let before = there.2 in
        let end = (arm_lies code (rise_of code (has_arms process)) w.0 w.1.0).1 in
        let few = size.small in
        omega (arith, before, end, few)

    -- forks name arms after their own
    small_first : (place first n : ℕ) → InstrAt code place (Fork first n) → 1 ≤ n → IsUpTo 63 first
    small_first place first n at some =
        let w = arm_with process fine.tree.resolves.numbered place (Fork first n) at in
        let l = (sound_forks resources process fine).later w.0 place first n w.1 at in
        let after = l.0 in
        let inside = l.1 in
        let few = size.few_arms in
        let as_many = length-entries 0 (arms_of process) in
        (omega (arith, after), omega (arith, inside, few, as_many, some))

    small_numbers : (place : ℕ) (i : Instr) → InstrAt code place i
        → NamesWell (length process.integers) (length resources) i → HasSmallNumbers i
    small_numbers place (Push v) at h = tt
    small_numbers place (Load x) at h = let few = size.few_integers in omega (arith, h, few)
    small_numbers place (Store x) at h = let few = size.few_integers in omega (arith, h, few)
    small_numbers place (Compute1 op) at h = tt
    small_numbers place (Compute2 op) at h = tt
    small_numbers place (Jump target) at h = small_target place target (Jump target) at (inl refl)
    small_numbers place (JumpIfZero target) at h = small_target place target (JumpIfZero target) at (inr refl)
    small_numbers place PrintTop at h = tt
    small_numbers place (Take bundle) at h = h.0
    small_numbers place (Give bundle) at h = h.0
    small_numbers place (Fork first n) at h = (small_first place first n at h.0, h)
    small_numbers place (Join first n) at h =
        let w = (sound_forks resources process fine).after_fork place first n at in
        (small_first w.0 first n w.2 h.0, h)
    small_numbers place End at h = tt

    pub small_process : IsSmallProcess (process_code process)
    small_process =
        let as_many = length-entries 0 (arms_of process) in
        let few = size.few_arms in
        let small = size.small in
        let begins = (has_arms process).inside 0 (omega (arith, as_many)) in
        record {
          integers = size.few_integers;
          some_arms = (omega (arith, as_many), omega (arith, as_many, few));
          entries = λ a d u.
              let e = get_or_default (arms_entries 0 (arms_of process)) a d 0 u in
              let inside = (has_arms process).inside a u in
              omega (arith, e, inside, small);
          some_places = (omega (arith, begins), small);
          numbers = λ place i at. small_numbers place i at (names_at resources process fine place i at);
        }
