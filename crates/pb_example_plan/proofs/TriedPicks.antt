-- Picks that are tried one after another.
use Rattle.std.proofs.Common.{◌≡◌, ℕ, ◌+◌, ◌<◌, ◌≤◌, length}
use Rattle.std.proofs.Common.{sym, ◌∙◌, subst, inl, inr, arith}
use Rattle.std.proofs.lemmas.Bool.{cases_lt}
use Rattle.pb_base.specs.declared.pick.Pick.{Pick}
use Rattle.pb_base.specs.declared.step.Step.TheVariants.{NotEnabled}
use Rattle.pb_base.specs.Steppers.{State}
use Rattle.pb_base.specs.declared.lending.Lending.TheVariants.{ByBanker}
use Rattle.pb_code.specs.Code.{CodeProcess}
use Rattle.pb_code.specs.Reached.{CodeReaches, CodeStays}
use Rattle.pb_code.specs.Whole.{Code}
use Rattle.pb_code.proofs.StayingPicks.{no_such_process}
use Rattle.pb_machine.proofs.NeverStuck.{goes_on}
use Rattle.pb_verifier.specs.Verified.{VerifiedCode, IsVerified}
use Rattle.pb_example_plan.specs.Schedule.{MakesSome}
use Rattle.pb_verifier.proofs.Requests.{same_pick}

-- ---- those that were tried

-- no arm of this job below this number is enabled
abbrev pub NoArmBelow : Code → State CodeProcess → (job arm : ℕ) → Type 0
NoArmBelow code s job arm = (pick : Pick) → pick.process ≡ job → pick.arm < arm → CodeStays code s pick

-- no arm of a job before this one is enabled
abbrev pub NoJobBelow : Code → State CodeProcess → (job : ℕ) → Type 0
NoJobBelow code s job = (pick : Pick) → pick.process < job → CodeStays code s pick

pub one_more_arm : (code : Code) (s : State CodeProcess) (p n : ℕ) (pick : Pick) → NoArmBelow code s p n → pick.process ≡ p → pick.arm ≡ n
    → CodeStays code s pick → NoArmBelow code s p (n + 1)
one_more_arm code s p n pick below of at stays other other_of less = elim (cases_lt other.arm n) [
  | inl before ↦ below other other_of before
  | inr not_before ↦
      let arm : other.arm ≡ pick.arm = omega (arith, at, not_before, less) in
      let same : other ≡ pick = same_pick other pick (other_of ∙ sym of) arm in
      subst (λ (o : Pick). CodeStays code s o) (sym same) stays
]

-- ---- when all were tried

-- no pick is enabled, so every job has ended or faulted
pub none_at_all : (v : VerifiedCode) (s now : State CodeProcess) (n : ℕ) → IsVerified v → CodeReaches v.code s → NoJobBelow v.code s n
    → now ≡ s → length s.processes ≤ n → MakesSome v.code s NotEnabled now
none_at_all v s now n verified reached below same long = (
  elim (goes_on v verified s reached) [
    | inl done ↦ done
    | inr (pick, move, is, granted) ↦ absurd (stays pick move is granted)
  ],
  same,
)
  where
    stays : (pick : Pick) → CodeStays v.code s pick
    stays pick = elim (cases_lt pick.process n) [
      | inl before ↦ below pick before
      | inr not_before ↦ no_such_process ByBanker v.code s pick (omega (arith, long, not_before))
    ]
