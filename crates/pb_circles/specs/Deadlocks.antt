-- A deadlock has a circular wait.
use Rattle.std.specs.Prelude.{List}
use Rattle.pb_base.specs.declared.lending.Lending.{Lending}
use Rattle.pb_base.specs.Steppers.{State, CanGoOn, IsFinished}
use Rattle.pb_code.specs.Code.{CodeProcess, code_step, code_over}
use Rattle.pb_code.specs.Reached.{CodeReachesBy}
use Rattle.pb_code.specs.Whole.{Code, bank_by}
use Rattle.pb_verifier.specs.Verified.{VerifiedCode, IsVerified}
use Rattle.pb_circles.specs.Circles.{IsCircle}
use Rattle.pb_circles.specs.declared.link.Link.{Link}

-- some process has neither ended nor faulted, and no pick is enabled under this lending
pub record IsDeadlockBy (lending : Lending) (code : Code) (s : State CodeProcess) : Type 0 where
  pub unfinished : IsFinished code_over s → ⊥
  pub stuck : CanGoOn (bank_by lending code) (code_step code.processes) s → ⊥

-- under either lending: in a deadlock some processes wait in a circle (under the banker there is no deadlock)
abbrev pub DeadlocksHaveCircles : Type 0
DeadlocksHaveCircles =
    (lending : Lending) (v : VerifiedCode) → IsVerified v → (s : State CodeProcess) → CodeReachesBy lending v.code s
    → IsDeadlockBy lending v.code s → (circle : List Link) × IsCircle v.code s circle
