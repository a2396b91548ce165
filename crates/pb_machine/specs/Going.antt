-- Verified code is sound under either lending, and never stuck under the banker: in each state that it reaches
-- and that is not finished some pick is enabled. The body of a process that is not over is live. What an event
-- speaks of has a name.
use Rattle.std.specs.Prelude.{◌≡◌, ◌⊎◌, ℕ, ℤ, List, Some, slice_get}
use Rattle.pb_base.specs.declared.event.Event.{Event}
use Rattle.pb_base.specs.Banker.{IsWellFormed}
use Rattle.pb_base.specs.declared.lending.Lending.{Lending}
use Rattle.pb_base.specs.declared.pick.Pick.{Pick}
use Rattle.pb_base.specs.Lines.{HasNames}
use Rattle.pb_base.specs.Steppers.{State, CanGoOn, IsFinished, banker_state}
use Rattle.pb_code.specs.Code.{Live, CodeProcess, thread, code_step, code_over}
use Rattle.pb_code.specs.Reached.{CodeReaches, CodeReachesBy, CodeMovesBy}
use Rattle.pb_code.specs.Whole.{bank_by, bank_of}
use Rattle.pb_verifier.specs.Behaviour.{AsksWithin, PassesTests}
use Rattle.pb_verifier.specs.Verified.{VerifiedCode, IsVerified}

-- no test fails, no request passes its claim, each loan is within its claim and all loans together within the
-- capital
pub record IsSound (lending : Lending) (v : VerifiedCode) (s : State CodeProcess) : Type 0 where
  pub passes_tests : PassesTests v.code s
  pub asks_within : AsksWithin v.code s
  pub well_formed : IsWellFormed (banker_state (bank_by lending v.code) s.loans)

-- so it is in each state that the code reaches, under either lending
abbrev pub VerifiedCodeIsSound : Type 0
VerifiedCodeIsSound =
    (lending : Lending) (v : VerifiedCode) → IsVerified v → (s : State CodeProcess) → CodeReachesBy lending v.code s
    → IsSound lending v s

-- each state of a process that the code reaches under either lending is one that it has under the banker
abbrev pub ProcessesAreAsUnderBanker : Type 0
ProcessesAreAsUnderBanker =
    (lending : Lending) (v : VerifiedCode) → IsVerified v → (s : State CodeProcess) → CodeReachesBy lending v.code s
    → (p : ℕ) (process : CodeProcess) → slice_get s.processes p ≡ Some process
    → (all : State CodeProcess) × CodeReaches v.code all × (slice_get all.processes p ≡ Some process)

-- under the banker all has ended, or some pick is enabled
abbrev pub VerifiedCodeGoesOn : Type 0
VerifiedCodeGoesOn =
    (v : VerifiedCode) → IsVerified v → (s : State CodeProcess) → CodeReaches v.code s
    → IsFinished code_over s ⊎ CanGoOn (bank_of v.code) (code_step v.code.processes) s

-- the arm is live
abbrev pub IsLive : CodeProcess → ℕ → Type 0
IsLive process a = (place : ℕ) × (stack : List ℤ) × (thread process.threads a ≡ Live place stack)

-- the body of a process that is not over is live
abbrev pub BodiesAreLive : Type 0
BodiesAreLive =
    (lending : Lending) (v : VerifiedCode) → IsVerified v → (s : State CodeProcess) → CodeReachesBy lending v.code s
    → (p : ℕ) (process : CodeProcess) → slice_get s.processes p ≡ Some process
    → (code_over process → ⊥) → IsLive process 0

-- all that the event of a pick speaks of has a name
abbrev pub EventsHaveNames : Type 0
EventsHaveNames =
    (lending : Lending) (v : VerifiedCode) → IsVerified v → (s : State CodeProcess) → CodeReachesBy lending v.code s
    → (pick : Pick) (event : Event) (next : State CodeProcess) → CodeMovesBy lending v.code s pick (Some event) next
    → HasNames v.code.names event
