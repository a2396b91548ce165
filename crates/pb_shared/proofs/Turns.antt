-- Turns of an arm, and what a machine says of the code to which its book refers.
use Rattle.std.proofs.Common.{◌≡◌, ◌≢◌, ◌<◌, ◌≤◌, ℕ, refl, subst, inl, inr}
use Rattle.pb_base.specs.declared.pick.Pick.{Pick}
use Rattle.pb_base.specs.Steppers.{State}
use Rattle.pb_code.specs.Code.{CodeProcess}
use Rattle.pb_code.specs.Whole.{Code}
use Rattle.pb_machine.specs.Looks.{look_at}
use Rattle.pb_machine.specs.Steps.{MovesSilently}
use Rattle.pb_machine.specs.declared.look.Look.TheVariants as look
use Rattle.pb_verifier.specs.Verified.{VerifiedCode}
use Rattle.pb_shared.specs.Ledgers.{Ledger, Tries}
use Rattle.pb_shared.specs.Turning.{GoesOn, went_on}
use Rattle.pb_shared.specs.declared.answer.Answer.{Answer}
use Rattle.pb_shared.specs.declared.answer.Answer.TheVariants as answer

module _ (v code : VerifiedCode) (same : v ≡ code) (s next : State CodeProcess) (pick : Pick) (made most : ℕ) where
  pub moves_there : MovesSilently v.code pick made s next → MovesSilently code.code pick made s next
  moves_there moves = subst (λ (x : VerifiedCode). MovesSilently x.code pick made s next) same moves

  pub stops_there : (made < most → look_at v.code next pick ≢ look.Silent) → made < most → look_at code.code next pick ≢ look.Silent
  stops_there stops = subst (λ (x : VerifiedCode). made < most → look_at x.code next pick ≢ look.Silent) same stops

module _ (code : Code) (s : Ledger) (pick : Pick) (most made : ℕ) (next : State CodeProcess) (within : made ≤ most)
    (moves : MovesSilently code pick made s.machine next) (stops : made < most → look_at code next pick ≢ look.Silent) where
  -- an arm made all picks that it may make
  pub goes_all : made ≡ most → GoesOn code s pick most made (went_on s pick made next)
  goes_all all = record {
    next = next;
    came = answer.Silent;
    within = within;
    moves = moves;
    stops = stops;
    ends = inr (all, refl, refl);
  }

  -- it made fewer, and its visible pick was tried
  pub goes_on : (came : Answer) (after : Ledger) → made < most → Tries code (went_on s pick made next) pick came after → GoesOn code s pick most made after
  goes_on came end less tries = record {
    next = next;
    came = came;
    within = within;
    moves = moves;
    stops = stops;
    ends = inl (less, tries);
  }
