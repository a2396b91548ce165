-- If all is done, nothing is enabled.
use Rattle.std.proofs.Common.{◌≡◌, Some, refl}
use Rattle.pb_base.specs.declared.lending.Lending.{Lending}
use Rattle.pb_base.specs.Steppers.{State, CanGoOn}
use Rattle.pb_code.specs.Code.{CodeProcess, Thread, Idle, Live, Ended, code_step, step_thread, thread}
use Rattle.pb_code.specs.Reached.{CodeReachesBy}
use Rattle.pb_code.specs.Whole.{Code, bank_by}
use Rattle.pb_machine.proofs.EitherLending.{good_reached}
use Rattle.pb_record.specs.CodeRuns.{IsDone}
use Rattle.pb_verifier.proofs.LiveSteps.{none_live}
use Rattle.pb_verifier.proofs.States.{CodeMove, checked, code_move}
use Rattle.pb_verifier.specs.Verified.{IsFaultless}

pub done_stays : (lending : Lending) (code : Code) → IsFaultless code → (s : State CodeProcess) → CodeReachesBy lending code s → IsDone s
    → ¬ CanGoOn (bank_by lending code) (code_step code.processes) s
done_stays lending code faultless s reached done (pick, move, is, granted) = go (code_move code.processes s pick move is)
  where
    go : CodeMove code.processes s pick move → ⊥
    go m = stands (thread m.before.threads pick.arm) refl m.steps
      where
        stands : (t : Thread) → thread m.before.threads pick.arm ≡ t → step_thread m.code m.before pick.arm t ≡ Some (m.after, m.effect) → ⊥
        stands Idle at steps = cc
        stands Ended at steps = cc
        stands (Live place stack) at steps =
            let ok = checked code faultless pick.process m.code m.at in
            let fit = (good_reached code faultless lending s reached).fit pick.process m.code m.before m.at m.here in
            none_live m.code ok m.before fit (done pick.process m.before m.here) pick.arm place stack at
