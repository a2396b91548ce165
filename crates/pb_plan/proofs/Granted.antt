-- What verified code asks of resources of which there is enough is granted.
use Rattle.std.proofs.Common.{◌≡◌, ◌∙◌, inl, arith, sym, ap, subst}
use Rattle.std.proofs.lemmas.Option.{slice_get_within}
use Rattle.pb_base.specs.Steppers.{Takes, Move, IsGranted, banker_state}
use Rattle.pb_code.specs.Code.{CodeProcess, thread}
use Rattle.pb_code.specs.Whole.{Code, bank_of}
use Rattle.pb_verifier.specs.Verified.{IsFaultless}
use Rattle.pb_verifier.specs.declared.fault.VerifyFault.TheVariants.{OutOfLimits}
use Rattle.pb_verifier.proofs.LoansWithinClaims.{kept_reached}
use Rattle.pb_verifier.proofs.SoundBehaviour.{behaved}
use Rattle.pb_verifier.proofs.States.{bundles_small, checked, code_move}
use Rattle.pb_verifier.proofs.ThreadTurns.{turned}
use Rattle.pb_plan.specs.Waiting.{AllRequestsAreGranted, FreeRequestsAreGranted}
use Rattle.pb_plan.proofs.Free.{free_allowed}

module _ (code : Code) (faultless : IsFaultless code) where
  pub free_granted : FreeRequestsAreGranted code
  free_granted s reached pick move bundle moves takes free =
      let kept = kept_reached code faultless s reached in
      let m = code_move code.processes s pick move moves in
      let ok = checked code faultless pick.process m.code m.at in
      let fit = kept.good.fit pick.process m.code m.before m.at m.here in
      let turn = turned m.code ok m.before m.after pick.arm m.effect fit m.steps in
      let asks : m.effect ≡ Takes bundle = ap (λ (x : Move CodeProcess). x.effect) m.is ∙ takes in
      let small = bundles_small code faultless pick.process m.code m.at (thread m.before.threads) (thread m.after.threads) pick.arm m.effect turn.turn bundle (inl asks) in
      let there = slice_get_within code.processes pick.process m.code m.at in
      let rows = (faultless OutOfLimits).rows in
      let well = behaved code faultless in
      subst (IsGranted (bank_of code) s.loans pick.process) (sym takes)
      (free_allowed (banker_state (bank_of code) s.loans) pick.process bundle (well.well_formed s reached)
      (well.safe s reached) (omega (arith, there, rows)) small.0.distinct small.1 free
      (well.asks_within s reached pick move bundle moves takes))

  pub all_granted : AllRequestsAreGranted code
  all_granted free s reached pick move bundle moves takes =
      let kept = kept_reached code faultless s reached in
      let m = code_move code.processes s pick move moves in
      let ok = checked code faultless pick.process m.code m.at in
      let fit = kept.good.fit pick.process m.code m.before m.at m.here in
      let turn = turned m.code ok m.before m.after pick.arm m.effect fit m.steps in
      let asks : m.effect ≡ Takes bundle = ap (λ (x : Move CodeProcess). x.effect) m.is ∙ takes in
      let small = bundles_small code faultless pick.process m.code m.at (thread m.before.threads) (thread m.after.threads) pick.arm m.effect turn.turn bundle (inl asks) in
      free_granted s reached pick move bundle moves takes (λ k d l. free _ (small.1 k d l))
