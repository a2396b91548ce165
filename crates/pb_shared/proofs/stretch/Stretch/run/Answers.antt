use Rattle.std.proofs.Common.{sym, subst}
use Rattle.pb_verifier.specs.Verified.{VerifiedCode}
use Rattle.pb_shared.specs.Lending.{IsSilentRun}
use Rattle.pb_shared.specs.Spares.{lent_as, IsSpareOf}
use Rattle.pb_shared.specs.declared.spare.Spare.{Spare}
use Rattle.pb_shared.proofs.stretch.Stretch.run.Goals as goal

pub run-requires-clause-run : goal.run-requires-clause-run
run-requires-clause-run g c =
    subst (λ (v : VerifiedCode). IsSilentRun v.code (lent_as c.deref_mut.result.now)) (sym c.self.invariant.refers)
    (subst (λ (x : Spare). IsSilentRun g.C.CodeBrand.code.code (lent_as x)) (sym c.deref_mut.ensures.value) c.self.invariant.run)

pub run-requires-clause-spare : goal.run-requires-clause-spare
run-requires-clause-spare g c =
    subst (λ (v : VerifiedCode). IsSpareOf v c.deref_mut.result.now.pick.process c.deref_mut.result.now) (sym c.self.invariant.refers)
    (subst (λ (x : Spare). IsSpareOf g.C.CodeBrand.code x.pick.process x) (sym c.deref_mut.ensures.value) c.self.invariant.spare)

pub invariant_of-self : goal.invariant_of-self
invariant_of-self g c = record {
  refers = c.self.invariant.refers;
  run = subst (λ (v : VerifiedCode). IsSilentRun v.code (lent_as c.run.new.self)) c.self.invariant.refers c.run.ensures.run;
  spare = subst (λ (v : VerifiedCode). IsSpareOf v c.run.new.self.pick.process c.run.new.self) c.self.invariant.refers c.run.ensures.spare;
}
