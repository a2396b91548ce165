use Rattle.std.proofs.Common.{sym, subst}
use Rattle.pb_code.specs.View.{code_view}
use Rattle.pb_verifier.specs.Verified.{HasPeaksWithin, VerifiedCode}
use Rattle.pb_verifier.proofs.ClaimTests.{annotated_within, refused_over}
use Rattle.pb_verifier.proofs.checking.verify.Goals as goal

pub returns-in-Err-clause-over : goal.returns-in-Err-clause-over
returns-in-Err-clause-over c = refused_over (code_view c.args.code) c.in-Err.fault c.in-Err.ensures.refused

pub returns-in-Ok-groups_of_code-clause-peaks : goal.returns-in-Ok-groups_of_code-clause-peaks
returns-in-Ok-groups_of_code-clause-peaks c =
    subst (λ (v : VerifiedCode). HasPeaksWithin v.code) (sym c.new.ensures) (annotated_within (code_view c.args.code) c.in-Ok.ensures.faultless)
