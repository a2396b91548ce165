use Rattle.std.proofs.Common.{refl, arith}
use Rattle.pb_code.specs.View.{process_view}
use Rattle.pb_verifier.specs.Arms.{IsPaired}
use Rattle.pb_verifier.specs.Given.{instrs_of, plain}
use Rattle.pb_code.proofs.ListElements.{each_more, each_all}
use Rattle.pb_verifier.proofs.forks.are_paired.Goals as goal

pub loop-place-preserved : goal.loop-place-preserved
loop-place-preserved c =
    each_more (instrs_of c.args.code.now) c.loop-place.place (plain c.args.code.now c.instr_at.result) (IsPaired
    (process_view c.args.code.now)) c.instr_at.ensures c.loop-place.invariant (c.if-not-is_paired.ensures.0 refl)

pub returns : goal.returns
returns c = (
  λ _. each_all (instrs_of c.args.code.now) c.loop-place.place (IsPaired (process_view c.args.code.now)) (omega arith)
      c.loop-place.invariant,
  λ _. refl,
)
