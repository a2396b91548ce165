use Rattle.std.proofs.Common.{refl, arith}
use Rattle.pb_verifier.specs.Faults.{UsesWhatIsThere}
use Rattle.pb_verifier.specs.Given.{instrs_of}
use Rattle.pb_code.proofs.ListElements.{each_all}
use Rattle.pb_verifier.proofs.range.is_in_range.Goals as goal

pub returns : goal.returns
returns c =
    let n = c.places-place-end.ensures in (
      λ _. each_all (instrs_of c.args.code.now) c.loop-place.place (λ _ i. UsesWhatIsThere c.args.code.now.integers
          c.args.resources i) (omega arith) c.loop-place.invariant,
      λ _. refl,
    )
