use Rattle.std.proofs.Common.{◌↔◌, ℕ, List, sym, subst, Contains}
use Rattle.pb_code.specs.View.{process_view}
use Rattle.pb_verifier.specs.Flow.{IsGrown, IsReachedPlace, StaysInside}
use Rattle.pb_verifier.specs.Given.{instrs_of}
use Rattle.pb_verifier.proofs.OptionalResults.{ok_both}
use Rattle.pb_verifier.proofs.ContainedCode.{stays_inside}
use Rattle.pb_verifier.proofs.reach.reached_places.Goals as goal

pub reached-requires : goal.reached-requires
reached-requires c = record {
  inside = subst (λ (es : List ℕ). StaysInside es (instrs_of c.args.code.now)) (sym
      c.deref.ensures.value) (stays_inside (process_view c.args.code.now) c.requires.arms c.requires.some
      c.requires.few);
}

pub returns : goal.returns
returns c =
    ok_both c.reached.result
    (λ order reached grown. record {
      inside = stays_inside (process_view c.args.code.now) c.requires.arms c.requires.some c.requires.few;
      reached = subst (λ (es : List ℕ). (p : ℕ) → Contains order.items p ↔ IsReachedPlace es (instrs_of c.args.code.now) p) c.deref.ensures.value reached;
      grown = subst (λ (es : List ℕ). IsGrown es (instrs_of c.args.code.now) order.items) c.deref.ensures.value grown;
    })
    c.reached.ensures.reached c.reached.ensures.grown
