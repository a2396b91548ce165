use Rattle.std.proofs.Common.{◌<◌, ◌∷◌, [], ◌++◌, ℕ, List, ⊎_elim, sym, subst, arith}
use Rattle.std.specs.Prelude.{All}
use Rattle.std.proofs.lemmas.Bool.{cases_eq}
use Rattle.std.proofs.lemmas.List.Elements.{All-push}
use Rattle.pb_base.proofs.Lists.{get_left}
use Rattle.pb_circles.specs.Links.{IsAmong}
use Rattle.pb_circles.proofs.Lists.{at_end}
use Rattle.pb_circles.proofs.circle.numbers.Goals as goal

pub loop-p-preserved : goal.loop-p-preserved
loop-p-preserved c =
    let before = c.loop-p.numbers.items in
    let p = c.loop-p.p in
    let items = c.in_ok-push.ensures.items in
    record {
      all = λ q lt. subst (λ (xs : List ℕ). IsAmong xs q) (sym items) (⊎_elim
          (λ same. subst (λ (n : ℕ). IsAmong (before ++ p ∷ []) n) (sym same) (_, at_end before p))
          (λ ne. let m = c.loop-p.invariant.all q (omega (arith, lt, ne)) in (m.0, get_left before (p ∷ []) m.0 q m.1))
          (cases_eq q p));
      below = subst (λ (xs : List ℕ). All (λ n. n < c.args.count) xs) (sym items)
          (All-push (λ n. n < c.args.count) before p c.loop-p.invariant.below c.loop-p-test.true);
    }
