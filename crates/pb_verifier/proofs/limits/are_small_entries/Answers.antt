use Rattle.std.proofs.Common.{refl, arith, subst, ℕ, ◌<◌}
use Rattle.std.proofs.lemmas.List.{get_or_default}
use Rattle.pb_verifier.proofs.limits.are_small_entries.Goals as goal

pub returns : goal.returns
returns c = (
  λ _ k d u. subst (λ (x : ℕ). x < 40000) (get_or_default c.args.entries.now k 0 d u)
      (c.loop-entry.invariant k (omega arith)),
  λ _. refl,
)
