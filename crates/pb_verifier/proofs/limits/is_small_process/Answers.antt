use Rattle.std.proofs.Common.{◌<◌, ℕ, List, vec_len, refl, arith, subst}
use Rattle.std.specs.Prelude.{All}
use Rattle.pb_verifier.proofs.LimitTests.{none_empty}
use Rattle.pb_verifier.proofs.limits.is_small_process.Goals as goal

pub returns-clause-limits : goal.returns-clause-limits
returns-clause-limits c = (
  λ t. record {
    integers = omega arith;
    some_arms = (
      let some = none_empty (vec_len c.args.code.now.entries) c.is_empty.result c.is_empty.ensures
          c.if-is_empty.false in omega arith,
      let n = c.len.ensures in omega arith,
    );
    entries = subst (λ (xs : List ℕ). All (λ (place : ℕ). place < 40000) xs) c.deref.ensures.value
        (c.if-not-are_small_entries.ensures.0 refl);
    some_places = (omega arith, omega arith);
    numbers = c.are_small_instrs.ensures.limits.0 t;
  },
  λ small. c.are_small_instrs.ensures.limits.1 small.numbers,
)
