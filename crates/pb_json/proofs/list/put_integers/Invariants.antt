use Rattle.std.proofs.Common.{◌≡◌, ◌++◌}
use Rattle.std.specs.Prelude.{pos, slice_index_or}
use Rattle.pb_base.specs.Lines.{each_below}
use Rattle.pb_json.specs.Values.{comma, integer_text}
use Rattle.pb_json.proofs.list.put_integers.Given as goal

abbrev pub invariant-loop-k : goal.invariant-loop-k
invariant-loop-k l =
    l.out.items ≡ (l.initial.out.items ++ each_below (λ k. comma k ++ integer_text (slice_index_or l.values k (pos 0))) l.k)
