use Rattle.std.proofs.Common.{◌≡◌, ◌++◌, codes}
use Rattle.pb_base.specs.Lines.{each_below}
use Rattle.std.specs.Fmt.{decimal}
use Rattle.std.specs.Prelude.{slice_index}
use Rattle.pb_page.proofs.arms.put_numbers.Given as goal

abbrev pub invariant-loop-k : goal.invariant-loop-k
invariant-loop-k l = l.out.items ≡ (l.initial.out.items ++ each_below (λ j. codes "," ++ decimal (slice_index l.numbers j)) l.k)
