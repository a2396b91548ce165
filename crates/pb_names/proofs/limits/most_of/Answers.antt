use Rattle.std.proofs.Common.{◌+◌, arith, length}
use Rattle.std.proofs.lemmas.List.{length-map, take_all}
use Rattle.pb_tree.specs.View.{name_view}
use Rattle.pb_names.specs.Limits.{widest_in, inner_arms}
use Rattle.pb_names.proofs.Forks.{most_more}
use Rattle.pb_names.proofs.limits.most_of.Goals as goal

pub loop-process-preserved : goal.loop-process-preserved
loop-process-preserved g c =
    let items = c.deref-process-items.result.now in
    let i = c.loop-process.process-index in
    let p = c.process-item.result in
    let integers = most_more (λ process. length process.integers) items i p c.process-item.is (omega arith) in
    let fork = most_more (λ process. widest_in process.body) items i p c.process-item.is (omega arith) in
    let arms = most_more (λ process. 1 + inner_arms process.body) items i p c.process-item.is (omega arith) in
    let same = length-map p.integers.items name_view in
    record { integers = omega arith; fork = omega arith; arms = omega arith }

pub returns-clause-integers : goal.returns-clause-integers
returns-clause-integers g c =
    rw (← c.deref-process-items.ensures.value, ← take_all c.loop-process.process-index c.deref-process-items.result.now (omega arith))
    c.loop-process.invariant.integers

pub returns-clause-fork : goal.returns-clause-fork
returns-clause-fork g c =
    rw (← c.deref-process-items.ensures.value, ← take_all c.loop-process.process-index c.deref-process-items.result.now (omega arith))
    c.loop-process.invariant.fork

pub returns-clause-arms : goal.returns-clause-arms
returns-clause-arms g c =
    rw (← c.deref-process-items.ensures.value, ← take_all c.loop-process.process-index c.deref-process-items.result.now (omega arith))
    c.loop-process.invariant.arms
