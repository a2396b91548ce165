use borrow.Author.Count.{falls}
use Rattle.std.proofs.Common.{arith, refl}
use Rattle.pb_tree.specs.View.{process_view}
use Rattle.pb_tree.proofs.Equal.{not_both, same_length, same_read, same_step, same_all}
use Rattle.pb_tree.proofs.program.same_processes.Goals as goal

pub returns-then-len : goal.returns-then-len
returns-then-len g c = (
  λ never. not_both refl never,
  λ e.
      let lengths = same_length process_view process_view c.args.items.now.items c.args.others.now.items e in
      absurd (c.if-len.true (omega arith)),
)

pub returns-then-not-same : goal.returns-then-not-same
returns-then-not-same g c = (
  λ never. not_both refl never,
  λ e.
      let here =
      same_read process_view process_view _ _ _ _ _ _ e c.deref-item-items.ensures.value
      c.loop-i-test.true (omega arith) c.item-item.is c.index.ensures
      in
      not_both c.if-not-same.true (c.same.ensures.1 here),
)

pub loop-i-preserved : goal.loop-i-preserved
loop-i-preserved g c =
    same_step process_view process_view _ _ _ _ c.item-item.result c.index.result.now c.loop-i.invariant
    (c.same.ensures.0 c.if-not-same.false) c.deref-item-items.ensures.value
    c.loop-i-test.true (omega arith) c.item-item.is c.index.ensures

pub loop-i-smaller : goal.loop-i-smaller
loop-i-smaller g c = falls _ _ c.loop-i-test.true

pub returns : goal.returns
returns g c = (
  λ yes.
      same_all process_view process_view _ _ _ _ c.loop-i.invariant c.deref-item-items.ensures.value
      c.loop-i-test.false (omega arith),
  λ e. refl,
)
