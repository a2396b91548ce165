use Rattle.std.proofs.Common.{◌≡◌, ◌+◌, ◌≤◌, None, rules, length, map, set, get_or, sym, ap, refl, ◌∙◌, arith}
use Rattle.std.proofs.lemmas.List.{length-map}
use borrow.Author.Count.{below_more, falls}
use Rattle.pb_names.specs.Source.{Arm, find, put}
use Rattle.pb_rewrite.specs.Sound.{IsSingle}
use Rattle.pb_rewrite.specs.View.{arm_view, running_of}
use Rattle.pb_rewrite.proofs.SwappedArms.{size_at, single_at, found_at, all_none, before_within, now_within, seen_at}
use Rattle.pb_rewrite.proofs.SwappedArms.{views_stay, views_change}
use Rattle.pb_rewrite.proofs.arm.+swap.Goals as goal

pub swap_among-swap-requires : goal.swap_among-swap-requires
swap_among-swap-requires g t c κs within =
    let now = c.loop-i.arms.items in
    let before = c.args.arms.now.items in
    let i = c.loop-i.i in
    let x = c.index_mut.result.now in
    let views = c.loop-i.invariant.views in
    let there = now_within now before i views (omega arith) in
    let at = c.index_mut.ensures.value in
    let single : IsSingle c.args.wanted (arm_view x) = single_at c.args.wanted c.args.first (map arm_view before) i (arm_view x) c.requires.single
    (before_within now before i x views there at) (sym (seen_at now before i x views there at (arm_view x))) in
    let less = size_at (map arm_view before) i (arm_view x) (before_within now before i x views there at)
    (sym (seen_at now before i x views there at (arm_view x))) in
    search rules

pub swap_among-returns-then-swap : goal.swap_among-returns-then-swap
swap_among-returns-then-swap g t c =
    let now = c.loop-i.arms.items in
    let before = c.args.arms.now.items in
    let i = c.loop-i.i in
    let x = c.index_mut.result.now in
    let views = c.loop-i.invariant.views in
    let there = now_within now before i views (omega arith) in
    let at = c.index_mut.ensures.value in
    let swapped = c.if-swap.ensures in
    let found = found_at c.args.wanted c.args.first (arm_view c.args.other.now) (arm_view c.swap.new.other) (map arm_view before) i (arm_view x)
    c.requires.single c.loop-i.invariant.none (before_within now before i x views there at)
    (sym (seen_at now before i x views there at (arm_view x))) swapped.0 in (
      found.0,
      ap running_of (views_change now before i x views there at c.swap.new.arm)
          ∙ ap (λ v. running_of (set (map arm_view before) i v)) (swapped.1 ∙ ap (λ o. put c.args.wanted o
          (c.args.first + i) (arm_view x)) c.loop-i.invariant.other)
          ∙ found.1,
    )

pub swap_among-loop-i-preserved : goal.swap_among-loop-i-preserved
swap_among-loop-i-preserved g t c =
    let now = c.loop-i.arms.items in
    let before = c.args.arms.now.items in
    let i = c.loop-i.i in
    let x = c.index_mut.result.now in
    let views = c.loop-i.invariant.views in
    let there = now_within now before i views (omega arith) in
    let at = c.index_mut.ensures.value in
    let same = c.if-swap.ensures in
    record {
      views = views_stay now before i x views there at c.swap.new.arm same.1;
      none = λ k d h. below_more (λ j. (e : Arm) → find c.args.wanted (c.args.first + j) (get_or (map arm_view before) j e) ≡ None) i
          (λ j l e. c.loop-i.invariant.none j e l)
          (λ e. ap (find c.args.wanted (c.args.first + i)) (seen_at now before i x views there at e) ∙ same.0) k h d;
      other = same.2 ∙ c.loop-i.invariant.other;
    }

pub swap_among-returns : goal.swap_among-returns
swap_among-returns g t c =
    let now = c.loop-i.arms.items in
    let before = c.args.arms.now.items in
    let past : length (map arm_view before) ≤ c.loop-i.i = omega (arith, length-map before (arm_view {A = g.row.A.Denot})) in (
      all_none c.args.wanted c.args.first (map arm_view before) (λ k d h. c.loop-i.invariant.none k d (omega arith)),
      ap running_of c.loop-i.invariant.views,
      c.loop-i.invariant.other,
    )

pub swap_among-loop-i-init : goal.swap_among-loop-i-init
swap_among-loop-i-init g t c = record {
  views = refl;
  none = λ k d h. absurd (omega arith);
  other = refl;
}

pub swap_among-loop-i-smaller : goal.swap_among-loop-i-smaller
swap_among-loop-i-smaller g t c = falls _ _ c.loop-i-test.true
