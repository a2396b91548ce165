use Rattle.std.proofs.Common.{◌≡◌, ◌<◌, [], ◌∷◌, ◌++◌, length, ap, arith, length-append}
use Rattle.std.proofs.lemmas.Grind.{common_steps}
use Rattle.std.specs.Vec.Iter.{into_iter_items}
use Rattle.pb_rewrite.specs.declared.arm.Arm.{Fresh}
use Rattle.pb_rewrite.proofs.BegunArms.{one_more, next_seen, room_for_next}
use Rattle.pb_rewrite.proofs.lists.fresh_arms.Goals as goal

pub loop-body-preserved : goal.loop-body-preserved
loop-body-preserved g c =
    let all = c.args.bodies.items in
    let seen = c.loop-body.yielded in
    let rest = into_iter_items c.loop-body.body-iterator in
    let rest' = into_iter_items c.next.new.self in
    let less : length seen < length all = room_for_next all seen rest rest' c.in-Some.body c.loop-body.invariant.seen c.in-Some.ensures.steps.0 in
    let pushed : c.push_reserved.new.self.items ≡ c.loop-body.arms.items ++ Fresh c.in-Some.body ∷ [] = c.push_reserved.ensures.items in
    record {
      seen = next_seen all seen rest rest' c.in-Some.body c.loop-body.invariant.seen c.in-Some.ensures.steps.0;
      count = omega (
        arith,
        ap length pushed,
        length-append c.loop-body.arms.items (Fresh c.in-Some.body ∷ []),
        length-append seen (c.in-Some.body ∷ []),
        c.push_reserved.new.self.ok.0,
        c.loop-body.arms.ok.0,
        c.loop-body.invariant.count,
      );
      room = omega (arith, c.push_reserved.ensures.capacity, c.loop-body.invariant.room);
      made = one_more c.loop-body.arms.items c.push_reserved.new.self.items seen c.in-Some.body pushed c.loop-body.invariant.made;
    }

pub push_reserved-requires : goal.push_reserved-requires
push_reserved-requires g c =
    let all = c.args.bodies.items in
    let seen = c.loop-body.yielded in
    let rest = into_iter_items c.loop-body.body-iterator in
    let rest' = into_iter_items c.next.new.self in
    let less : length seen < length all = room_for_next all seen rest rest' c.in-Some.body c.loop-body.invariant.seen c.in-Some.ensures.steps.0 in
    omega (arith, c.loop-body.invariant.count, c.loop-body.invariant.room, c.args.bodies.ok.0)

pub loop-body-init : goal.loop-body-init
loop-body-init g c = grind (arith, common_steps)

pub returns : goal.returns
returns g c = grind (arith, common_steps)
