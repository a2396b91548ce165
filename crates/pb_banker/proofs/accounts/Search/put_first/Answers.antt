use Rattle.std.proofs.Common.{◌≡◌, ◌<◌, ◌+◌, [], ◌∷◌, length, filter, take, get_or, arith, ap, ◌∙◌}
use Rattle.std.proofs.lemmas.List.{length-set, length-append}
use Rattle.pb_banker.proofs.Search.{marked}
use Rattle.pb_banker.proofs.Parts.{part_room, part_next, part_next_no, one_put}
use Rattle.pb_banker.proofs.accounts.Search.put_first.Goals as goal
use Rattle.pb_banker.proofs.accounts.Search.put_first.Goals.{then-self-p, else-self-p}

pub bounds-next-count : goal.bounds-next-count
bounds-next-count c =
    let few = c.requires.few in
    let long = c.told-order in
    let l = c.loop-k-test.true in
    let room = part_room (marked c.args.self.now.waiting) c.args.order.now c.loop-k.k c.args.processes l (omega (arith, few, long)) c.if-self-p.true in
    let all = c.requires.room in
    let count = c.loop-k.invariant.count in
    omega (arith, few, room, all, count)

pub overflow_add-count : goal.overflow_add-count
overflow_add-count c =
    let few = c.requires.few in
    let long = c.told-order in
    let l = c.loop-k-test.true in
    let room = part_room (marked c.args.self.now.waiting) c.args.order.now c.loop-k.k c.args.processes l (omega (arith, few, long)) c.if-self-p.true in
    let all = c.requires.room in
    let count = c.loop-k.invariant.count in
    omega (arith, few, room, all, count)

pub loop-k-preserved : goal.loop-k-preserved
loop-k-preserved c =
    let few = c.requires.few in
    let long = c.told-order in
    let l = c.loop-k-test.true in
    let inside : c.loop-k.k < length c.args.order.now = omega (arith, few, long, l) in
    let all = c.requires.room in
    let count = c.loop-k.invariant.count in
    let places = c.loop-k.invariant.places in
    elim c.if-self-p.branch [
      | then-self-p w ↦
          (let more = part_next (marked c.args.self.now.waiting) c.args.order.now c.loop-k.k inside w.if-self-p.true in
          let one = ap length more in
          let two = length-append (filter (marked c.args.self.now.waiting) (take c.loop-k.k c.args.order.now)) (get_or c.args.order.now c.loop-k.k 0 ∷ []) in
          let have : c.loop-k.count ≡ c.args.self.now.count + length (filter (marked c.args.self.now.waiting) (take c.loop-k.k c.args.order.now)) = count in
          let next : c.loop-k.count + 1 ≡ c.args.self.now.count + length (filter (marked c.args.self.now.waiting) (take (c.loop-k.k + 1) c.args.order.now)) =
          omega (arith, one, two, have) in
          let room = part_room (marked c.args.self.now.waiting) c.args.order.now c.loop-k.k c.args.processes l (omega (arith, few, long)) w.if-self-p.true in
          rw (w.next-is, w.count-is)
          (record {
            places = length-set c.loop-k.next c.loop-k.count _ ∙ places;
            count = next;
            so_far = one_put (marked c.args.self.now.waiting) _ c.loop-k.next c.args.order.now c.loop-k.count c.loop-k.k inside w.if-self-p.true
                (omega (arith, few, room, all, count, places)) c.loop-k.invariant.so_far;
          }))
      | else-self-p w ↦
          (let same = part_next_no (marked c.args.self.now.waiting) c.args.order.now c.loop-k.k inside w.if-self-p.false in
          rw (w.next-is, w.count-is, same)
          (record { places = places; count = count; so_far = c.loop-k.invariant.so_far }))
    ]
