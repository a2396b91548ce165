use Rattle.std.proofs.Common.{length, reverse, take, ap, ◌∙◌, arith}
use Rattle.std.proofs.lemmas.List.{length-reverse, length-take-le, reverse-reverse, take_all}
use Rattle.pb_machine.proofs.stack.Stack.set_to.Goals as goal

pub push-requires : goal.push-requires
push-requires c =
    let items = c.as_slice-value-items.result.now in
    let count = ap length c.loop-value.invariant.items
    ∙ (length-reverse (take c.loop-value.value-index items) ∙ length-take-le c.loop-value.value-index items c.loop-value.auto.value-index-end) in
    let same = ap length c.as_slice-value-items.ensures ∙ length-reverse c.args.other.now.items in
    let fits = c.requires in
    let room = c.loop-value.invariant.room in
    omega (arith, count, same, fits, room)

pub returns-clause-items : goal.returns-clause-items
returns-clause-items c =
    let all = take_all c.loop-value.value-index c.as_slice-value-items.result.now c.loop-value-test.false in
    c.loop-value.invariant.items ∙ (ap reverse (all ∙ c.as_slice-value-items.ensures) ∙ reverse-reverse c.args.other.now.items)
