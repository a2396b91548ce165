use Rattle.std.proofs.Common.{arith, ◌≤◌, length, map, ap, ◌∙◌}
use Rattle.std.proofs.lemmas.List.{take_all}
use Rattle.pb_generator.specs.Generate.{arms_code, arms_entries}
use Rattle.pb_generator.specs.Lines.{arms_lines}
use Rattle.pb_names.specs.Program.{arms_in}
use Rattle.pb_names.specs.View.{block_view}
use Rattle.pb_generator.proofs.ArmOrder.{room_for_arm, wrote_arm, wrote_none}
use Rattle.pb_generator.proofs.Loops.{at_read}
use Rattle.pb_generator.proofs.process.write_arms.Goals as goal

pub place-requires : goal.place-requires
place-requires g c =
    let room = room_for_arm (λ arm. block_view arm.now.items) c.args.arms.now.items c.deref-arm-items.result.now
    c.loop-arm.arm-index c.arm-item.result c.loop-arm.entries.items c.deref-arm-items.ensures.value c.arm-item.is c.loop-arm-test.true
    c.requires.small c.loop-arm.invariant in
    let small = room.small in
    omega (arith, small)

pub put_arm-requires-clause-room : goal.put_arm-requires-clause-room
put_arm-requires-clause-room g c =
    room_for_arm (λ arm. block_view arm.now.items) c.args.arms.now.items c.deref-arm-items.result.now
    c.loop-arm.arm-index c.arm-item.result c.loop-arm.entries.items c.deref-arm-items.ensures.value c.arm-item.is c.loop-arm-test.true
    c.requires.small c.loop-arm.invariant

pub put_arm-requires-clause-few_arms : goal.put_arm-requires-clause-few_arms
put_arm-requires-clause-few_arms g c =
    at_read (λ arm. block_view arm.now.items) (λ arm. length (arms_in arm) ≤ 64) c.args.arms.now.items c.deref-arm-items.result.now
    c.loop-arm.arm-index c.arm-item.result c.deref-arm-items.ensures.value c.arm-item.is c.loop-arm-test.true c.requires.few_arms

pub loop-arm-preserved : goal.loop-arm-preserved
loop-arm-preserved g c =
    wrote_arm (λ arm. block_view arm.now.items) c.deref-arm-items.result.now c.loop-arm.arm-index c.arm-item.result
    c.loop-arm.entries.items c.push.new.self.items c.place.result c.arm-item.is c.loop-arm-test.true c.loop-arm.invariant
    c.place.ensures c.in_ok-push.ensures.items c.in_ok-put_arm.ensures

pub returns-clause-code : goal.returns-clause-code
returns-clause-code g c =
    c.loop-arm.invariant.coded
    ∙ ap (λ arms. arms_code 0 (map (λ arm. block_view arm.now.items) arms))
    (take_all c.loop-arm.arm-index c.deref-arm-items.result.now c.loop-arm-test.false ∙ c.deref-arm-items.ensures.value)

pub returns-clause-lines : goal.returns-clause-lines
returns-clause-lines g c =
    c.loop-arm.invariant.lined
    ∙ ap (λ arms. arms_lines (map (λ arm. block_view arm.now.items) arms))
    (take_all c.loop-arm.arm-index c.deref-arm-items.result.now c.loop-arm-test.false ∙ c.deref-arm-items.ensures.value)

pub returns-clause-entries : goal.returns-clause-entries
returns-clause-entries g c =
    c.loop-arm.invariant.begun
    ∙ ap (λ arms. arms_entries 0 (map (λ arm. block_view arm.now.items) arms))
    (take_all c.loop-arm.arm-index c.deref-arm-items.result.now c.loop-arm-test.false ∙ c.deref-arm-items.ensures.value)

pub loop-arm-init : goal.loop-arm-init
loop-arm-init g c =
    wrote_none _ _ c.new-writer.ensures.instrs c.new-writer.ensures.lines c.new-writer.ensures.bundles
    c.new-entries.ensures.items
