use Rattle.std.proofs.Common.{◌+◌, get_or, arith}
use Rattle.pb_history.specs.declared.counted.CountedPick.{CountedPick}
use Rattle.pb_history.proofs.SpanEnds.{item_there}
use Rattle.pb_debug_positions.proofs.Walks.{count_more, count_within}
use Rattle.pb_debug_positions.proofs.checkpoints.count_all.Goals as goal

pub overflow_add-count : goal.overflow_add-count
overflow_add-count c =
    let picks = c.args.picks.now in
    let i = c.loop-i.i in
    let test = c.loop-i-test.true in
    let x : CountedPick = get_or picks i (record { pick = record { process = 0; arm = 0 }; count = 0 }) in
    let there = item_there picks i (record { pick = record { process = 0; arm = 0 }; count = 0 }) (omega (arith, test)) in
    let more = count_more picks i x there in
    let within = count_within picks (i + 1) in
    let now = c.loop-i.invariant.count in
    let few = c.requires in
    omega (arith, more, within, now, few)

pub loop-i-preserved : goal.loop-i-preserved
loop-i-preserved c =
    let picks = c.args.picks.now in
    let i = c.loop-i.i in
    let test = c.loop-i-test.true in
    let x : CountedPick = get_or picks i (record { pick = record { process = 0; arm = 0 }; count = 0 }) in
    let there = item_there picks i (record { pick = record { process = 0; arm = 0 }; count = 0 }) (omega (arith, test)) in
    let more = count_more picks i x there in
    let now = c.loop-i.invariant.count in
    record { count = omega (arith, more, now) }
