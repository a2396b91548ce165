use Rattle.std.proofs.Common.{◌+◌, ◌++◌, refl, List, get_or, take, drop, sym, ap, ◌∙◌, length, replicate, arith, length-append}
use Rattle.std.proofs.lemmas.List.{drop_more, length-replicate}
use Rattle.pb_base.specs.declared.pick.Pick.{Pick}
use Rattle.pb_history.specs.declared.counted.CountedPick.{CountedPick}
use Rattle.pb_history.proofs.CountedPicks.{spread_take}
use Rattle.pb_history.specs.Replays.{spread}
use Rattle.pb_history.proofs.SpanEnds.{item_there}
use Rattle.pb_history.proofs.SpanEvents.{take_drop}
use Rattle.pb_picks.proofs.PickParts.{behind_line}
use Rattle.pb_message_stops.proofs.StopLines.{parted_next}
use Rattle.pb_message_stops.proofs.stops.stop_of.Goals as goal

pub returns-then-before-counted : goal.returns-then-before-counted
returns-then-before-counted c = λ code spells.
    let picks = c.args.picks.now in
    let i = c.loop-i.i in
    let test = c.loop-i-test.true in
    let x : CountedPick = get_or picks i (record { pick = record { process = 0; arm = 0 }; count = 0 }) in
    let next = drop_more picks i (record { pick = record { process = 0; arm = 0 }; count = 0 }) (omega (arith, test)) in
    let counted = c.loop-i.invariant.counted in
    let within = c.loop-i.invariant.within in
    let less = c.if-before-counted.true in
    record {
      before = take i picks;
      counted = x;
      behind = drop (i + 1) picks;
      rest = c.loop-i.rest.now;
      parts = sym (take_drop i picks) ∙ ap (λ (cs : List CountedPick). take i picks ++ cs) next;
      reads = (c.loop-i.invariant.parted code spells.reads).0;
      there = omega (arith, within);
      numbered = refl;
      pick = refl;
      count = refl;
      made = omega (arith, counted);
      fewer = omega (arith, less);
    }

pub loop-i-preserved : goal.loop-i-preserved
loop-i-preserved c =
    let picks = c.args.picks.now in
    let i = c.loop-i.i in
    let test = c.loop-i-test.true in
    let x : CountedPick = get_or picks i (record { pick = record { process = 0; arm = 0 }; count = 0 }) in
    let there = item_there picks i (record { pick = record { process = 0; arm = 0 }; count = 0 }) (omega (arith, test)) in
    let next = drop_more picks i (record { pick = record { process = 0; arm = 0 }; count = 0 }) (omega (arith, test)) in
    let rest = c.loop-i.rest.now in
    let line = c.first_line.result.0.now in
    let after = c.first_line.result.1.now in
    let counted = c.loop-i.invariant.counted in
    let within = c.loop-i.invariant.within in
    let not_less = c.if-before-counted.false in
    let more = ap (λ (ps : List Pick). length ps) (spread_take picks i x there) in
    let both = length-append (spread (take i picks)) (replicate x.count x.pick) in
    let many = length-replicate x.count x.pick in
    let shorter = behind_line rest line after c.first_line.ensures in
    record {
      counted = omega (arith, more, both, many, counted, not_less);
      within = omega (arith, shorter, within);
      parted = λ code reads. parted_next code c.args.lines.now picks i x rest line after there next c.first_line.ensures
          (c.loop-i.invariant.parted code reads);
    }
