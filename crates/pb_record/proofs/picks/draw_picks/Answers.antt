use Rattle.std.proofs.Common.{List, Some, length, sym, ap, subst, arith}
use Rattle.pb_history.specs.Replays.{spread}
use Rattle.pb_history.specs.declared.counted.CountedPick.{CountedPick}
use Rattle.pb_machine.specs.Views.{machine_view}
use Rattle.pb_picks.specs.Counted.{AreApart}
use Rattle.pb_record.specs.Draws.{generator_of}
use Rattle.pb_record.proofs.DrawLemmas.{drawn_first, drawn_shown, drawn_silent}
use Rattle.pb_record.proofs.LongRecords.{too_many_picks}
use Rattle.pb_record.proofs.RecordedPicks.{lead_first, shown_more, silent_more, some_silent, stopped_is_recorded}
use Rattle.pb_record.proofs.RecordedPicks.{within_left}
use Rattle.pb_record.proofs.picks.draw_picks.Goals as goal

pub loop-left-preserved-in-Silent : goal.loop-left-preserved-in-Silent
loop-left-preserved-in-Silent c =
    let before = c.loop-left.invariant in
    let more = silent_more c.args.lending c.args.verified.now.code c.loop-left.picks.items c.count_pick.new.counted.items _ _ _ c.in-Silent.pick c.in-Silent.made
    c.loop-left.left c.args.steps c.in-Silent.is (c.in_ok-pick.ensures.step c.args.lending before.machine) (within_left c.loop-left.left _
    c.loop-left-test.true c.in_ok-pick.ensures.within) before.lead before.many
    c.in_ok-count_pick-in-Silent.ensures.picks in
    record {
      lead = more.0;
      many = more.1;
      apart = c.in_ok-count_pick-in-Silent.ensures.apart;
      machine = c.in_ok-pick.ensures.machine c.args.lending before.machine;
      drawn = drawn_silent c.args.lending c.args.verified.now.code (generator_of c.args.seed) c.loop-left.picks.items c.count_pick.new.counted.items _ _ _ _ _
          c.in-Silent.pick before.drawn (c.in_ok-pick.ensures.drawn c.args.lending before.machine) (c.in_ok-pick.ensures.step c.args.lending before.machine) c.in-Silent.made c.in-Silent.is
          c.in_ok-pick.ensures.within c.in_ok-count_pick-in-Silent.ensures.picks;
    }

pub loop-left-preserved : goal.loop-left-preserved
loop-left-preserved c =
    let before = c.loop-left.invariant in
    let more = shown_more c.args.lending c.args.verified.now.code c.loop-left.picks.items c.count_pick-in-Did.new.counted.items _ _ _ c.in-Did.pick c.in-Did.field-1
    c.loop-left.left c.args.steps c.in-Did.is (c.in_ok-pick.ensures.step c.args.lending before.machine) c.loop-left-test.true before.lead before.many
    c.in_ok-count_pick-in-Did.ensures.picks in
    record {
      lead = more.0;
      many = more.1;
      apart = c.in_ok-count_pick-in-Did.ensures.apart;
      machine = c.in_ok-pick.ensures.machine c.args.lending before.machine;
      drawn = drawn_shown c.args.lending c.args.verified.now.code (generator_of c.args.seed) c.loop-left.picks.items c.count_pick-in-Did.new.counted.items _ _ _ _ _
          c.in-Did.pick before.drawn (c.in_ok-pick.ensures.drawn c.args.lending before.machine) (c.in_ok-pick.ensures.step c.args.lending before.machine) c.in-Did.field-1 c.in-Did.is
          c.in_ok-count_pick-in-Did.ensures.picks;
    }

pub returns-then-len-gt-MAX_LINES-clause-picks : goal.returns-then-len-gt-MAX_LINES-clause-picks
returns-then-len-gt-MAX_LINES-clause-picks c =
    let before = c.loop-left.invariant in
    too_many_picks c.args.lending c.args.verified.now c.requires.verified c.args.seed c.loop-left.left c.args.steps c.loop-left.picks.items
    (machine_view c.loop-left.machine) c.loop-left.chooser.generator c.requires.steps before.lead before.apart before.many before.drawn (omega arith)

pub loop-left-init : goal.loop-left-init
loop-left-init c =
    let code = c.args.verified.now.code in
    let items = c.new-picks.result.items in
    let none = c.new-picks.ensures.items in
    let opens = c.in_ok-machine.ensures.opening in
    let count = ap (λ (cs : List CountedPick). length (spread cs)) none in record {
      lead = lead_first c.args.lending code items (machine_view c.in_ok-machine.machine) none opens;
      many = omega (arith, count);
      apart = subst AreApart (sym none) tt;
      machine = c.in_ok-machine.ensures.machine;
      drawn = drawn_first c.args.lending code (generator_of c.args.seed) _ items (machine_view c.in_ok-machine.machine) none opens c.new-chooser.ensures;
    }

pub count_pick-requires-clause-some : goal.count_pick-requires-clause-some
count_pick-requires-clause-some c =
    let some = some_silent c.args.lending c.args.verified.now.code _ _ _ c.in-Silent.pick c.in-Silent.made c.in-Silent.is
    (c.in_ok-pick.ensures.step c.args.lending c.loop-left.invariant.machine) in
    omega (arith, some)

pub loop-left-smaller-in-Silent : goal.loop-left-smaller-in-Silent
loop-left-smaller-in-Silent c =
    let some = some_silent c.args.lending c.args.verified.now.code _ _ _ c.in-Silent.pick c.in-Silent.made c.in-Silent.is
    (c.in_ok-pick.ensures.step c.args.lending c.loop-left.invariant.machine) in
    omega (arith, some, c.loop-left-test.true)

pub returns-in-NotEnabled-clause-picks : goal.returns-in-NotEnabled-clause-picks
returns-in-NotEnabled-clause-picks c =
    let before = c.loop-left.invariant in
    stopped_is_recorded c.args.lending c.args.verified.now.code c.args.steps c.loop-left.left (Some c.args.seed) c.loop-left.picks.items _ _ _
    c.in-NotEnabled.is (c.in_ok-pick.ensures.step c.args.lending before.machine) before.lead before.many before.apart
    (machine_view c.loop-left.machine, c.loop-left.chooser.generator, before.drawn)
