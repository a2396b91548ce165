use Rattle.std.proofs.Common.{rules, ◌-◌, ◌++◌, List, replicate, ◌∙◌, subst, arith}
use Rattle.pb_base.specs.declared.lending.Lending.{Lending}
use Rattle.pb_base.specs.declared.pick.Pick.{Pick}
use Rattle.pb_history.specs.Entries.{picks_of}
use Rattle.pb_history.specs.Replays.{IsStoppedBy}
use Rattle.pb_history.proofs.CountedPicks.{length_on, stopped_more}
use Rattle.pb_debug_positions.specs.Walks.{ReplaysBy}
use Rattle.pb_debug_positions.proofs.Walks.{all_made, checkpoint_here, checkpoints_before, more_made}
use Rattle.pb_debug_positions.proofs.checkpoints.Replaying.make.Goals as goal

pub returns-in_err-repeat-clause-stopped : goal.returns-in_err-repeat-clause-stopped
returns-in_err-repeat-clause-stopped c =
    let code = c.args.verified.now.code in
    let pick = c.args.counted.pick in
    let count = c.args.counted.count in
    let inv = c.loop-left.invariant in
    let left = c.loop-left.left in
    let n = c.up_to_next-count.result in
    let old = c.args.self.now.trace.entries in
    let here = c.loop-left.self.trace.entries in
    let least = c.up_to_next-count.ensures.most in
    let whole = all_made old here pick count left n inv.picks (omega (arith, least)) inv.left in
    let stopped : (lending : Lending) → ReplaysBy lending c.args.verified.now c.args.self.now
    → IsStoppedBy lending code (picks_of old ++ replicate count pick) c.in_err-repeat.field-0.0 = λ lending of.
    let led = inv.replays lending of in
    subst (λ (ps : List Pick). IsStoppedBy lending code ps c.in_err-repeat.field-0.0) whole
    (stopped_more lending code (picks_of here ++ replicate n pick) (replicate (left - n) pick) c.in_err-repeat.field-0.0
    (c.in_err-repeat.ensures.stopped lending (record { machine = led.machine; leads = led.leads }))) in
    search rules

pub up_to_next-count-requires-clause-few : goal.up_to_next-count-requires-clause-few
up_to_next-count-requires-clause-few c =
    let inv = c.loop-left.invariant in
    let here = c.loop-left.self.trace.entries in
    let before = length_on c.args.self.now.trace.entries here c.args.counted.pick (c.args.counted.count - c.loop-left.left) inv.picks in
    let fits = c.requires.fits in
    omega (arith, before, fits)

pub keep-requires-clause-few : goal.keep-requires-clause-few
keep-requires-clause-few c =
    let pick = c.args.counted.pick in
    let count = c.args.counted.count in
    let inv = c.loop-left.invariant in
    let left = c.loop-left.left in
    let n = c.up_to_next-count.result in
    let least = c.up_to_next-count.ensures.most in
    let here = c.loop-left.self.trace.entries in
    let before = length_on c.args.self.now.trace.entries here pick (count - left) inv.picks in
    let now = length_on here c.repeat.new.trace.entries pick n c.in_ok-repeat.ensures.picks in
    let len = c.len.ensures in
    let fewer = inv.left in
    let fits = c.requires.fits in
    omega (arith, least, before, now, len, fewer, fits)

pub keep-requires-clause-before : goal.keep-requires-clause-before
keep-requires-clause-before c =
    let here = c.loop-left.self.trace.entries in
    let now = length_on here c.repeat.new.trace.entries c.args.counted.pick c.up_to_next-count.result c.in_ok-repeat.ensures.picks in
    let len = c.len.ensures in
    let next = c.up_to_next-count.ensures.next in
    omega (arith, len, now, next)

pub keep-requires-clause-after : goal.keep-requires-clause-after
keep-requires-clause-after c =
    let here = c.loop-left.self.trace.entries in
    let now = length_on here c.repeat.new.trace.entries c.args.counted.pick c.up_to_next-count.result c.in_ok-repeat.ensures.picks in
    let len = c.len.ensures in
    let after = (c.loop-left.invariant.replays c.requires.replays.0 c.requires.replays.1).after in
    omega (arith, len, now, after)

pub loop-left-preserved : goal.loop-left-preserved
loop-left-preserved c =
    let v = c.args.verified.now in
    let pick = c.args.counted.pick in
    let count = c.args.counted.count in
    let inv = c.loop-left.invariant in
    let left = c.loop-left.left in
    let n = c.up_to_next-count.result in
    let least = c.up_to_next-count.ensures.most in
    let fewer = inv.left in
    let old = c.args.self.now.trace.entries in
    let r = c.loop-left.self in
    let entries = c.repeat.new.trace.entries in
    let made = c.in_ok-repeat.ensures.picks in
    let len = c.len.ensures in
    let enough = c.in_ok-keep.ensures.enough in
    let fewest = c.in_ok-keep.ensures.fewest in
    record {
      left = omega (arith, fewer);
      replays = λ lending of.
          let here = inv.replays lending of in
          let led = c.in_ok-repeat.ensures.led lending (record { machine = here.machine; leads = here.leads }) in
          let before = checkpoints_before v (picks_of r.trace.entries) (replicate n pick) (picks_of entries)
          r.interval r.checkpoints.items made here.checkpoints in
          let now = checkpoint_here v entries c.len.result c.repeat.new.machine led.machine led.leads c.len.ensures in
          record {
            machine = led.machine;
            leads = led.leads;
            checkpoints = c.in_ok-keep.ensures.checkpoints lending v (picks_of entries) before now;
            before = omega (arith, len, enough);
            after = omega (arith, len, fewest);
          };
      picks = made ∙ more_made old r.trace.entries pick count left n inv.picks (omega (arith, least)) fewer;
      interval = inv.interval;
    }

pub repeat-requires-clause-led : goal.repeat-requires-clause-led
repeat-requires-clause-led c =
    let here = c.loop-left.invariant.replays c.requires.replays.0 c.requires.replays.1 in
    (c.requires.replays.0, record { machine = here.machine; leads = here.leads })

pub up_to_next-count-requires-clause-before : goal.up_to_next-count-requires-clause-before
up_to_next-count-requires-clause-before c = (c.loop-left.invariant.replays c.requires.replays.0 c.requires.replays.1).before

pub up_to_next-count-requires-clause-after : goal.up_to_next-count-requires-clause-after
up_to_next-count-requires-clause-after c = (c.loop-left.invariant.replays c.requires.replays.0 c.requires.replays.1).after
