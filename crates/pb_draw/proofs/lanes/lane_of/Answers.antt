use Rattle.std.proofs.Common.{◌≡◌, ◌+◌, ◌-◌, ℕ, length, subst, arith}
use Rattle.std.proofs.lemmas.List.{length-map}
use Rattle.pb_history.specs.Entries.{Entry, picks_of}
use Rattle.pb_draw.specs.Lanes.{IsStandingAfter, ShowsStandings}
use Rattle.pb_history.specs.Positions.{IsAfterBy}
use Rattle.pb_draw.proofs.Walks.{standing_here}
use Rattle.pb_draw.proofs.lanes.lane_of.Goals as goal

pub loop-i-init : goal.loop-i-init
loop-i-init c =
    let v = c.args.verified.now in
    let picks = picks_of c.args.trace.now.entries in
    let m = c.in_ok-machine.machine in
    let stands : IsAfterBy c.args.lending v picks 0 m =
    record { machine = c.in_ok-machine.ensures.machine; state = c.in_ok-machine.ensures.opening } in
    let here = standing_here c.args.lending v picks 0 c.args.pick c.in_ok-first.first m stands c.in_ok-first.ensures in
    record {
      stands = stands;
      some = c.in_ok-steps.ensures.some;
      lane = c.in_ok-steps.ensures.shows c.args.lending v.code picks c.args.pick here;
    }

pub standing_of-requires : goal.standing_of-requires
standing_of-requires c = (c.args.lending, c.in_ok-machine.ensures.machine)

pub standing_of-requires-in-loop-i : goal.standing_of-requires-in-loop-i
standing_of-requires-in-loop-i c =
    (c.args.lending, (c.advance.ensures.stands c.args.lending c.requires c.loop-i.invariant.stands).machine)

pub loop-i-preserved : goal.loop-i-preserved
loop-i-preserved c =
    let v = c.args.verified.now in
    let picks = picks_of c.args.trace.now.entries in
    let i = c.loop-i.i in
    let stands = c.advance.ensures.stands c.args.lending c.requires c.loop-i.invariant.stands in
    let here = standing_here c.args.lending v picks (i + 1) c.args.pick c.in_ok-standing.standing c.advance.new.machine stands
    c.in_ok-standing.ensures in
    let e : i ≡ i + 1 - 1 = omega arith in
    record {
      stands = stands;
      some = c.in_ok-add_step.ensures.some;
      lane = c.in_ok-add_step.ensures.shows c.args.lending v.code picks c.args.pick here
          (subst (λ (k : ℕ). ShowsStandings (IsStandingAfter c.args.lending v.code picks c.args.pick) k c.loop-i.steps.items) e
          c.loop-i.invariant.lane);
    }

pub returns-clause-lane : goal.returns-clause-lane
returns-clause-lane c =
    let v = c.args.verified.now in
    let picks = picks_of c.args.trace.now.entries in
    let many = length-map c.args.trace.now.entries (λ (e : Entry). e.pick) in
    let len = c.len-i-end.ensures in
    let test = c.loop-i-test.false in
    let past = c.loop-i.auto.i-end in
    let e : c.loop-i.i ≡ length picks = omega (arith, many, len, test, past) in
    subst (λ (n : ℕ). ShowsStandings (IsStandingAfter c.args.lending v.code picks c.args.pick) n c.loop-i.steps.items) e
    c.loop-i.invariant.lane

pub advance-requires-clause-stands : goal.advance-requires-clause-stands
advance-requires-clause-stands c = (c.args.lending, c.requires, c.loop-i.invariant.stands)
