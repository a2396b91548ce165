use Rattle.std.proofs.Common.{rules, ◌≡◌, ◌+◌, ◌++◌, List, length, get_or, take, drop, replicate, sym, ap, ◌∙◌, subst}
use Rattle.std.proofs.Common.{arith}
use Rattle.std.proofs.lemmas.List.{length-map, length-take-le}
use Rattle.pb_base.specs.declared.lending.Lending.{Lending}
use Rattle.pb_base.specs.declared.pick.Pick.{Pick}
use Rattle.pb_base.proofs.Lists.{take_next}
use Rattle.pb_history.specs.Entries.{Entry, picks_of}
use Rattle.pb_history.specs.Replays.{IsStoppedBy}
use Rattle.pb_history.proofs.SpanEvents.{take_drop}
use Rattle.pb_history.proofs.CountedPicks.{stopped_more}
use Rattle.pb_history.proofs.SpanEnds.{item_there}
use Rattle.pb_debug_positions.specs.Walks.{ReplaysBy}
use Rattle.pb_debug_positions.proofs.checkpoints.Replaying.make_each.Goals as goal

pub make-requires-clause-fits : goal.make-requires-clause-fits
make-requires-clause-fits c =
    let picks = c.args.picks.now in
    let i = c.loop-i.i in
    let test = c.loop-i-test.true in
    let entries = c.loop-i.self.trace.entries in
    let a = ap (λ (ps : List Pick). length ps) c.loop-i.invariant.picks in
    let b = length-map entries (λ (e : Entry). e.pick) in
    let d : length (take i picks) ≡ i = length-take-le i picks (omega (arith, test)) in
    let few = c.requires.few in
    omega (arith, a, b, d, few, test)

pub make-requires-clause-some : goal.make-requires-clause-some
make-requires-clause-some c =
    let same = c.loop-i.invariant.interval in
    let some = c.requires.some in
    omega (arith, same, some)

pub make-requires-clause-small : goal.make-requires-clause-small
make-requires-clause-small c =
    let same = c.loop-i.invariant.interval in
    let small = c.requires.small in
    omega (arith, same, small)

pub returns-in_err-make-clause-stopped : goal.returns-in_err-make-clause-stopped
returns-in_err-make-clause-stopped c =
    let code = c.args.verified.now.code in
    let picks = c.args.picks.now in
    let i = c.loop-i.i in
    let test = c.loop-i-test.true in
    let pick : Pick = get_or picks i (record { process = 0; arm = 0 }) in
    let there = item_there picks i (record { process = 0; arm = 0 }) (omega (arith, test)) in
    let before : picks_of c.loop-i.self.trace.entries ++ replicate 1 pick ≡ take (i + 1) picks =
    ap (λ (ps : List Pick). ps ++ replicate 1 pick) c.loop-i.invariant.picks ∙ sym (take_next picks i pick there) in
    let stopped : (lending : Lending) → ReplaysBy lending c.args.verified.now c.args.self.now
    → IsStoppedBy lending code picks c.in_err-make.field-0.0 = λ lending of.
    subst (λ (ps : List Pick). IsStoppedBy lending code ps c.in_err-make.field-0.0) (take_drop (i + 1) picks)
    (stopped_more lending code (take (i + 1) picks) (drop (i + 1) picks) c.in_err-make.field-0.0
    (subst (λ (ps : List Pick). IsStoppedBy lending code ps c.in_err-make.field-0.0) before (c.in_err-make.ensures.stopped lending (c.loop-i.invariant.replays lending of)))) in
    search rules

pub loop-i-preserved : goal.loop-i-preserved
loop-i-preserved c =
    let picks = c.args.picks.now in
    let i = c.loop-i.i in
    let test = c.loop-i-test.true in
    let pick : Pick = get_or picks i (record { process = 0; arm = 0 }) in
    let there = item_there picks i (record { process = 0; arm = 0 }) (omega (arith, test)) in
    record {
      replays = λ lending of. c.in_ok-make.ensures.replays lending (c.loop-i.invariant.replays lending of);
      picks = c.in_ok-make.ensures.picks
          ∙ (ap (λ (ps : List Pick). ps ++ replicate 1 pick) c.loop-i.invariant.picks ∙ sym (take_next picks i pick there));
      interval = c.in_ok-make.ensures.interval ∙ c.loop-i.invariant.interval;
    }

pub make-requires-clause-replays : goal.make-requires-clause-replays
make-requires-clause-replays c = (c.requires.replays.0, c.loop-i.invariant.replays c.requires.replays.0 c.requires.replays.1)
