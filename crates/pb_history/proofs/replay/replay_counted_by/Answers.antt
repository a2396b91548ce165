use Rattle.std.proofs.Common.{◌≡◌, ◌+◌, ◌++◌, ◌∙◌, List, length, get_or, take, drop, replicate, sym, ap, subst, rules}
use Rattle.std.proofs.Common.{length-append, arith}
use Rattle.std.proofs.lemmas.List.{length-map, length-replicate}
use Rattle.pb_base.specs.declared.pick.Pick.{Pick}
use Rattle.pb_history.specs.Entries.{Entry, picks_of}
use Rattle.pb_history.specs.Replays.{IsStoppedBy, spread}
use Rattle.pb_history.specs.declared.counted.CountedPick.{CountedPick}
use Rattle.pb_history.proofs.CountedPicks.{spread_take, spread_whole, stopped_more}
use Rattle.pb_history.proofs.SpanEnds.{item_there}
use Rattle.pb_history.proofs.replay.replay_counted_by.Goals as goal

pub repeat-requires-clause-fits : goal.repeat-requires-clause-fits
repeat-requires-clause-fits c =
    let picks = c.args.picks.now in
    let i = c.loop-i.i in
    let entries = c.loop-i.trace.entries in
    let test = c.loop-i-test.true in
    let x : CountedPick = get_or picks i (record { pick = record { process = 0; arm = 0 }; count = 0 }) in
    let there = item_there picks i (record { pick = record { process = 0; arm = 0 }; count = 0 }) (omega (arith, test)) in
    let a = ap (λ (ps : List Pick). length ps) c.loop-i.invariant.replay.made in
    let b = length-map entries (λ (e : Entry). e.pick) in
    let d = ap (λ (ps : List Pick). length ps) (spread_whole picks (i + 1)) in
    let e = length-append (spread (take (i + 1) picks)) (spread (drop (i + 1) picks)) in
    let f = ap (λ (ps : List Pick). length ps) (spread_take picks i x there) in
    let g = length-append (spread (take i picks)) (replicate x.count x.pick) in
    let h : length (replicate x.count x.pick) ≡ x.count = length-replicate x.count x.pick in
    omega (arith, a, b, d, e, f, g, h, c.requires)

pub returns-in_err-repeat-clause-stopped : goal.returns-in_err-repeat-clause-stopped
returns-in_err-repeat-clause-stopped c =
    let code = c.args.verified.now.code in
    let picks = c.args.picks.now in
    let i = c.loop-i.i in
    let test = c.loop-i-test.true in
    let x : CountedPick = get_or picks i (record { pick = record { process = 0; arm = 0 }; count = 0 }) in
    let there = item_there picks i (record { pick = record { process = 0; arm = 0 }; count = 0 }) (omega (arith, test)) in
    let before : picks_of c.loop-i.trace.entries ++ replicate x.count x.pick ≡ spread (take (i + 1) picks) =
    ap (λ (ps : List Pick). ps ++ replicate x.count x.pick) c.loop-i.invariant.replay.made ∙ sym (spread_take picks i x there) in
    let stopped : IsStoppedBy c.args.lending code (spread picks) c.in_err-repeat.field-0.0 =
    subst (λ (ps : List Pick). IsStoppedBy c.args.lending code ps c.in_err-repeat.field-0.0) (sym (spread_whole picks (i + 1)))
    (stopped_more c.args.lending code (spread (take (i + 1) picks)) (spread (drop (i + 1) picks)) c.in_err-repeat.field-0.0
    (subst (λ (ps : List Pick). IsStoppedBy c.args.lending code ps c.in_err-repeat.field-0.0) before (c.in_err-repeat.ensures.stopped c.args.lending (record { machine = c.loop-i.invariant.machine; leads = c.loop-i.invariant.replay.leads })))) in
    search rules

pub loop-i-preserved : goal.loop-i-preserved
loop-i-preserved c =
    let code = c.args.verified.now.code in
    let picks = c.args.picks.now in
    let i = c.loop-i.i in
    let test = c.loop-i-test.true in
    let x : CountedPick = get_or picks i (record { pick = record { process = 0; arm = 0 }; count = 0 }) in
    let there = item_there picks i (record { pick = record { process = 0; arm = 0 }; count = 0 }) (omega (arith, test)) in
    record {
      replay = record {
        made = c.in_ok-repeat.ensures.picks
            ∙ (ap (λ (ps : List Pick). ps ++ replicate x.count x.pick) c.loop-i.invariant.replay.made ∙ sym (spread_take picks i x there));
        leads = (c.in_ok-repeat.ensures.led c.args.lending (record { machine = c.loop-i.invariant.machine; leads = c.loop-i.invariant.replay.leads })).leads;
      };
      machine = (c.in_ok-repeat.ensures.led c.args.lending (record { machine = c.loop-i.invariant.machine; leads = c.loop-i.invariant.replay.leads })).machine;
    }

pub repeat-requires-clause-led : goal.repeat-requires-clause-led
repeat-requires-clause-led c =
    (c.args.lending, record { machine = c.loop-i.invariant.machine; leads = c.loop-i.invariant.replay.leads })
