use Rattle.std.proofs.Common.{◌≡◌, ◌+◌, ◌-◌, ℕ, length, ap, ◌∙◌, subst, arith}
use Rattle.std.proofs.lemmas.List.{length-map}
use Rattle.pb_history.specs.Entries.{Entry, picks_of}
use Rattle.pb_draw.specs.Cash.{ShowsCash, cash_after}
use Rattle.pb_history.specs.Positions.{IsAfterBy}
use Rattle.pb_draw.proofs.Walks.{cash_here}
use Rattle.pb_draw.proofs.cash.cash_curve.Goals as goal

pub loop-i-init : goal.loop-i-init
loop-i-init c =
    let v = c.args.verified.now in
    let picks = picks_of c.args.trace.now.entries in
    let stands : IsAfterBy c.args.lending v picks 0 c.in_ok-machine.machine =
    record { machine = c.in_ok-machine.ensures.machine; state = c.in_ok-machine.ensures.opening } in
    let last : c.cash_of-last.result ≡ cash_after v.code picks c.args.r 0 =
    c.cash_of-last.ensures ∙ cash_here c.args.lending v picks 0 c.args.r c.in_ok-machine.machine stands in
    record { stands = stands; last = last; curve = c.in_ok-steps.ensures (cash_after v.code picks c.args.r) last }

pub loop-i-preserved : goal.loop-i-preserved
loop-i-preserved c =
    let v = c.args.verified.now in
    let picks = picks_of c.args.trace.now.entries in
    let i = c.loop-i.i in
    let f = cash_after v.code picks c.args.r in
    let cash : c.cash_of-cash.result ≡ cash_after v.code picks c.args.r (i + 1) =
    c.cash_of-cash.ensures ∙ cash_here c.args.lending v picks (i + 1) c.args.r c.advance.new.machine (c.advance.ensures.stands c.args.lending c.requires.enabled c.loop-i.invariant.stands) in
    let e : i ≡ i + 1 - 1 = omega arith in
    record {
      stands = (c.advance.ensures.stands c.args.lending c.requires.enabled c.loop-i.invariant.stands);
      last = cash;
      curve = c.in_ok-add_step.ensures f (c.loop-i.invariant.last ∙ ap f e) cash
          (subst (λ (k : ℕ). ShowsCash f k c.loop-i.steps.items) e c.loop-i.invariant.curve);
    }

pub returns : goal.returns
returns c =
    let v = c.args.verified.now in
    let picks = picks_of c.args.trace.now.entries in
    let many = length-map c.args.trace.now.entries (λ (e : Entry). e.pick) in
    let len = c.len-i-end.ensures in
    let test = c.loop-i-test.false in
    let past = c.loop-i.auto.i-end in
    let e : c.loop-i.i ≡ length picks = omega (arith, many, len, test, past) in
    subst (λ (n : ℕ). ShowsCash (cash_after v.code picks c.args.r) n c.loop-i.steps.items) e c.loop-i.invariant.curve

pub advance-requires-clause-stands : goal.advance-requires-clause-stands
advance-requires-clause-stands c = (c.args.lending, c.requires.enabled, c.loop-i.invariant.stands)

pub cash_of-last-requires-clause-machine : goal.cash_of-last-requires-clause-machine
cash_of-last-requires-clause-machine c = (c.args.lending, c.in_ok-machine.ensures.machine)

pub cash_of-cash-requires-clause-machine : goal.cash_of-cash-requires-clause-machine
cash_of-cash-requires-clause-machine c =
    (c.args.lending, (c.advance.ensures.stands c.args.lending c.requires.enabled c.loop-i.invariant.stands).machine)
