use Rattle.std.proofs.Common.{◌≡◌, ◌+◌, ◌-◌, ◌++◌, ℕ, List, None, Some, length, replicate, sym, ap, ◌∙◌, subst, arith}
use Rattle.pb_code.specs.Whole.{code_opening}
use Rattle.pb_machine.specs.Views.{machine_view}
use Rattle.pb_history.specs.Entries.{Entry, picks_of, run_of}
use Rattle.pb_history.specs.Leads.{LeadsBy}
use Rattle.pb_history.specs.Replays.{StopsAt}
use Rattle.pb_history.proofs.CountedPicks.{halted_run, length_on, length_run, picks_on, shown_run, silent_run}
use Rattle.pb_history.proofs.CountedPicks.{stopped_run, stops_here}
use Rattle.pb_history.proofs.replay.repeat.Goals as goal

pub loop-left-preserved-in-Silent : goal.loop-left-preserved-in-Silent
loop-left-preserved-in-Silent c =
    let code = c.args.verified.now.code in
    let pick = c.args.counted.pick in
    let count = c.args.counted.count in
    let inv = c.loop-left.invariant in
    let led = inv.led c.requires.led.0 c.requires.led.1 in
    let left = c.loop-left.left in
    let n = c.run-silent.result.0 in
    let entries = c.loop-left.trace.entries in
    let after = machine_view c.run-silent.new.machine in
    let run = silent_run code (machine_view c.loop-left.machine) after entries pick left n c.run-silent.result.1
    led.leads (c.run-silent.ensures.run c.requires.led.0 led.machine) c.in-Silent.is in
    let now : c.push_run.new.self.entries ≡ entries ++ run_of pick n None =
    c.push_run.ensures.entries ∙ ap (λ (es : List Entry). es ++ run_of pick n None) c.in_ok-reserve.ensures.same in
    let fewer = inv.left in
    let number : count - left + (n + 0) ≡ count - (left - n) = (let e = run.1 in omega (arith, e, fewer)) in
    record {
      left = omega (arith, fewer);
      led = λ lending of.
          let here = inv.led lending of in
          record {
            machine = c.run-silent.ensures.machine lending here.machine;
            leads = subst (λ (es : List Entry). LeadsBy lending code (code_opening code) es after) (sym now)
                (silent_run code (machine_view c.loop-left.machine) after entries pick left n c.run-silent.result.1 here.leads
                (c.run-silent.ensures.run lending here.machine) c.in-Silent.is).0;
          };
      picks = ap picks_of now ∙ (picks_on c.args.trace.now.entries entries pick (count - left) n None inv.picks
          ∙ ap (λ (k : ℕ). picks_of c.args.trace.now.entries ++ replicate k pick) number);
    }

pub push_run-requires-in-Did-clause-fits : goal.push_run-requires-in-Did-clause-fits
push_run-requires-in-Did-clause-fits c =
    let code = c.args.verified.now.code in
    let pick = c.args.counted.pick in
    let count = c.args.counted.count in
    let inv = c.loop-left.invariant in
    let led = inv.led c.requires.led.0 c.requires.led.1 in
    let left = c.loop-left.left in
    let n = c.run-silent.result.0 in
    let entries = c.loop-left.trace.entries in
    let run = shown_run code (machine_view c.loop-left.machine) (machine_view c.run-silent.new.machine) entries pick
    left n c.run-silent.result.1 led.leads (c.run-silent.ensures.run c.requires.led.0 led.machine) c.in-Did.event c.in-Did.is in
    let len = length_on c.args.trace.now.entries entries pick (count - left) inv.picks in
    let same = ap (λ (es : List Entry). length es) c.in_ok-reserve.ensures.same in
    let few = run.1 in
    let fewer = inv.left in
    omega (arith, len, same, few, fewer, c.requires.fits)

pub loop-left-preserved : goal.loop-left-preserved
loop-left-preserved c =
    let code = c.args.verified.now.code in
    let pick = c.args.counted.pick in
    let count = c.args.counted.count in
    let inv = c.loop-left.invariant in
    let led = inv.led c.requires.led.0 c.requires.led.1 in
    let left = c.loop-left.left in
    let n = c.run-silent.result.0 in
    let entries = c.loop-left.trace.entries in
    let after = machine_view c.run-silent.new.machine in
    let event = c.in-Did.event in
    let run = shown_run code (machine_view c.loop-left.machine) after entries pick left n c.run-silent.result.1
    led.leads (c.run-silent.ensures.run c.requires.led.0 led.machine) event c.in-Did.is in
    let now : c.push_run-in-Did.new.self.entries ≡ entries ++ run_of pick n (Some event) =
    c.push_run-in-Did.ensures.entries ∙ ap (λ (es : List Entry). es ++ run_of pick n (Some event)) c.in_ok-reserve.ensures.same in
    let fewer = inv.left in
    let number : count - left + (n + 1) ≡ count - (left - (n + 1)) = (let e = run.1 in omega (arith, e, fewer)) in
    record {
      left = omega (arith, fewer);
      led = λ lending of.
          let here = inv.led lending of in
          record {
            machine = c.run-silent.ensures.machine lending here.machine;
            leads = subst (λ (es : List Entry). LeadsBy lending code (code_opening code) es after) (sym now)
                (shown_run code (machine_view c.loop-left.machine) after entries pick left n c.run-silent.result.1 here.leads
                (c.run-silent.ensures.run lending here.machine) event c.in-Did.is).0;
          };
      picks = ap picks_of now ∙ (picks_on c.args.trace.now.entries entries pick (count - left) n (Some event) inv.picks
          ∙ ap (λ (k : ℕ). picks_of c.args.trace.now.entries ++ replicate k pick) number);
    }

pub returns-in-NotEnabled-clause-stopped : goal.returns-in-NotEnabled-clause-stopped
returns-in-NotEnabled-clause-stopped c lending of =
    let code = c.args.verified.now.code in
    let pick = c.args.counted.pick in
    let count = c.args.counted.count in
    let inv = c.loop-left.invariant in
    let led = inv.led lending of in
    let left = c.loop-left.left in
    let n = c.run-silent.result.0 in
    let entries = c.loop-left.trace.entries in
    let here = machine_view c.loop-left.machine in
    let run = (c.run-silent.ensures.run lending led.machine) in
    let stops = stopped_run code here (machine_view c.run-silent.new.machine) entries pick left n c.run-silent.result.1 led.leads run c.in-NotEnabled.is in
    let few = stops.0 in
    let fewer = inv.left in
    let now : c.push_run-in-NotEnabled.new.self.entries ≡ entries ++ run_of pick n None =
    c.push_run-in-NotEnabled.ensures.entries ∙ ap (λ (es : List Entry). es ++ run_of pick n None) c.in_ok-reserve.ensures.same in
    let place : length entries + n ≡ c.len.result =
    sym (c.len.ensures ∙ (ap (λ (es : List Entry). length es) now ∙ length_run entries pick n)) in
    subst (StopsAt lending code (picks_of c.args.trace.now.entries ++ replicate count pick)) place
    (stops_here code c.args.trace.now.entries entries pick count (count - left) n here run.between inv.picks led.leads
    run.leads (omega (arith, few, fewer)) stops.1)

pub returns-in-NotEnabled-clause-some : goal.returns-in-NotEnabled-clause-some
returns-in-NotEnabled-clause-some c lending of =
    let code = c.args.verified.now.code in
    let pick = c.args.counted.pick in
    let count = c.args.counted.count in
    let inv = c.loop-left.invariant in
    let led = inv.led lending of in
    let left = c.loop-left.left in
    let n = c.run-silent.result.0 in
    let before = c.args.trace.now.entries in
    let entries = c.loop-left.trace.entries in
    let here = machine_view c.loop-left.machine in
    let after = machine_view c.run-silent.new.machine in
    let run = (c.run-silent.ensures.run lending led.machine) in
    let stops = stopped_run code here after entries pick left n c.run-silent.result.1 led.leads run c.in-NotEnabled.is in
    let on = halted_run code here after entries pick left n c.run-silent.result.1 led.leads run c.in-NotEnabled.is in
    let now : c.push_run-in-NotEnabled.new.self.entries ≡ entries ++ run_of pick n None =
    c.push_run-in-NotEnabled.ensures.entries ∙ ap (λ (es : List Entry). es ++ run_of pick n None) c.in_ok-reserve.ensures.same in
    let few = stops.0 in
    let fewer = inv.left in
    let number : count - left + (n + 0) ≡ count - left + n = omega arith in
    record {
      done = count - left + n;
      few = omega (arith, few, fewer);
      picks = ap picks_of now ∙ (picks_on before entries pick (count - left) n None inv.picks
          ∙ ap (λ (k : ℕ). picks_of before ++ replicate k pick) number);
      leads = subst (λ (es : List Entry). LeadsBy lending code (code_opening code) es after) (sym now) on;
    }

pub push_run-requires-clause-fits : goal.push_run-requires-clause-fits
push_run-requires-clause-fits c =
    let code = c.args.verified.now.code in
    let pick = c.args.counted.pick in
    let count = c.args.counted.count in
    let inv = c.loop-left.invariant in
    let led = inv.led c.requires.led.0 c.requires.led.1 in
    let left = c.loop-left.left in
    let n = c.run-silent.result.0 in
    let entries = c.loop-left.trace.entries in
    let run = silent_run code (machine_view c.loop-left.machine) (machine_view c.run-silent.new.machine) entries pick
    left n c.run-silent.result.1 led.leads (c.run-silent.ensures.run c.requires.led.0 led.machine) c.in-Silent.is in
    let len = length_on c.args.trace.now.entries entries pick (count - left) inv.picks in
    let same = ap (λ (es : List Entry). length es) c.in_ok-reserve.ensures.same in
    let fewer = inv.left in
    let all = run.1 in
    omega (arith, len, same, all, fewer, c.requires.fits)

pub overflow_sub-left : goal.overflow_sub-left
overflow_sub-left c =
    let code = c.args.verified.now.code in
    let pick = c.args.counted.pick in
    let count = c.args.counted.count in
    let inv = c.loop-left.invariant in
    let led = inv.led c.requires.led.0 c.requires.led.1 in
    let left = c.loop-left.left in
    let n = c.run-silent.result.0 in
    let entries = c.loop-left.trace.entries in
    let run = silent_run code (machine_view c.loop-left.machine) (machine_view c.run-silent.new.machine) entries pick
    left n c.run-silent.result.1 led.leads (c.run-silent.ensures.run c.requires.led.0 led.machine) c.in-Silent.is in
    let all = run.1 in
    omega (arith, all)

pub loop-left-smaller-in-Silent : goal.loop-left-smaller-in-Silent
loop-left-smaller-in-Silent c =
    let code = c.args.verified.now.code in
    let pick = c.args.counted.pick in
    let count = c.args.counted.count in
    let inv = c.loop-left.invariant in
    let led = inv.led c.requires.led.0 c.requires.led.1 in
    let left = c.loop-left.left in
    let n = c.run-silent.result.0 in
    let entries = c.loop-left.trace.entries in
    let run = silent_run code (machine_view c.loop-left.machine) (machine_view c.run-silent.new.machine) entries pick
    left n c.run-silent.result.1 led.leads (c.run-silent.ensures.run c.requires.led.0 led.machine) c.in-Silent.is in
    let all = run.1 in
    omega (arith, all, c.loop-left-test.true)

pub overflow_add-left : goal.overflow_add-left
overflow_add-left c =
    let code = c.args.verified.now.code in
    let pick = c.args.counted.pick in
    let count = c.args.counted.count in
    let inv = c.loop-left.invariant in
    let led = inv.led c.requires.led.0 c.requires.led.1 in
    let left = c.loop-left.left in
    let n = c.run-silent.result.0 in
    let entries = c.loop-left.trace.entries in
    let run = shown_run code (machine_view c.loop-left.machine) (machine_view c.run-silent.new.machine) entries pick
    left n c.run-silent.result.1 led.leads (c.run-silent.ensures.run c.requires.led.0 led.machine) c.in-Did.event c.in-Did.is in
    let few = run.1 in
    omega (arith, few, c.loop-left.auto.left-fits)

pub overflow_sub-left-in-Did : goal.overflow_sub-left-in-Did
overflow_sub-left-in-Did c =
    let code = c.args.verified.now.code in
    let pick = c.args.counted.pick in
    let count = c.args.counted.count in
    let inv = c.loop-left.invariant in
    let led = inv.led c.requires.led.0 c.requires.led.1 in
    let left = c.loop-left.left in
    let n = c.run-silent.result.0 in
    let entries = c.loop-left.trace.entries in
    let run = shown_run code (machine_view c.loop-left.machine) (machine_view c.run-silent.new.machine) entries pick
    left n c.run-silent.result.1 led.leads (c.run-silent.ensures.run c.requires.led.0 led.machine) c.in-Did.event c.in-Did.is in
    let few = run.1 in
    omega (arith, few)

pub push_run-requires-in-NotEnabled-clause-fits : goal.push_run-requires-in-NotEnabled-clause-fits
push_run-requires-in-NotEnabled-clause-fits c =
    let code = c.args.verified.now.code in
    let pick = c.args.counted.pick in
    let count = c.args.counted.count in
    let inv = c.loop-left.invariant in
    let led = inv.led c.requires.led.0 c.requires.led.1 in
    let left = c.loop-left.left in
    let n = c.run-silent.result.0 in
    let entries = c.loop-left.trace.entries in
    let run = stopped_run code (machine_view c.loop-left.machine) (machine_view c.run-silent.new.machine) entries pick
    left n c.run-silent.result.1 led.leads (c.run-silent.ensures.run c.requires.led.0 led.machine) c.in-NotEnabled.is in
    let len = length_on c.args.trace.now.entries entries pick (count - left) inv.picks in
    let same = ap (λ (es : List Entry). length es) c.in_ok-reserve.ensures.same in
    let fewer = inv.left in
    let few = run.0 in
    omega (arith, len, same, few, fewer, c.requires.fits)
