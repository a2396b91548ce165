use Rattle.std.proofs.Common.{◌≡◌, true, rules}
use Rattle.clap.specs.Words.{found_of, rows_of}
use Rattle.pb_words.proofs.ReadLemmas.{IfNone-of, no_others}
use Rattle.pb_words.proofs.read.outcomes_options.Goals as goal

pub returns-in_err-states-clause-none : goal.returns-in_err-states-clause-none
returns-in_err-states-clause-none c =
    IfNone-of c.from_residual.result (λ o h. c.in_err-states.ensures.none o.states (h.0, o.some_state, o.states_fit))

pub returns-in_err-lend-clause-none : goal.returns-in_err-lend-clause-none
returns-in_err-lend-clause-none c =
    IfNone-of c.from_residual-in_err-lend.result (λ o h. c.in_err-lend.ensures.none o.lend h.1)

pub returns-clause-some : goal.returns-clause-some
returns-clause-some c = search rules fits 100

pub returns-then-not-mean_something-clause-none : goal.returns-then-not-mean_something-clause-none
returns-then-not-mean_something-clause-none c =
    no_others (rows_of (found_of c.args.matches.now)) _
    (λ says. let set : true ≡ c.mean_something.result = cc (c.mean_something.ensures.1 says) in absurd (cc (set, c.if-not-mean_something.true)))
    c.flag.ensures c.flag-2.ensures c.flag-3.ensures c.flag-4.ensures c.flag-5.ensures c.flag-6.ensures c.flag-7.ensures
    c.in_ok-run.ensures.some c.in_ok-deadlock.ensures.some
