use Rattle.std.proofs.Common.{◌≡◌, false, true, rules}
use Rattle.clap.specs.Words.{found_of, rows_of}
use Rattle.pb_words.proofs.ReadLemmas.{IfNone-of, no_record_seed}
use Rattle.pb_words.proofs.read.record_options.Goals as goal

pub returns-in_err-run-clause-none : goal.returns-in_err-run-clause-none
returns-in_err-run-clause-none c = IfNone-of c.from_residual.result (λ o says. c.in_err-run.ensures.none o.run says.0)

pub returns-in_err-seed-clause-none : goal.returns-in_err-seed-clause-none
returns-in_err-seed-clause-none c =
    IfNone-of c.from_residual-in_err-seed.result
    (no_record_seed (rows_of (found_of c.args.matches.now)) c.in_err-seed.ensures.none
    (λ absent. let w : false ≡ true = c.if-is_absent.ensures.1 absent in cc))

pub returns-clause-some : goal.returns-clause-some
returns-clause-some c = search rules fits 100
