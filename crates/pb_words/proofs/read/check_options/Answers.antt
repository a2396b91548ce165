use Rattle.std.proofs.Common.{◌≡◌, false, true}
use Rattle.clap.specs.Words.{found_of, rows_of}
use Rattle.pb_words.proofs.ReadLemmas.{IfNone-of, no_check_options}
use Rattle.pb_words.proofs.read.check_options.Goals as goal

pub returns-in_err-size-clause-none : goal.returns-in_err-size-clause-none
returns-in_err-size-clause-none c =
    IfNone-of c.from_residual.result
    (no_check_options (rows_of (found_of c.args.matches.now)) c.in_err-size.ensures.none
    (λ absent. let w : false ≡ true = c.if-is_absent.ensures.1 absent in cc))
