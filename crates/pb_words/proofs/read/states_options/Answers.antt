use Rattle.std.proofs.Common.{arith}
use Rattle.pb_words.proofs.ReadLemmas.{IfNone-of}
use Rattle.pb_words.proofs.read.states_options.Goals as goal

pub returns-in_err-rows-clause-none : goal.returns-in_err-rows-clause-none
returns-in_err-rows-clause-none c =
    IfNone-of c.from_residual.result (λ o h. c.in_err-rows.ensures.none o.rows (h.0, o.some_row, o.rows_fit))

pub returns-in_err-from-clause-none : goal.returns-in_err-from-clause-none
returns-in_err-from-clause-none c =
    IfNone-of c.from_residual-in_err-from.result (λ o h. c.in_err-from.ensures.none o.from (h.1, omega arith, o.from_fits))

pub returns-in_err-lend-clause-none : goal.returns-in_err-lend-clause-none
returns-in_err-lend-clause-none c =
    IfNone-of c.from_residual-in_err-lend.result (λ o h. c.in_err-lend.ensures.none o.lend h.2)
