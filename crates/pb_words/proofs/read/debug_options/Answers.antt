use Rattle.pb_words.proofs.ReadLemmas.{IfNone-of}
use Rattle.pb_words.proofs.read.debug_options.Goals as goal

pub returns-in_err-lend-clause-none : goal.returns-in_err-lend-clause-none
returns-in_err-lend-clause-none c = IfNone-of c.from_residual.result (λ o h. c.in_err-lend.ensures.none o.lend h.1)
