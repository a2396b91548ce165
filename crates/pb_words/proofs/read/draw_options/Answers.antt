use Rattle.pb_words.proofs.ReadLemmas.{IfNone-of}
use Rattle.pb_words.proofs.read.draw_options.Goals as goal

pub returns-in_err-lend-clause-none : goal.returns-in_err-lend-clause-none
returns-in_err-lend-clause-none c = IfNone-of c.from_residual.result (λ o h. c.in_err-lend.ensures.none o.lend h.0)

pub returns-in_err-width-clause-none : goal.returns-in_err-width-clause-none
returns-in_err-width-clause-none c =
    IfNone-of c.from_residual-in_err-width.result (λ o h. c.in_err-width.ensures.none o.width h.1)

pub returns-in_err-scale-clause-none : goal.returns-in_err-scale-clause-none
returns-in_err-scale-clause-none c =
    IfNone-of c.from_residual-in_err-scale.result (λ o h. c.in_err-scale.ensures.none o.scale h.2)
