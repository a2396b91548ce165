use Rattle.std.proofs.Common.{arith, rules}
use Rattle.pb_words.proofs.ReadLemmas.{IfNone-of}
use Rattle.pb_words.proofs.read.run_options.Goals as goal

pub returns-in_err-workers-clause-none : goal.returns-in_err-workers-clause-none
returns-in_err-workers-clause-none c =
    IfNone-of c.from_residual.result (λ o h. c.in_err-workers.ensures.none o.workers (h.0, o.some_worker, o.workers_fit))

pub returns-in_err-quantum-clause-none : goal.returns-in_err-quantum-clause-none
returns-in_err-quantum-clause-none c =
    IfNone-of c.from_residual-in_err-quantum.result (λ o h. c.in_err-quantum.ensures.none o.quantum (h.1, o.some_quantum, o.quantum_fits))

pub returns-in_err-steps-clause-none : goal.returns-in_err-steps-clause-none
returns-in_err-steps-clause-none c =
    IfNone-of c.from_residual-in_err-steps.result (λ o h. c.in_err-steps.ensures.none o.steps (h.2, omega arith, o.steps_fit))

pub returns-clause-some : goal.returns-clause-some
returns-clause-some c = search rules fits 100
