use Rattle.pb_accept.proofs.accept.compile_text.Goals as goal

pub returns-in-Err-clause-refused : goal.returns-in-Err-clause-refused
returns-in-Err-clause-refused c = c.refusal_of.ensures c.args.text.now c.in-Err.ensures.refused
