use Rattle.std.proofs.Common.{arith}
use Rattle.pb_search_engine.proofs.RequirementLemmas.{reads_within}
use Rattle.pb_search_engine.proofs.asked.read_after.Goals as goal

pub overflow_sub-before : goal.overflow_sub-before
overflow_sub-before c = reads_within c.args.text.now c.args.requirements.items c.args.rest.now c.requires.before.reads

pub returns-in-Err-NotPrint-clause-refused : goal.returns-in-Err-NotPrint-clause-refused
returns-in-Err-NotPrint-clause-refused c =
    let within = reads_within c.args.text.now c.args.requirements.items c.args.rest.now c.requires.before.reads in (
      c.args.requirements.items,
      c.args.rest.now,
      c.requires.before,
      _,
      rw c.in-Err-NotPrint.field-0-is at c.in-Err-NotPrint.ensures.refused,
      omega (arith, within, c.in-Err-NotPrint.at-is),
    )
