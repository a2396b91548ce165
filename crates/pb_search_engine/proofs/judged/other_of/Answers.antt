use Rattle.pb_search_engine.specs.SaysExpected.{fault, prints}
use Rattle.pb_search_engine.proofs.judged.other_of.Goals as goal

pub returns-then-has_fault : goal.returns-then-has_fault
returns-then-has_fault c = fault (λ none. let f = c.has_fault.ensures.1 none in cc (f, c.if-has_fault.true))

pub returns-else-has_fault : goal.returns-else-has_fault
returns-else-has_fault c = prints (c.has_fault.ensures.0 c.if-has_fault.false)
