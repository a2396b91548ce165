use Rattle.pb_findings.specs.Findings.{no_memory, refused}
use Rattle.pb_findings.proofs.examine.refused_as.Goals as goal

pub returns-in_ok-whole_refusal-in-Memory : goal.returns-in_ok-whole_refusal-in-Memory
returns-in_ok-whole_refusal-in-Memory c = λ warn. no_memory _ c.in_ok-whole_refusal-in-Memory.ensures

pub returns-in_ok-refusal_of-in_default : goal.returns-in_ok-refusal_of-in_default
returns-in_ok-refusal_of-in_default c = λ warn. refused _ c.in_ok-refusal_of-in_default.ensures
