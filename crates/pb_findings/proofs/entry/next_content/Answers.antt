use Rattle.std.proofs.Common.{inl}
use Rattle.pb_findings.proofs.FileLemmas.{none_in_nothing}
use Rattle.pb_findings.proofs.entry.next_content.Goals as goal

pub returns-in-Ok-None : goal.returns-in-Ok-None
returns-in-Ok-None c = inl (λ content rest frame.
    none_in_nothing c.args.input.now content rest (rw c.in-Ok-None.field-0-is at c.in-Ok-None.ensures.content) frame)
