use Rattle.pb_accept.specs.Refusals.{SaysOfRefusedText}
use Rattle.pb_command_io.proofs.InputLemmas.{told_reply}
use Rattle.pb_accept.proofs.accept.refuse.Goals as goal

pub returns-clause-text : goal.returns-clause-text
returns-clause-text g c text short is =
    told_reply SaysOfRefusedText text c.refusal_reply.result _ _ c.tell.result short (c.refusal_reply.ensures text is) c.tell.ensures.said
    c.tell.ensures.memory
