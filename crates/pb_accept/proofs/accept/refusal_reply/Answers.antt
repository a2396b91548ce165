use Rattle.std.proofs.Common.{subst}
use Rattle.pb_accept.specs.Refusals.{IsRefusal}
use Rattle.pb_accept.proofs.AcceptLemmas.{reply_refuses}
use Rattle.pb_accept.proofs.accept.refusal_reply.Goals as goal

pub returns-in-Line : goal.returns-in-Line
returns-in-Line c text is =
    reply_refuses c.refused.result text c.in-Line.line.items c.refused.ensures (subst (IsRefusal text) c.in-Line.is is)
