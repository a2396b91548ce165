use Rattle.std.proofs.Common.{refl}
use Rattle.pb_lexer.specs.Tokens.{tokens as tokens_view}
use Rattle.pb_mends.specs.Mends.{claim}
use Rattle.pb_mends.proofs.further.has_later_claim.Goals as goal

pub returns-in-Ok-Ok : goal.returns-in-Ok-Ok
returns-in-Ok-Ok c = λ is.
    claim c.args.over.now c.args.other.now refl refl
    (tokens_view c.deref.result.now) (tokens_view c.deref-in-Ok-Ok.result.now)
    (rw c.deref.ensures.value c.in-Ok-Ok.ensures.found)
    (rw c.deref-in-Ok-Ok.ensures.value c.in-Ok-Ok.ensures'.found)
    (c.is_later_claim.ensures is)
