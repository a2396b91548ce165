use Rattle.std.proofs.Common.{◌∙◌, sym}
use Rattle.std.proofs.lemmas.Result.{IfOk-weaker}
use Rattle.pb_mends.specs.Mends.{accepted, later}
use Rattle.pb_mends.proofs.further.gets_further.Goals as goal

pub returns-in-Ok : goal.returns-in-Ok
returns-in-Ok c = λ _. accepted _ _ c.in-Ok.ensures.compiled

pub returns-in-Some : goal.returns-in-Some
returns-in-Some c =
    IfOk-weaker c.is_further.result _ _
    (λ is has gets.
    later c.in-Err.other c.in-Err.ensures.refused (_, sym c.text_cause.ensures ∙ c.in-Some.is) (has gets))
    c.is_further.ensures
