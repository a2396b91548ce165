use Rattle.std.proofs.Common.{of_z, to_z, w64}
use Rattle.std.proofs.lemmas.Int.{to_z-of_z}
use Rattle.pb_search_engine.proofs.PrintLemmas.{signed_fits}
use Rattle.pb_search_engine.proofs.RequirementLemmas.{amount_none, amount_told}
use Rattle.pb_search_engine.proofs.requirements.amount_of.Goals as goal

pub returns-in_err-value : goal.returns-in_err-value
returns-in_err-value c = rw c.from_residual.ensures (amount_none c.args.word.now c.in_err-value.ensures)

pub returns : goal.returns
returns c =
    let value = c.in_ok-value.value in
    let fits = c.in_ok-value.ensures.0 in
    amount_told c.args.word.now value (to_z w64 (of_z w64 value)) c.as_amount.result fits c.in_ok-value.ensures.1
    (to_z-of_z w64 value (signed_fits value fits)) c.as_amount.ensures.some c.as_amount.ensures.none
