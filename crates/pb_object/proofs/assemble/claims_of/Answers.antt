use Rattle.std.proofs.lemmas.Grind.{common_steps}
use Rattle.std.proofs.Common.{◌++◌, ◌∷◌, ◌∙◌, [], ℕ, List, ap, map, sym, take, arith}
use Rattle.std.proofs.lemmas.List.{map_push}
use Rattle.pb_object.proofs.WordTurns.{up_to_here}
use Rattle.pb_object.proofs.assemble.claims_of.Goals as goal

pub loop-row-preserved : goal.loop-row-preserved
loop-row-preserved c =
    let row = rw c.row-item.is at c.as_slice.ensures.value in
    rw c.in_ok-push.ensures.items (map_push (λ row. row.now) c.loop-row.slices.items c.as_slice.result)
    ∙ ap (λ (l : List (List ℕ)). l ++ c.as_slice.result.now ∷ []) c.loop-row.invariant
    ∙ ap (λ (w : List ℕ). map (λ row. row.items) (take c.loop-row.row-index c.args.rows.now) ++ w ∷ []) row
    ∙ sym (up_to_here (λ row. row.items) c.args.rows.now c.loop-row.row-index _ c.loop-row-test.true)

pub returns-in_err-push : goal.returns-in_err-push
returns-in_err-push c = grind (arith, common_steps) steps 400000

pub new-requires-clause-some : goal.new-requires-clause-some
new-requires-clause-some c = grind (arith, common_steps) steps 400000

pub new-requires-clause-few_processes : goal.new-requires-clause-few_processes
new-requires-clause-few_processes c = grind (arith, common_steps) steps 400000

pub new-requires-clause-few_resources : goal.new-requires-clause-few_resources
new-requires-clause-few_resources c = grind (arith, common_steps) steps 400000

pub new-requires-clause-one_length : goal.new-requires-clause-one_length
new-requires-clause-one_length c = grind (arith, common_steps)

pub returns : goal.returns
returns c = grind (arith, common_steps)
