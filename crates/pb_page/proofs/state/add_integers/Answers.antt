use Rattle.std.proofs.Common.{rules, ◌≡◌, ◌++◌, ◌∷◌, [], ℕ, List, map, take, get_or, w64, to_z, of_z, sym, ap, ◌∙◌, append_assoc}
use Rattle.std.specs.Prelude.{pos, slice_index_or}
use Rattle.std.proofs.lemmas.List.{map_more}
use Rattle.pb_json.specs.Values.{integer_text}
use Rattle.pb_page.specs.Texts.{texts}
use Rattle.pb_page.proofs.state.add_integers.Goals as goal

pub loop-x-preserved : goal.loop-x-preserved
loop-x-preserved c =
    let vals = c.vars-values.result.now in
    let x = c.loop-x.x in
    let old = texts c.args.entries.now.items in
    let test = c.loop-x-test.true in
    let value : to_z w64 (of_z w64 (slice_index_or vals x (pos 0))) ≡ slice_index_or vals x (pos 0) = search rules in
    c.in_ok-add.ensures
    ∙ (ap (λ (t : List ℕ). texts c.loop-x.entries.items ++ t ∷ []) (c.in_ok-text.ensures ∙ ap integer_text value)
    ∙ (ap (λ (ts : List (List ℕ)). ts ++ integer_text (get_or vals x (pos 0)) ∷ []) c.loop-x.invariant
    ∙ (append_assoc old (map integer_text (take x vals)) (integer_text (get_or vals x (pos 0)) ∷ [])
    ∙ ap (λ (ts : List (List ℕ)). old ++ ts) (sym (map_more integer_text vals x (pos 0) test)))))
