use Rattle.std.proofs.Common.{◌≡◌, ◌+◌, ◌∷◌, ◌++◌, [], ℕ, List, map, ap, sym, ◌∙◌, add-one, refl}
use Rattle.std.specs.Fmt.{decimal}
use Rattle.std.proofs.lemmas.List.{map_push}
use Rattle.pb_code.specs.Names.{Word}
use Rattle.pb_object.specs.Ranges.{plain_names}
use Rattle.pb_object.proofs.line_reader.plain_names.Goals as goal

none : plain_names 0 ≡ []
unfolding plain_names
none = refl

more : (n : ℕ) → plain_names (n + 1) ≡ plain_names n ++ (118 ∷ decimal n) ∷ []
unfolding plain_names
more n = rw add-one refl

pub loop-number-init : goal.loop-number-init
loop-number-init c = rw c.new-names.ensures.items (sym none)

pub loop-number-preserved : goal.loop-number-preserved
loop-number-preserved c =
    let pushed : map (λ name. name.items) c.push.new.self.items ≡ map (λ name. name.items) c.loop-number.names.items ++ c.in_ok-plain_name.field-0.items ∷ [] =
    rw c.in_ok-push.ensures.items (map_push _ c.loop-number.names.items c.in_ok-plain_name.field-0) in
    pushed
    ∙ ap (λ (names : List Word). names ++ c.in_ok-plain_name.field-0.items ∷ []) c.loop-number.invariant
    ∙ ap (λ (name : Word). plain_names c.loop-number.number ++ name ∷ []) c.in_ok-plain_name.ensures
    ∙ sym (more c.loop-number.number)
