use Rattle.std.proofs.Common.{◌≡◌, ◌++◌, ◌∷◌, []}
use Rattle.std.specs.Prelude.{pos, slice_index_or}
use Rattle.pb_search_engine.specs.Parts.{collected}
use Rattle.pb_search_engine.specs.declared.part.Part.TheVariants.{Integer}
use Rattle.pb_search_engine.proofs.parts.put_integers.Given as goal

abbrev pub invariant-loop-x : goal.invariant-loop-x
invariant-loop-x l =
    l.parts.items ≡ l.initial.parts.items ++ collected (λ x. Integer l.process x (slice_index_or l.values x (pos 0)) ∷ []) l.x
