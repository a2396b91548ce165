use Rattle.std.proofs.Common.{rules, w64, pos, ◌∷◌, [], refl}
use Rattle.std.specs.Prelude.{slice_index_or}
use Rattle.std.proofs.lemmas.Int.{to_z-of_z}
use Rattle.pb_search_engine.specs.declared.part.Part.TheVariants.{Integer}
use Rattle.pb_search_engine.proofs.PartLemmas.{collected_more}
use Rattle.pb_search_engine.proofs.parts.put_integers.Goals as goal

pub loop-x-preserved : goal.loop-x-preserved
loop-x-preserved c =
    let value = slice_index_or c.args.values.now c.loop-x.x (pos 0) in
    collected_more (λ k. Integer c.args.process k (slice_index_or c.args.values.now k (pos 0)) ∷ []) c.loop-x.x
    (Integer c.args.process c.loop-x.x value ∷ []) c.args.parts.now.items c.loop-x.parts.items _ refl c.loop-x.invariant
    (rw (to_z-of_z w64 value (search rules)) at c.in_ok-push.ensures.items)
