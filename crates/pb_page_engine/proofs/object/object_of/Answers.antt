use Rattle.pb_accept.proofs.EmissionLemmas.{has_second_text}
use Rattle.pb_code.specs.View.{labels_view}
use Rattle.pb_page_engine.proofs.object.object_of.Goals as goal
use Rattle.std.proofs.Common.{refl}

pub write_object2-requires : goal.write_object2-requires
write_object2-requires c =
    has_second_text c.args.verified.now _ (labels_view c.args.labels.now) _ c.code-code.ensures.code refl c.code-code.ensures.verified c.requires
