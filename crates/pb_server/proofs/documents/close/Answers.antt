use Rattle.std.proofs.Common.{List, map, ap, ◌∙◌}
use Rattle.pb_server.specs.Documents.{document_view, place_of, without_at}
use Rattle.pb_server.specs.declared.documents.Document.{Document as Given}
use Rattle.pb_server.proofs.DocumentLemmas.{removed_view}
use Rattle.pb_server.proofs.documents.close.Goals as goal

pub returns-in-Some : goal.returns-in-Some
returns-in-Some c =
    let docs = map document_view c.args.documents.now.items in
    ap (map document_view) c.remove.ensures.items
    ∙ (removed_view c.args.documents.now.items c.in-Some.i
    ∙ ap (without_at docs) (c.in-Some.ensures.place
    ∙ ap (λ (ds : List Given). place_of c.args.uri.now (map document_view ds)) c.as_slice.ensures.value))
