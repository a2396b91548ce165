use Rattle.std.proofs.Common.{◌≡◌, map}
use Rattle.pb_server.specs.Documents.{document_view, place_of}
use Rattle.pb_server.proofs.DocumentLemmas.{place_from}
use Rattle.pb_server.proofs.documents.place_of.Given as goal

abbrev pub invariant-loop-i : goal.invariant-loop-i
invariant-loop-i l = place_from l.uri l.documents l.i ≡ place_of l.uri (map document_view l.documents)
