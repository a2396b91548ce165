use Rattle.std.proofs.Common.{◌≡◌, true, false, get_or, refl, sym, ◌∙◌, arith}
use Rattle.pb_server.specs.Documents.{document_view, is_named}
use Rattle.pb_server.proofs.DocumentLemmas.{no_place, place_found, place_later}
use Rattle.pb_server.proofs.documents.place_of.Goals as goal

pub loop-i-init : goal.loop-i-init
loop-i-init c = refl

pub returns-then-is_named-clause-place : goal.returns-then-is_named-clause-place
returns-then-is_named-clause-place c =
    let document = c.index-documents-i.result in
    let named : is_named c.args.uri.now (document_view (get_or c.args.documents.now c.loop-i.i document)) ≡ true =
    cc (c.index-documents-i.is, c.is_named.ensures, c.if-is_named.true) in
    sym (place_found c.args.uri.now c.args.documents.now c.loop-i.i document (omega arith) named) ∙ c.loop-i.invariant

pub loop-i-preserved : goal.loop-i-preserved
loop-i-preserved c =
    let document = c.index-documents-i.result in
    let other : is_named c.args.uri.now (document_view (get_or c.args.documents.now c.loop-i.i document)) ≡ false =
    cc (c.index-documents-i.is, c.is_named.ensures, c.if-is_named.false) in
    place_later c.args.uri.now c.args.documents.now c.loop-i.i document (omega arith) other ∙ c.loop-i.invariant

pub returns-clause-place : goal.returns-clause-place
returns-clause-place c = sym (no_place c.args.uri.now c.args.documents.now c.loop-i.i (omega arith)) ∙ c.loop-i.invariant
