-- The first document with a name.
use Rattle.std.proofs.Common.{◌≡◌, ℕ, suc, ◌+◌, ◌<◌, true, false, cond, List, ◌∷◌, ◌++◌, length, take, drop, map, get_or, Option, Some, None, sym, ap, ◌∙◌, arith}
use Rattle.std.specs.List.{position_from, remove}
use Rattle.std.proofs.Math.Seq.{drop-cons}
use Rattle.std.proofs.lemmas.List.{drop-map, drop_all, map-append, take-map}
use Rattle.pb_server.specs.Documents.{Document, document_view, is_named}
use Rattle.pb_server.specs.declared.documents.Document.{Document as Given}

-- the documents without the one at a place
pub removed_view : (docs : List Given) (i : ℕ) → map document_view (remove docs i) ≡ remove (map document_view docs) i
removed_view docs i =
    map-append document_view (take i docs) (drop (suc i) docs)
    ∙ (ap (λ (ds : List Document). ds ++ map document_view (drop (suc i) docs)) (sym (take-map document_view i docs))
    ∙ ap (λ (ds : List Document). take i (map document_view docs) ++ ds) (sym (drop-map document_view (suc i) docs)))

module _ (uri : List ℕ) where
  -- the place from a document on
  abbrev pub place_from : List Given → ℕ → Option ℕ
  place_from docs i = position_from (is_named uri) i (map document_view (drop i docs))

  step : (docs : List Given) (i : ℕ) (d : Given) → i < length docs
      → place_from docs i ≡ cond (is_named uri (document_view (get_or docs i d))) (Some i) (place_from docs (i + 1))
  step docs i d lt =
      let next : suc i ≡ i + 1 = omega arith in
      let here : drop i docs ≡ get_or docs i d ∷ drop (i + 1) docs = drop-cons docs i d lt ∙ ap (λ k. get_or docs i d ∷ drop k docs) next in
      ap (λ (ds : List Given). position_from (is_named uri) i (map document_view ds)) here

  pub place_found : (docs : List Given) (i : ℕ) (d : Given) → i < length docs → is_named uri (document_view (get_or docs i d)) ≡ true
      → place_from docs i ≡ Some i
  place_found docs i d lt named = step docs i d lt ∙ ap (λ t. cond t (Some i) (place_from docs (i + 1))) named

  pub place_later : (docs : List Given) (i : ℕ) (d : Given) → i < length docs → is_named uri (document_view (get_or docs i d)) ≡ false
      → place_from docs (i + 1) ≡ place_from docs i
  place_later docs i d lt other = sym (step docs i d lt ∙ ap (λ t. cond t (Some i) (place_from docs (i + 1))) other)

  pub no_place : (docs : List Given) (i : ℕ) → length docs ≡ i → place_from docs i ≡ None
  no_place docs i ends = ap (λ (ds : List Given). position_from (is_named uri) i (map document_view ds)) (drop_all i docs (omega (arith, ends)))
