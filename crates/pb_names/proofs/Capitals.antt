-- The capital of numbered resources, one after another.
use Rattle.std.proofs.Common.{◌≡◌, ℕ, ◌+◌, ◌<◌, List, [], ◌∷◌, ◌++◌, length, map, take, get_or, ap, sym, ◌∙◌}
use Rattle.std.proofs.lemmas.List.{length-map, map_more, map-append}
use Rattle.pb_names.specs.View.{resource_view}
use Rattle.pb_names.specs.declared.resolved.Resource.{Resource}

abbrev pub capitals : {A : Type 0} → List (Resource A) → List ℕ
capitals rs = map (λ r. r.capital) (map resource_view rs)

pub capitals_length : {A : Type 0} (rs : List (Resource A)) → length (capitals rs) ≡ length rs
capitals_length rs = length-map (map resource_view rs) (λ r. r.capital) ∙ length-map rs resource_view

capital_more : {A : Type 0} (rs : List (Resource A)) (i : ℕ) (r : Resource A) → i < length rs → r ≡ get_or rs i r
    → capitals (take (i + 1) rs) ≡ capitals (take i rs) ++ r.capital ∷ []
capital_more rs i r within here =
    ap (map (λ x. x.capital)) (map_more resource_view rs i r within)
    ∙ map-append (λ x. x.capital) (map resource_view (take i rs)) (resource_view (get_or rs i r) ∷ [])
    ∙ ap (λ x. capitals (take i rs) ++ x.capital ∷ []) (sym here)

pub capital_pushed : {A : Type 0} (amounts amounts' : List ℕ) (rs : List (Resource A)) (i : ℕ) (r : Resource A)
    → amounts ≡ capitals (take i rs) → i < length rs → r ≡ get_or rs i r → amounts' ≡ amounts ++ r.capital ∷ []
    → amounts' ≡ capitals (take (i + 1) rs)
capital_pushed amounts amounts' rs i r before within here pushed =
    pushed ∙ ap (λ xs. xs ++ r.capital ∷ []) before ∙ sym (capital_more rs i r within here)
