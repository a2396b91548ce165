-- What is made of the first elements of a list, and of one more.
use Rattle.std.proofs.Common.{◌≡◌, ◌+◌, ◌<◌, ◌++◌, ℕ, List, [], ◌∷◌, length, take, drop, get_or, sym, ap, ◌∙◌}
use Rattle.std.specs.List.{flat_map}
use Rattle.std.proofs.lemmas.List.{flat_map_more, take_more, take-append-drop}
use Rattle.std.proofs.lemmas.List.Concat.{flat_map-append}

module _ {X A : Type 0} (f : X → List A) (xs : List X) (i : ℕ) (x : X) (within : i < length xs) (at : get_or xs i x ≡ x) where
  pub one_further : flat_map f (take i xs) ++ f x ≡ flat_map f (take (i + 1) xs)
  one_further =
      flat_map_more f [] (take i xs) x
      ∙ ap (flat_map f) (sym (take_more xs i x within ∙ ap (λ (y : X). take i xs ++ y ∷ []) at))

  pub with_the_rest : (flat_map f (take i xs) ++ f x) ++ flat_map f (drop (i + 1) xs) ≡ flat_map f xs
  with_the_rest =
      ap (λ (l : List A). l ++ flat_map f (drop (i + 1) xs)) one_further
      ∙ (sym (flat_map-append f (take (i + 1) xs) (drop (i + 1) xs)) ∙ ap (flat_map f) (take-append-drop (i + 1) xs))
