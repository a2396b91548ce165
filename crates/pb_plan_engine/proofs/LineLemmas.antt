-- What is said for numbered things, one more at a time.
use Rattle.std.proofs.Common.{◌≡◌, ◌∙◌, ℕ, ◌+◌, ◌<◌, List, ◌++◌, length, get_or, map, ap, sym, add-one}
use Rattle.std.proofs.lemmas.List.{append_assoc, get_or-map}
use Rattle.pb_plan_engine.specs.Plans.{all_below}
use Rattle.pb_plan_engine.specs.Sayings.{Saying}

-- what is said so far, and that of the next number
pub each_next : (f : ℕ → List Saying) (n : ℕ) (old so_far new said : List Saying) → so_far ≡ old ++ all_below f n
    → new ≡ so_far ++ said → said ≡ f n → new ≡ old ++ all_below f (n + 1)
each_next f n old so_far new said before now is =
    rw add-one (now ∙ ap (λ (t : List Saying). t ++ said) before ∙ append_assoc old (all_below f n) said
    ∙ ap (λ (t : List Saying). old ++ (all_below f n ++ t)) is)

-- what is said of all numbers
pub each_last : (f : ℕ → List Saying) (n m : ℕ) (old new : List Saying) → n ≡ m → new ≡ old ++ all_below f n
    → new ≡ old ++ all_below f m
each_last f n m old new same is = is ∙ ap (λ (k : ℕ). old ++ all_below f k) same

-- what is seen of an element that was read, by its place
pub seen_at : {A B : Type 0} (f : A → B) (xs : List A) (i : ℕ) (x : A) (d : B) → i < length xs → x ≡ get_or xs i x
    → get_or (map f xs) i d ≡ f x
seen_at f xs i x d within at = get_or-map f xs i x d within ∙ ap f (sym at)
