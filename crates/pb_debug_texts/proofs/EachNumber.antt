-- What is said of each number below another, as a loop says it.
use Rattle.std.proofs.Common.{Vec, Global, ◌≡◌, ℕ, suc, ◌+◌, ◌<◌, ◌++◌, List, [], length, map, get_or, sym, ap, ◌∙◌}
use Rattle.std.proofs.Common.{append_assoc, arith}
use Rattle.std.proofs.lemmas.List.{get_or-map}
use Rattle.pb_base.specs.Lines.{name_of, each_below}

-- one number more
pub each_next : (said : ℕ → List ℕ) (n : ℕ) (old mid new : List ℕ)
    → mid ≡ old ++ each_below said n → new ≡ mid ++ said n → new ≡ old ++ each_below said (n + 1)
each_next said n old mid new before more =
    let next : suc n ≡ n + 1 = omega arith in
    more
    ∙ (ap (λ (t : List ℕ). t ++ said n) before
    ∙ (append_assoc old (each_below said n) (said n)
    ∙ ap (λ k. old ++ each_below said k) next))

-- a name as it is held
pub name_there : (names : List (Vec ℕ Global)) (i : ℕ) (name : Vec ℕ Global) → i < length names → name ≡ get_or names i name
    → name_of (map (λ n. n.items) names) i ≡ name.items
name_there names i name lt is =
    get_or-map (λ (n : Vec ℕ Global). n.items) names i name [] lt ∙ ap (λ (n : Vec ℕ Global). n.items) (sym is)
