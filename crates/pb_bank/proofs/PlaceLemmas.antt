-- The first that has a name.
use Rattle.std.proofs.Common.{Vec, Global, ◌≡◌, ℕ, suc, ◌+◌, ◌<◌, Bool, cond, List, Option, Some, length, map, drop, get_or}
use Rattle.std.proofs.Common.{refl, sym, ap, ◌∙◌, arith}
use Rattle.std.proofs.Math.Seq.{drop-cons}
use Rattle.std.specs.Str.{bytes_eq}
use Rattle.pb_bank.specs.Desks.{place_from, place_of}

pub seen : List (Vec ℕ Global) → List (List ℕ)
seen names = map (λ (n : Vec ℕ Global). n.items) names

pub place_next : (names : List (Vec ℕ Global)) (word : List ℕ) (i : ℕ) (name : Vec ℕ Global) (b : Bool) → i < length names
    → name ≡ get_or names i name → bytes_eq name.items word ≡ b
    → place_from i (map (λ n. n.items) (drop i names)) word
    ≡ cond b (Some i) (place_from (i + 1) (map (λ n. n.items) (drop (i + 1) names)) word)
place_next names word i name b lt is same =
    let n : suc i ≡ i + 1 = omega arith in
    let found : List (Vec ℕ Global) → Option ℕ = λ ns. place_from i (map (λ (m : Vec ℕ Global). m.items) ns) word in
    let later : ℕ → Option ℕ = λ k. place_from k (map (λ (m : Vec ℕ Global). m.items) (drop k names)) word in
    ap found (drop-cons names i name lt)
    ∙ (ap (λ (m : Vec ℕ Global). cond (bytes_eq m.items word) (Some i) (later (suc i))) (sym is)
    ∙ (ap (λ (t : Bool). cond t (Some i) (later (suc i))) same ∙ ap (λ k. cond b (Some i) (later k)) n))

pub place_starts : (names : List (List ℕ)) (word : List ℕ) → place_of names word ≡ place_from 0 names word
unfolding place_of
place_starts names word = refl
