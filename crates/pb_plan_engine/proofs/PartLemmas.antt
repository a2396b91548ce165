-- The parts of an input, one after another.
use Rattle.std.proofs.Common.{◌≡◌, ◌+◌, ℕ, List, [], ◌∷◌, ◌++◌, drop, map, sym, subst}
use Rattle.std.proofs.lemmas.List.{append_assoc, map-append}
use Rattle.std.specs.Borrow.{Bor}
use Rattle.pb_accept.specs.Checks.{IsLeft}
use Rattle.pb_command_io.specs.Parts.{AreParts, IsCutAt, IsMarkAt, last, more}

-- nothing is cut off yet
pub none_cut : (bytes : List ℕ) (texts : List (Bor (List ℕ))) → texts ≡ [] → IsLeft bytes (map (λ text. text.now) texts) bytes
none_cut bytes texts none parts are =
    subst (λ (ts : List (Bor (List ℕ))). AreParts bytes (map (λ text. text.now) ts ++ parts)) (sym none) are

-- one more part
pub one_more_cut : (bytes rest more_rest : List ℕ) (texts next : List (Bor (List ℕ))) (part : Bor (List ℕ)) → next ≡ texts ++ part ∷ []
    → IsLeft bytes (map (λ text. text.now) texts) rest → IsCutAt rest part.now more_rest
    → IsLeft bytes (map (λ text. text.now) next) more_rest
one_more_cut bytes rest more_rest texts next part pushed left (at, mark, first, part_is, rest_is) parts are =
    let behind : AreParts (drop (at + 3) rest) parts = subst (λ (r : List ℕ). AreParts r parts) rest_is are in
    let all : AreParts rest (part.now ∷ parts) = subst (λ (p : List ℕ). AreParts rest (p ∷ parts)) (sym part_is) (more rest at parts mark first behind) in
    subst (λ (ts : List (Bor (List ℕ))). AreParts bytes (map (λ text. text.now) ts ++ parts)) (sym pushed)
    (subst (λ (ps : List (List ℕ)). AreParts bytes (ps ++ parts)) (sym (map-append (λ text. text.now) texts (part ∷ [])))
    (subst (λ (ps : List (List ℕ)). AreParts bytes ps) (sym (append_assoc (map (λ text. text.now) texts) (part.now ∷ []) parts))
    (left (part.now ∷ parts) all)))

-- the last part
pub last_cut : (bytes rest : List ℕ) (texts next : List (Bor (List ℕ))) (part : Bor (List ℕ)) → next ≡ texts ++ part ∷ []
    → IsLeft bytes (map (λ text. text.now) texts) rest → part.now ≡ rest → ((at : ℕ) → ¬ IsMarkAt rest at)
    → AreParts bytes (map (λ text. text.now) next)
last_cut bytes rest texts next part pushed left same no_mark =
    subst (λ (ts : List (Bor (List ℕ))). AreParts bytes (map (λ text. text.now) ts)) (sym pushed)
    (subst (λ (ps : List (List ℕ)). AreParts bytes ps) (sym (map-append (λ text. text.now) texts (part ∷ [])))
    (subst (λ (p : List ℕ). AreParts bytes (map (λ text. text.now) texts ++ p ∷ [])) (sym same) (left (rest ∷ []) (last rest no_mark))))
