-- Words with single spaces between them, one word more at the end.
use Rattle.std.proofs.Common.{◌≡◌, ℕ, ◌+◌, ◌<◌, List, [], ◌∷◌, ◌++◌, length, take, get_or, map, refl, sym, ap, ◌∙◌}
use Rattle.std.proofs.Common.{append_assoc, arith}
use Rattle.std.specs.Fmt.{decimal}
use Rattle.std.specs.List.{join_with_byte, flat_map}
use Rattle.std.proofs.lemmas.List.{take_more, map_push, length-map, length-take-le, append-nil}
use Rattle.std.proofs.lemmas.List.Concat.{flat_map-cons}
use Rattle.pb_base.specs.declared.pair.Pair.{Pair}
use Rattle.pb_base.specs.declared.operators.UnaryOp.TheVariants as unary
use Rattle.pb_base.specs.declared.operators.BinaryOp.TheVariants as binary
use Rattle.pb_object.specs.Rows.{side_by_side}
use Rattle.pb_code.specs.Names.{Word}
use Rattle.pb_object.proofs.PairedLists.{side_push}
use Rattle.pb_object.proofs.WordTurns.{up_to_here}
use Rattle.pb_object.specs.Instructions.{pair_words}

pub join_push : (k : Word) (ws : List Word) (w : Word) → join_with_byte 32 (k ∷ (ws ++ w ∷ [])) ≡ join_with_byte 32 (k ∷ ws) ++ 32 ∷ w
join_push k [] w = refl
join_push k (v ∷ ws) w =
    ap (λ (t : List ℕ). k ++ 32 ∷ t) (join_push v ws w) ∙ sym (append_assoc k (32 ∷ join_with_byte 32 (v ∷ ws)) (32 ∷ w))

pair_words_push : (ps : List Pair) (p : Pair) → pair_words (ps ++ p ∷ []) ≡ (pair_words ps ++ decimal p.resource ∷ []) ++ decimal p.amount ∷ []
pair_words_push [] p = refl
pair_words_push (q ∷ ps) p = ap (λ (ws : List Word). decimal q.resource ∷ decimal q.amount ∷ ws) (pair_words_push ps p)

-- one pair more
pub join_pair : (k : Word) (ps : List Pair) (i : ℕ) (d : Pair) → i < length ps
    → join_with_byte 32 (k ∷ pair_words (take (i + 1) ps))
    ≡ (join_with_byte 32 (k ∷ pair_words (take i ps)) ++ 32 ∷ decimal (get_or ps i d).resource) ++ 32 ∷ decimal (get_or ps i d).amount
join_pair k ps i d lt =
    let p = get_or ps i d in
    ap (λ (qs : List Pair). join_with_byte 32 (k ∷ pair_words qs)) (take_more ps i d lt)
    ∙ ap (λ (ws : List Word). join_with_byte 32 (k ∷ ws)) (pair_words_push (take i ps) p)
    ∙ join_push k (pair_words (take i ps) ++ decimal p.resource ∷ []) (decimal p.amount)
    ∙ ap (λ (t : List ℕ). t ++ 32 ∷ decimal p.amount) (join_push k (pair_words (take i ps)) (decimal p.resource))

regroup : (a b c d : List ℕ) → ((a ++ b) ++ c) ++ d ≡ a ++ ((b ++ c) ++ d)
regroup a b c d = simp append_assoc

-- the bytes so far and one pair more
pub more_pairs : (old so_far new : List ℕ) (k : Word) (ps : List Pair) (i : ℕ) (p : Pair) → i < length ps → get_or ps i p ≡ p
    → so_far ≡ old ++ join_with_byte 32 (k ∷ pair_words (take i ps)) → new ≡ (so_far ++ (32 ∷ decimal p.resource)) ++ 32 ∷ decimal p.amount
    → new ≡ old ++ join_with_byte 32 (k ∷ pair_words (take (i + 1) ps))
more_pairs old so_far new k ps i p lt is e f =
    let joined = join_pair k ps i p lt in
    let here = ap (λ (q : Pair). (join_with_byte 32 (k ∷ pair_words (take i ps)) ++ 32 ∷ decimal q.resource) ++ 32 ∷ decimal q.amount) is in
    f ∙ ap (λ (t : List ℕ). (t ++ (32 ∷ decimal p.resource)) ++ 32 ∷ decimal p.amount) e
    ∙ regroup old (join_with_byte 32 (k ∷ pair_words (take i ps))) (32 ∷ decimal p.resource) (32 ∷ decimal p.amount)
    ∙ ap (λ (t : List ℕ). old ++ t) (sym (joined ∙ here))

-- the bytes so far and one word more
pub more_mapped : {A : Type 0} (f : A → Word) (old so_far new : List ℕ) (k : Word) (front : List Word) (xs : List A) (i : ℕ) (d : A) → i < length xs
    → so_far ≡ old ++ join_with_byte 32 (k ∷ (front ++ map f (take i xs))) → new ≡ so_far ++ 32 ∷ f (get_or xs i d)
    → new ≡ old ++ join_with_byte 32 (k ∷ (front ++ map f (take (i + 1) xs)))
more_mapped f old so_far new k front xs i d lt e h =
    let w = f (get_or xs i d) in
    let words : front ++ map f (take (i + 1) xs) ≡ (front ++ map f (take i xs)) ++ w ∷ [] =
    ap (λ (ws : List Word). front ++ ws) (up_to_here f xs i d lt) ∙ sym (append_assoc front (map f (take i xs)) (w ∷ [])) in
    h ∙ ap (λ (t : List ℕ). t ++ 32 ∷ w) e ∙ append_assoc old (join_with_byte 32 (k ∷ (front ++ map f (take i xs)))) (32 ∷ w)
    ∙ ap (λ (t : List ℕ). old ++ t) (sym (ap (λ (ws : List Word). join_with_byte 32 (k ∷ ws)) words ∙ join_push k (front ++ map f (take i xs)) w))

pub flat_push : {X : Type 0} (text : X → List ℕ) (xs : List X) (x : X) → flat_map text (xs ++ x ∷ []) ≡ flat_map text xs ++ text x
flat_push text [] x = flat_map-cons text x [] ∙ append-nil (text x)
flat_push text (y ∷ xs) x =
    flat_map-cons text y (xs ++ x ∷ []) ∙ ap (λ (t : List ℕ). text y ++ t) (flat_push text xs x)
    ∙ sym (append_assoc (text y) (flat_map text xs) (text x)) ∙ ap (λ (t : List ℕ). t ++ text x) (sym (flat_map-cons text y xs))

-- the bytes so far and one place more
pub more_places : {A B C : Type 0} (text : A × C → List ℕ) (view : B → C) (old so_far new : List ℕ) (ls : List A) (is
    : List B) (i : ℕ) (d : A) (e : B) → i < length ls → length ls ≡ length is
    → so_far ≡ old ++ flat_map text (side_by_side (take i ls) (map view (take i is))) → new ≡ so_far ++ text (get_or ls i d, view (get_or is i e))
    → new ≡ old ++ flat_map text (side_by_side (take (i + 1) ls) (map view (take (i + 1) is)))
more_places {A} {B} {C} text view old so_far new ls is i d e lt even f h =
    let x = get_or ls i d in
    let y = view (get_or is i e) in
    let front = side_by_side (take i ls) (map view (take i is)) in
    let lefts = take_more ls i d lt in
    let rights : map view (take (i + 1) is) ≡ map view (take i is) ++ y ∷ [] = ap (map view) (take_more is i e (omega
    (arith, even))) ∙ map_push view (take i is) (get_or is i e) in
    let same : length (take i ls) ≡ length (map view (take i is)) =
    length-take-le i ls (omega arith) ∙ sym (length-map (take i is) view ∙ length-take-le i is (omega (arith, even))) in
    let rows : side_by_side (take (i + 1) ls) (map view (take (i + 1) is)) ≡ front ++ (x, y) ∷ [] = rw (lefts, rights)
    (side_push (take i ls) (map view (take i is)) x y same) in
    h ∙ ap (λ (t : List ℕ). t ++ text (x, y)) f ∙ append_assoc old (flat_map text front) (text (x, y))
    ∙ ap (λ (t : List ℕ). old ++ t) (sym (ap (flat_map text) rows ∙ flat_push text front (x, y)))

-- the bytes so far and the text of one element more
pub more_flat : {A B : Type 0} (text : B → List ℕ) (view : A → B) (old so_far new : List ℕ) (xs : List A) (i : ℕ) (d : A) → i < length xs
    → so_far ≡ old ++ flat_map text (map view (take i xs)) → new ≡ so_far ++ text (view (get_or xs i d))
    → new ≡ old ++ flat_map text (map view (take (i + 1) xs))
more_flat text view old so_far new xs i d lt e h =
    let x = view (get_or xs i d) in
    let front = map view (take i xs) in
    h ∙ ap (λ (t : List ℕ). t ++ text x) e ∙ append_assoc old (flat_map text front) (text x)
    ∙ ap (λ (t : List ℕ). old ++ t) (sym (ap (flat_map text) (ap (map view) (take_more xs i d lt) ∙ map_push view (take i
    xs) (get_or xs i d)) ∙ flat_push text front x))
