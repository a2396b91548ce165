-- The amounts of requests, and wishes one after another.
use Rattle.std.proofs.Common.{◌≡◌, ℕ, ◌+◌, ◌<◌, ltb, eqb, not, Bool, true, false, cond, List, [], ◌∷◌, ◌++◌, length, take, get_or, slice_get, Some}
use Rattle.std.proofs.Common.{inl, inr, refl, sym, ap, ◌∙◌, subst, arith, append_assoc, append-nil}
use Rattle.std.specs.Prelude.{filter}
use Rattle.std.proofs.lemmas.Bool.{lt-ltb}
use Rattle.std.proofs.lemmas.List.{take_more, flat_map_more, length-take-le}
use Rattle.std.proofs.lemmas.Option.{get_or_from_slice_get}
use Rattle.pb_base.specs.declared.pair.Pair.{Pair}
use Rattle.pb_base.specs.Banker.{BankerState}
use Rattle.pb_bank.specs.declared.request.Request.{Request}
use Rattle.pb_bank.specs.declared.said.Said.{Said}
use Rattle.pb_bank.specs.declared.said.Said.TheVariants.{Granted}
use Rattle.pb_bank.specs.Queues.{without_wish, Serves, grants, waits, ServesWish}
use Rattle.pb_bank.specs.Tables.{amounts_parted}

parted_push : (first next : Pair → List ℕ) (xs : List Pair) (x : Pair)
    → amounts_parted first next (xs ++ x ∷ []) ≡ amounts_parted first next xs ++ cond (ltb 0 (length xs)) (next x) (first x)
parted_push first next [] x = append-nil (first x)
parted_push first next (y ∷ ys) x =
    sym (flat_map_more next (first y) ys x)
    ∙ ap (λ (b : Bool). amounts_parted first next (y ∷ ys) ++ cond b (next x) (first x))
    (sym (lt-ltb 0 (length (y ∷ ys)) (omega arith)))

-- the amounts up to one more
pub parted_next : (first next : Pair → List ℕ) (pairs : List Pair) (i : ℕ) (pair : Pair) (before : List ℕ) → i < length pairs
    → slice_get pairs i ≡ Some pair
    → (before ++ amounts_parted first next (take i pairs)) ++ cond (ltb 0 i) (next pair) (first pair) ≡ before ++ amounts_parted first next (take (i + 1) pairs)
parted_next first next pairs i pair before lt here =
    let more : take (i + 1) pairs ≡ take i pairs ++ pair ∷ [] =
    take_more pairs i pair lt ∙ ap (λ (p : Pair). take i pairs ++ p ∷ []) (get_or_from_slice_get pairs i pair pair here) in
    let size : length (take i pairs) ≡ i = length-take-le i pairs (omega (arith, lt)) in
    append_assoc before (amounts_parted first next (take i pairs)) (cond (ltb 0 i) (next pair) (first pair))
    ∙ ap (λ (t : List ℕ). before ++ t)
    (ap (λ (n : ℕ). amounts_parted first next (take i pairs) ++ cond (ltb 0 n) (next pair) (first pair)) (sym size)
    ∙ (sym (parted_push first next (take i pairs) pair) ∙ ap (λ (ps : List Pair). amounts_parted first next ps) (sym more)))

either_way : (b : Bool) (y : Request) (ws vs us : List Request) → ws ≡ vs ++ us → cond b (y ∷ ws) ws ≡ cond b (y ∷ vs) vs ++ us
either_way true y ws vs us e = ap (λ (zs : List Request). y ∷ zs) e
either_way false y ws vs us e = e

filter_push : (f : Request → Bool) (xs : List Request) (x : Request) → filter f (xs ++ x ∷ []) ≡ filter f xs ++ filter f (x ∷ [])
filter_push f [] x = refl
filter_push f (y ∷ ys) x = either_way (f y) y (filter f (ys ++ x ∷ [])) (filter f ys) (filter f (x ∷ [])) (filter_push f ys x)

-- the wishes of other jobs up to one more
pub others_next : (wishes : List Request) (p i : ℕ) (w : Request) (mid new : List Request) → i < length wishes → w ≡ get_or wishes i w
    → mid ≡ without_wish (take i wishes) p → new ≡ mid ++ without_wish (w ∷ []) p → new ≡ without_wish (take (i + 1) wishes) p
others_next wishes p i w mid new lt here before next =
    let more : take (i + 1) wishes ≡ take i wishes ++ w ∷ [] =
    take_more wishes i w lt ∙ ap (λ (v : Request). take i wishes ++ v ∷ []) (sym here) in
    next
    ∙ (ap (λ (ws : List Request). ws ++ without_wish (w ∷ []) p) before
    ∙ (sym (filter_push (λ (v : Request). not (eqb v.job p)) (take i wishes) w)
    ∙ ap (λ (ws : List Request). without_wish ws p) (sym more)))

-- one wish more is served
pub serves_next : (s : BankerState) (wishes : List Request) (i : ℕ) (w : Request) (said : List Said) (waiting waiting' : List Request)
    (mid next : BankerState) (old out out' : List Said) → i < length wishes → w ≡ get_or wishes i w
    → Serves s (take i wishes) said waiting mid → out ≡ old ++ said → ServesWish w mid next out out' waiting waiting'
    → (said' : List Said) × Serves s (take (i + 1) wishes) said' waiting' next × (out' ≡ old ++ said')
serves_next s wishes i w said waiting waiting' mid next old out out' lt here before told one =
    let more : take (i + 1) wishes ≡ take i wishes ++ w ∷ [] =
    take_more wishes i w lt ∙ ap (λ (v : Request). take i wishes ++ v ∷ []) (sym here) in
    let text : List Said = Granted w ∷ [] in
    elim one [
      | inl (allowed, is, line', same) ↦ (
        said ++ text,
        subst (λ (q : List Request). Serves s q (said ++ text) waiting' next) (sym more)
            (subst (λ (q : List Request). Serves s (take i wishes ++ w ∷ []) (said ++ text) q next) (sym same)
            (subst (λ (t : BankerState). Serves s (take i wishes ++ w ∷ []) (said ++ text) waiting t) (sym is)
            (grants (take i wishes) said waiting mid w before allowed))),
        line' ∙ (ap (λ (t : List Said). t ++ text) told ∙ append_assoc old said text),
      )
      | inr (refused, is, line', same) ↦ (
        said,
        subst (λ (q : List Request). Serves s q said waiting' next) (sym more)
            (subst (λ (q : List Request). Serves s (take i wishes ++ w ∷ []) said q next) (sym same)
            (subst (λ (t : BankerState). Serves s (take i wishes ++ w ∷ []) said (waiting ++ w ∷ []) t) (sym is)
            (waits (take i wishes) said waiting mid w before refused))),
        line' ∙ told,
      )
    ]
