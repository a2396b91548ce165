-- The pairs of a request, one after another.
use Rattle.std.proofs.Common.{◌≡◌, ◌≢◌, ℕ, suc, ◌+◌, ◌<◌, ◌++◌, eqb, ltb, Bool, true, false, cond, not, ◌&&◌, List, [], ◌∷◌, length, drop, get_or, set}
use Rattle.std.proofs.Common.{refl, ap, ◌∙◌, arith, Option, Some, slice_get, All, Result, Err}
use Rattle.std.proofs.Math.Seq.{drop-cons}
use Rattle.std.proofs.lemmas.Bool.{eqb-false}
use Rattle.std.proofs.lemmas.Option.{get_or_from_slice_get}
use Rattle.std.proofs.lemmas.List.Elements.{All-cons}
use Rattle.pb_base.specs.declared.pair.Pair.{Pair}
use Rattle.pb_base.specs.Banker.{BankerState, loan}
use Rattle.pb_bank.specs.Answers.{unheld, with_amounts}
use Rattle.pb_bank.specs.declared.refusal.Refusal.{Refusal}
use Rattle.pb_bank.specs.declared.refusal.Refusal.TheVariants.{Command, NoComma, Twice}
use Rattle.pb_bank.specs.Requests.{comma_place, has_resource, is_new, on_pair, pair_of, pairs_after, pairs_of}
use Rattle.pb_bank.specs.Words.{has_two, is_comma}

-- ---- one resource among pairs

pub has_next : (pairs : List Pair) (i r : ℕ) (pair : Pair) (b : Bool) → i < length pairs → slice_get pairs i ≡ Some pair
    → eqb pair.resource r ≡ b → has_resource (drop i pairs) r ≡ cond b true (has_resource (drop (i + 1) pairs) r)
has_next pairs i r pair b lt here same =
    let n : suc i ≡ i + 1 = omega arith in
    let at : get_or pairs i pair ≡ pair = get_or_from_slice_get pairs i pair pair here in
    ap (λ (ps : List Pair). has_resource ps r) (drop-cons pairs i pair lt)
    ∙ (ap (λ (p : Pair). cond (eqb p.resource r) true (has_resource (drop (suc i) pairs) r)) at
    ∙ (ap (λ t. cond t true (has_resource (drop (suc i) pairs) r)) same
    ∙ ap (λ k. cond b true (has_resource (drop k pairs) r)) n))

not_that : (b t : Bool) → cond b true t ≡ false → (b ≡ false) × (t ≡ false)
not_that true t e = absurd cc
not_that false t e = (refl, e)

pub none_there : (pairs : List Pair) (r : ℕ) → has_resource pairs r ≡ false → All (λ p. p.resource ≢ r) pairs
none_there [] r e = λ k d lt. absurd (omega (arith, lt))
none_there (pair ∷ pairs) r e =
    let both = not_that (eqb pair.resource r) (has_resource pairs r) e in
    All-cons (λ p. p.resource ≢ r) pair pairs (eqb-false pair.resource r both.0) (none_there pairs r both.1)

not_there : (h t : Bool) → not h && t ≡ true → h ≡ false
not_there true t e = absurd cc
not_there false t e = refl

pub new_parts : (pairs : List Pair) (pair : Pair) → is_new pairs pair ≡ true → has_resource pairs pair.resource ≡ false
new_parts pairs pair e = not_there (has_resource pairs pair.resource) (ltb (length pairs) 16) e

-- ---- further pairs

pub more_pairs : (names : List (List ℕ)) (pairs : List Pair) (comma amount resource : List ℕ) (rest : List (List ℕ)) (t : Bool)
    (one : Result Pair Refusal) → is_comma comma ≡ t → pair_of names (comma_place pairs) amount resource ≡ one
    → pairs_after names pairs (comma ∷ amount ∷ resource ∷ rest)
    ≡ cond t (on_pair one (λ pair. cond (is_new pairs pair) (pairs_after names (pairs ++ pair ∷ []) rest) (Err (Twice pair.resource))))
    (Err (NoComma (comma_place pairs)))
more_pairs names pairs comma amount resource rest t one comma_is one_is =
    let next : Pair → Result (List Pair) Refusal =
    λ pair. cond (is_new pairs pair) (pairs_after names (pairs ++ pair ∷ []) rest) (Err (Twice pair.resource)) in
    let none : Result (List Pair) Refusal = Err (NoComma (comma_place pairs)) in
    ap (λ b. cond b (on_pair (pair_of names (comma_place pairs) amount resource) next) none) comma_is
    ∙ ap (λ o. cond t (on_pair o next) none) one_is

choice : List Pair → Bool → Result (List Pair) Refusal
choice pairs b = cond b (Err Command) (Err (NoComma (comma_place pairs)))

pub short_pairs : (names : List (List ℕ)) (pairs : List Pair) (comma : List ℕ) (words : List (List ℕ)) → has_two words ≡ false
    → is_comma comma ≡ true → pairs_after names pairs (comma ∷ words) ≡ Err Command
unfolding choice
short_pairs names pairs comma [] e is = ap (choice pairs) is
short_pairs names pairs comma (a ∷ []) e is = ap (choice pairs) is
short_pairs names pairs comma (a ∷ b ∷ words) e is = absurd cc

-- another word stands in the place of a comma
pub no_comma : (names : List (List ℕ)) (pairs : List Pair) (comma : List ℕ) (words : List (List ℕ)) → is_comma comma ≡ false
    → pairs_after names pairs (comma ∷ words) ≡ Err (NoComma (comma_place pairs))
unfolding choice
no_comma names pairs comma [] is = ap (choice pairs) is
no_comma names pairs comma (a ∷ []) is = ap (choice pairs) is
no_comma names pairs comma (a ∷ b ∷ words) is =
    more_pairs names pairs comma a b words false (pair_of names (comma_place pairs) a b) is refl

pub no_pairs : (names : List (List ℕ)) (words : List (List ℕ)) → has_two words ≡ false → pairs_of names words ≡ Err Command
unfolding pairs_of
no_pairs names [] e = refl
no_pairs names (a ∷ []) e = refl
no_pairs names (a ∷ b ∷ words) e = absurd cc

pub first_pair : (names : List (List ℕ)) (amount resource : List ℕ) (rest : List (List ℕ)) (one : Result Pair Refusal)
    → pair_of names (comma_place []) amount resource ≡ one
    → pairs_of names (amount ∷ resource ∷ rest) ≡ on_pair one (λ pair. pairs_after names (pair ∷ []) rest)
unfolding pairs_of
first_pair names amount resource rest one is = ap (λ o. on_pair o (λ pair. pairs_after names (pair ∷ []) rest)) is

-- ---- what is not held

pub unheld_next : (s : BankerState) (p : ℕ) (pairs : List Pair) (i : ℕ) (pair : Pair) (b : Bool) → i < length pairs
    → slice_get pairs i ≡ Some pair → ltb (loan s p pair.resource) pair.amount ≡ b
    → unheld s p (drop i pairs) ≡ cond b (Some pair.resource) (unheld s p (drop (i + 1) pairs))
unheld_next s p pairs i pair b lt here same =
    let n : suc i ≡ i + 1 = omega arith in
    let at : get_or pairs i pair ≡ pair = get_or_from_slice_get pairs i pair pair here in
    let later : ℕ → Option ℕ = λ k. unheld s p (drop k pairs) in
    ap (unheld s p) (drop-cons pairs i pair lt)
    ∙ (ap (λ (q : Pair). cond (ltb (loan s p q.resource) q.amount) (Some q.resource) (later (suc i))) at
    ∙ (ap (λ t. cond t (Some pair.resource) (later (suc i))) same ∙ ap (λ k. cond b (Some pair.resource) (later k)) n))

-- ---- rows of claims

pub amounts_next : (pairs : List Pair) (i : ℕ) (pair : Pair) (row : List ℕ) → i < length pairs → slice_get pairs i ≡ Some pair
    → with_amounts row (drop i pairs) ≡ with_amounts (set row pair.resource pair.amount) (drop (i + 1) pairs)
amounts_next pairs i pair row lt here =
    let n : suc i ≡ i + 1 = omega arith in
    let at : get_or pairs i pair ≡ pair = get_or_from_slice_get pairs i pair pair here in
    ap (with_amounts row) (drop-cons pairs i pair lt)
    ∙ (ap (λ (p : Pair). with_amounts (set row p.resource p.amount) (drop (suc i) pairs)) at
    ∙ ap (λ k. with_amounts (set row pair.resource pair.amount) (drop k pairs)) n)
