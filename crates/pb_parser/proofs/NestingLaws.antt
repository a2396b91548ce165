-- What nests too deep, seen from one of the tokens.
use Rattle.std.proofs.Common.{◌≡◌, ℕ, ◌+◌, ◌<◌, ◌≤◌, ◌++◌, ◌⊎◌, inl, inr, List, [], ◌∷◌, Bool, true, false, MatchBool}
use Rattle.std.proofs.Common.{fold, drop, get_or, drop-cons, add-one, length, refl, ap, sym, ◌∙◌, subst, arith}
use Rattle.std.proofs.Math.ListN.{drop_of_length-le}
use Rattle.pb_lexer.specs.declared.token.Token.{Token as Given}
use Rattle.pb_lexer.specs.declared.token.Kind.{Kind}
use Rattle.pb_lexer.specs.Tokens.{Token, lexeme, token, tokens}
use Rattle.pb_parser.specs.Nesting.{open_after, OpensTooMany, is_sign, AreSigns, SignsTooMany}

-- ---- brackets and statements

-- more than 256 are open somewhere in `ts`, if `n` are open before it
abbrev pub OpensFrom : ℕ → List Token → Type 0
OpensFrom n ts = (before after : List Token) × (ts ≡ before ++ after) × (256 < fold (λ m t. open_after m t.lexeme) n before)

opens-later : (n : ℕ) (t : Token) (ts before after : List Token) → n ≤ 256 → t ∷ ts ≡ before ++ after
    → 256 < fold (λ m u. open_after m u.lexeme) n before → OpensFrom (open_after n t.lexeme) ts
opens-later n t ts [] after small e many = absurd (omega arith)
opens-later n t ts (b ∷ bs) after small e many =
    let head : t ≡ b = cc in
    (bs, after, cc, subst (λ u. 256 < fold (λ m v. open_after m v.lexeme) (open_after n u.lexeme) bs) (sym head) many)

pub opens-next : (n : ℕ) (t : Token) (ts : List Token) → n ≤ 256 → OpensFrom n (t ∷ ts) → OpensFrom (open_after n t.lexeme) ts
opens-next n t ts small x = opens-later n t ts x.0 x.1 small x.2 x.3

pub opens-before : (n : ℕ) (t : Token) (ts : List Token) → OpensFrom (open_after n t.lexeme) ts → OpensFrom n (t ∷ ts)
opens-before n t ts x = (t ∷ x.0, x.1, ap (λ r. t ∷ r) x.2, x.3)

pub opens-now : (n : ℕ) (ts : List Token) → 256 < n → OpensFrom n ts
opens-now n ts many = ([], ts, refl, many)

none-open : (n : ℕ) (before after : List Token) → n ≤ 256 → [] ≡ before ++ after → 256 < fold (λ m u. open_after m u.lexeme) n before → ⊥
none-open n [] after small e many = omega arith
none-open n (b ∷ bs) after small e many = cc

pub opens-end : (n : ℕ) → n ≤ 256 → OpensFrom n [] → ⊥
opens-end n small x = none-open n x.0 x.1 small x.2 x.3

-- a turn of the loop
opens-turn : (count now : ℕ) (t : Token) (all ts us : List Token) → count ≤ 256 → ts ≡ t ∷ us → now ≡ open_after count t.lexeme
    → (OpensTooMany all → OpensFrom count ts) → OpensTooMany all → OpensFrom now us
opens-turn count now t all ts us small e step later x =
    let y : OpensFrom count (t ∷ us) = subst (OpensFrom count) e (later x) in rw step (opens-next count t us small y)

opens-turn-back : (count now : ℕ) (t : Token) (all ts us : List Token) → ts ≡ t ∷ us → now ≡ open_after count t.lexeme
    → (OpensFrom count ts → OpensTooMany all) → OpensFrom now us → OpensTooMany all
opens-turn-back count now t all ts us e step back x =
    let y : OpensFrom (open_after count t.lexeme) us = subst (λ n. OpensFrom n us) step x in
    back (rw e (opens-before count t us y))

-- what the loop over the tokens keeps, if `count` are open and `ts` are left
pub record InOpens (all ts : List Token) (count : ℕ) : Type 0 where
  pub small : count ≤ 256
  pub later : OpensTooMany all → OpensFrom count ts
  pub back : OpensFrom count ts → OpensTooMany all

opens-preserved : (count now : ℕ) (t : Token) (all ts us : List Token) → InOpens all ts count → ts ≡ t ∷ us
    → now ≡ open_after count t.lexeme
    → now ≤ 256 → InOpens all us now
opens-preserved count now t all ts us inside e step small = record {
  small = small;
  later = opens-turn count now t all ts us inside.small e step inside.later;
  back = opens-turn-back count now t all ts us e step inside.back;
}

opens-found : (count now : ℕ) (t : Token) (all ts us : List Token) → InOpens all ts count → ts ≡ t ∷ us → now ≡ open_after count t.lexeme
    → 256 < now → OpensTooMany all
opens-found count now t all ts us inside e step many = opens-turn-back count now t all ts us e step inside.back (opens-now now us many)

pub opens-none : (count : ℕ) (all ts : List Token) → InOpens all ts count → ts ≡ [] → OpensTooMany all → ⊥
opens-none count all ts inside e x = let y : OpensFrom count [] = subst (OpensFrom count) e (inside.later x) in opens-end count inside.small y

-- ---- signs

-- more than 256 signs are in a row somewhere in `ts`, if `n` are right before it
abbrev pub SignsFrom : ℕ → List Token → Type 0
SignsFrom n ts = ((signs after : List Token) × (ts ≡ signs ++ after) × (AreSigns signs) × (256 < n + length signs)) ⊎ SignsTooMany ts

sign-later : (n : ℕ) (t : Token) (ts signs after : List Token) → n ≤ 256 → t ∷ ts ≡ signs ++ after → AreSigns signs → 256 < n + length signs
    → (is_sign t.lexeme ≡ true) × ((ss : List Token) × (ts ≡ ss ++ after) × (AreSigns ss) × (256 < (n + 1) + length ss))
sign-later n t ts [] after small e all many = absurd (omega arith)
sign-later n t ts (s ∷ ss) after small e all many = let head : t ≡ s = cc in (
  subst (λ u. is_sign u.lexeme ≡ true)
      (sym head) all.0,
  (ss, cc, all.1, omega arith),
)

row-later : (t : Token) (ts before signs after : List Token) → t ∷ ts ≡ before ++ (signs ++ after) → AreSigns signs → 256 < length signs
    → ((is_sign t.lexeme ≡ true) × ((ss : List Token) × (ts ≡ ss ++ after) × (AreSigns ss) × (256 < 1 + length ss))) ⊎ SignsTooMany ts
row-later t ts [] signs after e all many = inl (sign-later 0 t ts signs after (omega arith) e all (omega arith))
row-later t ts (b ∷ bs) signs after e all many = inr (bs, signs, after, cc, all, many)

-- the count of signs after a token
abbrev pub Counts : ℕ → ℕ → Token → Type 0
Counts n now t = MatchBool (is_sign t.lexeme) (now ≡ n + 1) (now ≡ 0)

signs-next : (n now : ℕ) (t : Token) (ts : List Token) → n ≤ 256 → Counts n now t → SignsFrom n (t ∷ ts) → SignsFrom now ts
signs-next n now t ts small step x = go (is_sign t.lexeme) refl step x
  where
    go : (b : Bool) → is_sign t.lexeme ≡ b → MatchBool b (now ≡ n + 1) (now ≡ 0) → SignsFrom n (t ∷ ts) → SignsFrom now ts
    go true is step (inl x) = let y = (sign-later n t ts x.0 x.1 small x.2 x.3 x.4).1 in rw step (inl (y.0, x.1, y.1, y.2, y.3))
    go true is step (inr x) = elim (row-later t ts x.0 x.1 x.2 x.3 x.4 x.5) [
      | inl y ↦ rw step (inl (y.1.0, x.2, y.1.1, y.1.2, omega (arith, y.1.3)))
      | inr y ↦ inr y
    ]
    go false is step (inl x) = let yes = (sign-later n t ts x.0 x.1 small x.2 x.3 x.4).0 in cc
    go false is step (inr x) = elim (row-later t ts x.0 x.1 x.2 x.3 x.4 x.5) [
      | inl y ↦ (let yes = y.0 in cc)
      | inr y ↦ inr y
    ]

signs-before : (n now : ℕ) (t : Token) (ts : List Token) → Counts n now t → SignsFrom now ts → SignsFrom n (t ∷ ts)
signs-before n now t ts step x = go (is_sign t.lexeme) refl step x
  where
    go : (b : Bool) → is_sign t.lexeme ≡ b → MatchBool b (now ≡ n + 1) (now ≡ 0) → SignsFrom now ts → SignsFrom n (t ∷ ts)
    go true is step (inl x) = inl (t ∷ x.0, x.1, ap (λ r. t ∷ r) x.2, (is, x.3), omega (arith, x.4))
    go false is step (inl x) = inr (t ∷ [], x.0, x.1, ap (λ r. t ∷ r) x.2, x.3, omega (arith, x.4))
    go _ is step (inr x) = inr (t ∷ x.0, x.1, x.2, ap (λ r. t ∷ r) x.3, x.4, x.5)

none-signed : (n : ℕ) (signs after : List Token) → n ≤ 256 → [] ≡ signs ++ after → 256 < n + length signs → ⊥
none-signed n [] after small e many = omega arith
none-signed n (s ∷ ss) after small e many = cc

none-in-row : (before signs after : List Token) → [] ≡ before ++ (signs ++ after) → 256 < length signs → ⊥
none-in-row [] signs after e many = none-signed 0 signs after (omega arith) e (omega arith)
none-in-row (b ∷ bs) signs after e many = cc

signs-end : (n : ℕ) → n ≤ 256 → SignsFrom n [] → ⊥
signs-end n small (inl x) = none-signed n x.0 x.1 small x.2 x.4
signs-end n small (inr x) = none-in-row x.0 x.1 x.2 x.3 x.5

pub signs-whole : (ts : List Token) → SignsFrom 0 ts → SignsTooMany ts
signs-whole ts (inl x) = ([], x.0, x.1, x.2, x.3, omega (arith, x.4))
signs-whole ts (inr x) = x

-- what the loop over the tokens keeps, if `count` signs are right before `ts`, which are left
pub record InSigns (all ts : List Token) (count : ℕ) : Type 0 where
  pub small : count ≤ 256
  pub later : SignsTooMany all → SignsFrom count ts
  pub back : SignsFrom count ts → SignsTooMany all

signs-turn-back : (count now : ℕ) (t : Token) (all ts us : List Token) → ts ≡ t ∷ us → Counts count now t
    → (SignsFrom count ts → SignsTooMany all) → SignsFrom now us → SignsTooMany all
signs-turn-back count now t all ts us e step back x = back (rw e (signs-before count now t us step x))

signs-preserved : (count now : ℕ) (t : Token) (all ts us : List Token) → InSigns all ts count → ts ≡ t ∷ us → Counts count now t
    → now ≤ 256 → InSigns all us now
signs-preserved count now t all ts us inside e step small = record {
  small = small;
  later = λ x. let y : SignsFrom count (t ∷ us) = subst (SignsFrom count) e (inside.later x) in signs-next count now t us inside.small step y;
  back = signs-turn-back count now t all ts us e step inside.back;
}

signs-found : (count now : ℕ) (t : Token) (all ts us : List Token) → InSigns all ts count → ts ≡ t ∷ us → Counts count now t
    → 256 < now → SignsTooMany all
signs-found count now t all ts us inside e step many = signs-turn-back count now t all ts us e step inside.back (inl ([], us, refl, tt, omega arith))

pub signs-none : (count : ℕ) (all ts : List Token) → InSigns all ts count → ts ≡ [] → SignsTooMany all → ⊥
signs-none count all ts inside e x = let y : SignsFrom count [] = subst (SignsFrom count) e (inside.later x) in signs-end count inside.small y

-- ---- the tokens that are left

pub tokens-next : (given : List Given) (i : ℕ) (d : Given) → i < length given
    → tokens (drop i given) ≡ token (get_or given i d) ∷ tokens (drop (i + 1) given)
tokens-next given i d below = rw add-one (ap tokens (drop-cons given i d below))

pub tokens-end : (given : List Given) (i : ℕ) → length given ≤ i → tokens (drop i given) ≡ []
tokens-end given i over = ap tokens (drop_of_length-le given over)

-- ---- a turn at a token of the kind `k`

-- what the code knows of the kind of the token at `i`
abbrev pub IsKind : List Given → ℕ → Given → Kind → Type 0
IsKind given i d k = lexeme k (token (get_or given i d)).text ≡ (token (get_or given i d)).lexeme

opens-counted : (given : List Given) (i : ℕ) (d : Given) (count now : ℕ) (k : Kind) → IsKind given i d k
    → ((text : List ℕ) → now ≡ open_after count (lexeme k text))
    → now ≡ open_after count (token (get_or given i d)).lexeme
opens-counted given i d count now k kind counts = counts (token (get_or given i d)).text ∙ ap (open_after count) kind

pub opens-preserved_at : (given : List Given) (i : ℕ) (d : Given) (count now : ℕ) (k : Kind) → i < length given → IsKind given i d k
    → ((text : List ℕ) → now ≡ open_after count (lexeme k text)) → InOpens (tokens given) (tokens (drop i given)) count → now ≤ 256
    → InOpens (tokens given) (tokens (drop (i + 1) given)) now
opens-preserved_at given i d count now k below kind counts inside small =
    opens-preserved count now _ _ _ _ inside (tokens-next given i d below) (opens-counted given i d count now k kind counts) small

pub opens-found_at : (given : List Given) (i : ℕ) (d : Given) (count now : ℕ) (k : Kind) → i < length given → IsKind given i d k
    → ((text : List ℕ) → now ≡ open_after count (lexeme k text)) → InOpens (tokens given) (tokens (drop i given)) count → 256 < now
    → OpensTooMany (tokens given)
opens-found_at given i d count now k below kind counts inside many =
    opens-found count now _ _ _ _ inside (tokens-next given i d below) (opens-counted given i d count now k kind counts) many

signs-counted : (given : List Given) (i : ℕ) (d : Given) (count now : ℕ) (k : Kind) → IsKind given i d k
    → ((text : List ℕ) → MatchBool (is_sign (lexeme k text)) (now ≡ count + 1) (now ≡ 0)) → Counts count now (token (get_or given i d))
signs-counted given i d count now k kind counts =
    subst (λ x. MatchBool (is_sign x) (now ≡ count + 1) (now ≡ 0)) kind (counts (token (get_or given i d)).text)

pub signs-preserved_at : (given : List Given) (i : ℕ) (d : Given) (count now : ℕ) (k : Kind) → i < length given → IsKind given i d k
    → ((text : List ℕ) → MatchBool (is_sign (lexeme k text)) (now ≡ count + 1) (now ≡ 0))
    → InSigns (tokens given) (tokens (drop i given)) count → now ≤ 256
    → InSigns (tokens given) (tokens (drop (i + 1) given)) now
signs-preserved_at given i d count now k below kind counts inside small =
    signs-preserved count now _ _ _ _ inside (tokens-next given i d below) (signs-counted given i d count now k kind counts) small

pub signs-found_at : (given : List Given) (i : ℕ) (d : Given) (count now : ℕ) (k : Kind) → i < length given → IsKind given i d k
    → ((text : List ℕ) → MatchBool (is_sign (lexeme k text)) (now ≡ count + 1) (now ≡ 0))
    → InSigns (tokens given) (tokens (drop i given)) count → 256 < now
    → SignsTooMany (tokens given)
signs-found_at given i d count now k below kind counts inside many =
    signs-found count now _ _ _ _ inside (tokens-next given i d below) (signs-counted given i d count now k kind counts) many
