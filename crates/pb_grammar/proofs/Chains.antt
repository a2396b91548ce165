-- Chains, whatever their parts are.
use Rattle.std.proofs.Common.{◌≡◌, ℕ, zero, suc, ◌≤◌, ◌<◌, List, [], ◌∷◌, length, Option, Some, None, Result, Ok, Err}
use Rattle.std.proofs.Common.{refl, ◌∙◌, subst, arith}
use Rattle.pb_lexer.specs.Tokens.{Token}
use Rattle.pb_grammar.specs.Reader.{Answer, Refused, Found, Part, Join, Stops, and_then, chain_by, chain_from, chain}
use Rattle.std.specs.Prelude.{IfOk, IfErr}
use Rattle.pb_grammar.specs.Making.{Fails, IsMadeOf}
use Rattle.pb_grammar.specs.declared.fault.ParseFault.{ParseFault}
use Rattle.pb_grammar.specs.declared.fault.ParseFault.TheVariants as fault

pub chain_stops : {X : Type 0} (join : Join X) (part : Part X) (n : ℕ) (a : X) (rest : List Token) → Stops join rest → length rest ≤ n
    → chain_from join part n a rest ≡ Found a rest
unfolding chain_from
chain_stops join part n a [] h room = refl
chain_stops join part zero a (t ∷ ts) h room = absurd (omega arith)
chain_stops join part (suc n) a (t ∷ ts) h room = rw h refl

pub chain_turns : {X : Type 0} (join : Join X) (part : Part X) (n : ℕ) (a b : X) (f : X → X → X) (t : Token) (mid rest : List Token)
    → join t.lexeme ≡ Some f → part mid ≡ Found b rest
    → chain_from join part (suc n) a (t ∷ mid) ≡ chain_from join part n (f a b) rest
unfolding chain_from
chain_turns join part n a b f t mid rest h p = rw (h, p) refl

pub chain_begins : {X : Type 0} (join : Join X) (part : Part X) (a : X) (ts rest : List Token) → part ts ≡ Found a rest
    → chain join part ts ≡ chain_from join part (length rest) a rest
unfolding chain
chain_begins join part a ts rest p = rw p refl

-- ---- what was read

pub found_value : {X : Type 0} {a b : X} {ts us : List Token} → Found a ts ≡ Found b us → a ≡ b
found_value e = cc

pub found_rest : {X : Type 0} {a b : X} {ts us : List Token} → Found a ts ≡ Found b us → ts ≡ us
found_rest e = cc

pub goes_on : {X Y : Type 0} {y : Y} {rest : List Token} (r : Answer X) (f : X → List Token → Answer Y) → and_then r f ≡ Found y rest
    → (x : X) × (mid : List Token) × (r ≡ Found x mid) × (f x mid ≡ Found y rest)
goes_on Refused f p = cc
goes_on (Found x mid) f p = (x, mid, refl, p)

-- what holds of each part of a chain and the tokens after it holds at its end
pub chain_keeps : {X : Type 0} (join : Join X) (part : Part X) (P : X → List Token → Type 0)
    → ((a : X) (t : Token) (mid : List Token) (f : X → X → X) (b : X) (rest : List Token) → P a (t ∷ mid) → join
    t.lexeme ≡ Some f → part mid ≡ Found b rest → P (f a b) rest)
    → (n : ℕ) (a : X) (ts : List Token) (e : X) (rest : List Token) → P a ts → chain_from join part n a ts ≡ Found e rest → P e rest
unfolding chain_from
chain_keeps join part P step n a [] e rest h p = subst (λ x. P x rest) (found_value p) (subst (P a) (found_rest p) h)
chain_keeps join part P step zero a (t ∷ ts) e rest h p = cc
chain_keeps {X = X} join part P step (suc n) a (t ∷ ts) e rest h p =
    go (join t.lexeme) refl (λ b mid k q. chain_keeps join part P step n b mid e rest k q) p
  where
    go : (j : Option (X → X → X)) → join t.lexeme ≡ j
        → ((b : X) (mid : List Token) → P b mid → chain_from join part n b mid ≡ Found e rest → P e rest)
        → chain_by part (chain_from join part n) a (Found a (t ∷ ts)) ts j ≡ Found e rest → P e rest
    go None is deep p = subst (λ x. P x rest) (found_value p) (subst (P a) (found_rest p) h)
    go (Some f) is deep p =
        let x = goes_on (part ts) (λ b after. chain_from join part n (f a b) after) p in
        deep (f a x.0) x.1 (step a t ts f x.0 x.1 h is x.2) x.3

-- ---- a loop over a chain

-- what is still to come of a chain after `a` and `ts` gives `target`
pub record InChain {X : Type 0} (join : Join X) (part : Part X) (a : X) (ts : List Token) (target : Answer X) : Type 0 where
  pub turns : ℕ
  pub room : length ts ≤ turns
  pub same : target ≡ chain_from join part turns a ts

pub chain_enters : {X : Type 0} (join : Join X) (part : Part X) (a : X) (ts rest : List Token) → part ts ≡ Found a rest
    → InChain join part a rest (chain join part ts)
chain_enters join part a ts rest p = record { turns = length rest; room = omega arith; same = chain_begins join part a ts rest p }

pub chain_refused : {X : Type 0} (join : Join X) (part : Part X) (ts : List Token) → part ts ≡ Refused → chain join part ts ≡ Refused
unfolding chain
chain_refused join part ts p = rw p refl

pub chain_leaves : {X : Type 0} (join : Join X) (part : Part X) (a : X) (ts : List Token) (target : Answer X)
    → InChain join part a ts target → Stops join ts
    → target ≡ Found a ts
chain_leaves join part a ts target x stop = x.same ∙ chain_stops join part x.turns a ts stop x.room

turns_more : {X : Type 0} (join : Join X) (part : Part X) (n : ℕ) (a b : X) (f : X → X → X) (t : Token) (mid rest : List Token) (target : Answer X)
    → length (t ∷ mid) ≤ n → target ≡ chain_from join part n a (t ∷ mid) → join t.lexeme ≡ Some f → part mid ≡ Found b rest
    → length rest < length mid
    → InChain join part (f a b) rest target
turns_more join part zero a b f t mid rest target room same j p less = absurd (omega arith)
turns_more join part (suc n) a b f t mid rest target room same j p less =
    record { turns = n; room = omega arith; same = same ∙ chain_turns join part n a b f t mid rest j p }

pub chain_more : {X : Type 0} (join : Join X) (part : Part X) (a b : X) (f : X → X → X) (t : Token) (ts mid rest : List Token) (target : Answer X)
    → InChain join part a ts target → ts ≡ t ∷ mid → join t.lexeme ≡ Some f → part mid ≡ Found b rest → length rest < length mid
    → InChain join part (f a b) rest target
chain_more join part a b f t ts mid rest target x e j p less =
    turns_more join part x.turns a b f t mid rest target (rw e at x.room) (rw e at x.same) j p less

turns_fail : {X : Type 0} (join : Join X) (part : Part X) (n : ℕ) (a : X) (f : X → X → X) (t : Token) (mid : List Token)
    → length (t ∷ mid) ≤ n → join t.lexeme ≡ Some f → part mid ≡ Refused → chain_from join part n a (t ∷ mid) ≡ Refused
unfolding chain_from
turns_fail join part zero a f t mid room j p = refl
turns_fail join part (suc n) a f t mid room j p = rw (j, p) refl

pub chain_fails : {X : Type 0} (join : Join X) (part : Part X) (a : X) (f : X → X → X) (t : Token) (ts mid : List Token) (target : Answer X)
    → InChain join part a ts target → ts ≡ t ∷ mid → join t.lexeme ≡ Some f → part mid ≡ Refused → target ≡ Refused
chain_fails join part a f t ts mid target x e j p =
    let same = rw e at x.same in same ∙ turns_fail join part x.turns a f t mid (rw e at x.room) j p

-- ---- the error of a part

pub fails_through : {X Y : Type 0} {part : Answer X} {whole : Answer Y} (wants : Type 0) (e : ParseFault) → Fails wants e part
    → (part ≡ Refused → whole ≡ Refused)
    → Fails wants e whole
fails_through wants (fault.Syntax at) h f = f h
fails_through wants fault.TooDeep h f = h
fails_through wants fault.TooLarge h f = h
fails_through wants fault.NoMemory h f = h

-- the same, if the part takes no memory
pub fails_through_plain : {X Y : Type 0} {part : Answer X} {whole : Answer Y} (wants : Type 0) (e : ParseFault) → Fails ⊥ e part
    → (part ≡ Refused → whole ≡ Refused) → Fails wants e whole
fails_through_plain wants (fault.Syntax at) h f = f h
fails_through_plain wants fault.TooDeep h f = h
fails_through_plain wants fault.TooLarge h f = h
fails_through_plain wants fault.NoMemory h f = absurd h

-- ---- what the builder made last

pub made : {X Y N : Type 0} (is : X → Y → Type 0) (wants : Type 0) (m : Result X N) (result : Result X ParseFault)
    (answer : Answer Y) (rest : List Token) (syntax : Y) → answer ≡ Found syntax rest
    → IfOk m (λ x. is x syntax) → IfErr m (λ _. wants)
    → IfOk m (λ x. result ≡ Ok x) → IfErr m (λ _. result ≡ Err fault.NoMemory) → IsMadeOf wants is result answer rest
made is wants (Ok x) result answer rest syntax found same none given wanted = rw given (record { syntax = syntax; found = found; same = same })
made is wants (Err e) result answer rest syntax found same none given wanted = rw wanted none
