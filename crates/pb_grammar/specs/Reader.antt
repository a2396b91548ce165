-- The reading of tokens as a function: results, symbols and words, and chains.
-- Of the public contracts only that of `read` cites this file.
use Rattle.std.specs.Prelude.{◌≡◌, ℕ, zero, suc, Bool, true, false, List, [], ◌∷◌, length, Option, Some, None}
use denote.Enum.Bare.{sameb}
use Rattle.pb_lexer.specs.contracts.token.Mark.{the_type}
use Rattle.pb_lexer.specs.declared.token.Mark.{Mark}
use Rattle.pb_lexer.specs.Tokens.{Lexeme, Fixed, Token}

-- what was read, and the tokens after it; none if the tokens are not in the grammar
pub data Answer (X : Type 0) : Type 0 where
  Refused : Answer X
  Found : X → List Token → Answer X

-- a way to read tokens
abbrev pub Part : Type 0 → Type 0
Part X = List Token → Answer X

-- goes on after what was read
abbrev pub and_then : {X Y : Type 0} → Answer X → (X → List Token → Answer Y) → Answer Y
and_then Refused f = Refused
and_then (Found x rest) f = f x rest

-- whether a lexeme is the symbol or reserved word
unfoldable pub is_mark : Mark → Lexeme → Bool
is_mark m (Fixed k) = sameb the_type k m
is_mark m _ = false

-- the tokens after a symbol or reserved word, if it was tested
abbrev pub expect_by : Bool → List Token → Answer (Unit {0})
expect_by true ts = Found tt ts
expect_by false ts = Refused

-- the tokens after a symbol or reserved word
abbrev pub expect : Mark → Part (Unit {0})
expect m [] = Refused
expect m (t ∷ ts) = expect_by (is_mark m t.lexeme) ts

-- no token is left
abbrev pub ended : Part (Unit {0})
ended [] = Found tt []
ended (t ∷ ts) = Refused

-- how a token joins what was read with what comes next, if it does
abbrev pub Join : Type 0 → Type 0
Join X = Lexeme → Option (X → X → X)

-- one more turn of a chain, if the join is known
abbrev pub chain_by : {X : Type 0} → Part X → (X → Part X) → X → Answer X → List Token → Option (X → X → X)
    → Answer X
chain_by part go a stop ts None = stop
chain_by part go a stop ts (Some f) = and_then (part ts) (λ b rest. go (f a b) rest)

-- goes on from `a`, as long as a token joins it with one more part
unfoldable pub chain_from : {X : Type 0} → Join X → Part X → ℕ → X → Part X
chain_from join part n a [] = Found a []
chain_from join part zero a (t ∷ ts) = Refused
chain_from join part (suc n) a (t ∷ ts) =
    chain_by part (chain_from join part n) a (Found a (t ∷ ts)) ts (join t.lexeme)

-- goes on from `a` to the last part that is joined
abbrev pub more : {X : Type 0} → Join X → Part X → X → Part X
more join part a ts = chain_from join part (length ts) a ts

-- parts that are joined
unfoldable pub chain : {X : Type 0} → Join X → Part X → Part X
chain join part ts = and_then (part ts) (λ a rest. chain_from join part (length rest) a rest)

-- no token joins more to what was read
abbrev pub Stops : {X : Type 0} → Join X → List Token → Type 0
Stops join [] = Unit {0}
Stops join (t ∷ ts) = join t.lexeme ≡ None
