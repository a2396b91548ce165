-- The test for a symbol or reserved word.
use Rattle.std.proofs.Common.{◌≡◌, ℕ, List, [], ◌∷◌, Bool, true, false, refl, ap, rules, arith, ◌<◌}
use Rattle.std.proofs.Common.{length, get_or}
use denote.Enum.Bare.{same_true, true_same}
use Rattle.pb_lexer.specs.contracts.token.Mark.{the_type}
use Rattle.pb_lexer.specs.declared.token.Mark.{Mark}
use Rattle.pb_lexer.specs.declared.token.Kind.{Kind}
use Rattle.pb_lexer.specs.declared.token.Kind.TheVariants as kind
use Rattle.pb_lexer.specs.Tokens.{Lexeme, Name, Number, Fixed, Token, lexeme, token, tokens}
use Rattle.pb_lexer.specs.declared.token.Token.{Token as Given}
use Rattle.pb_grammar.specs.Reader.{Found, is_mark, expect, expect_by}

pub mark_is : (m : Mark) (k : Lexeme) → is_mark m k ≡ true → k ≡ Fixed m
unfolding is_mark
mark_is m (Fixed k) e = ap Fixed (same_true the_type (search rules) k m e)
mark_is m (Name x) e = cc
mark_is m (Number n) e = cc

pub is_mark_same : (m : Mark) (k : Lexeme) → k ≡ Fixed m → is_mark m k ≡ true
unfolding is_mark
is_mark_same m k e = rw e (true_same the_type m m refl)

pub expects : (m : Mark) (t : Token) (ts : List Token) → t.lexeme ≡ Fixed m → expect m (t ∷ ts) ≡ Found tt ts
expects m t ts e = rw (is_mark_same m t.lexeme e) refl

pub expected : (m : Mark) (ts rest : List Token) → expect m ts ≡ Found tt rest → (t : Token) × (t.lexeme ≡ Fixed m) × (ts ≡ t ∷ rest)
expected m [] rest p = cc
expected m (t ∷ ts) rest p = go (is_mark m t.lexeme) refl p
  where
    go : (b : Bool) → is_mark m t.lexeme ≡ b → expect_by b ts ≡ Found tt rest → (u : Token) × (u.lexeme ≡ Fixed m) × (t ∷ ts ≡ u ∷ rest)
    go true is p = let same : ts ≡ rest = cc in (t, mark_is m t.lexeme is, ap (λ x. t ∷ x) same)
    go false is p = cc

pub no_mark : (m : Mark) (k : Kind) (text : List ℕ) → ((n : Mark) → k ≡ kind.Mark n → ⊥) → is_mark m (lexeme k text) ≡ false
unfolding is_mark
no_mark m kind.Name text h = refl
no_mark m (kind.Number n) text h = refl
no_mark m (kind.Mark n) text h = absurd (h n refl)

pub front_read : (xs : List Given) (d : Given) → 0 < length xs → (after : List Token) × (tokens xs ≡ token (get_or xs 0 d) ∷ after)
front_read [] d h = absurd (omega arith)
front_read (x ∷ xs) d h = (tokens xs, refl)
