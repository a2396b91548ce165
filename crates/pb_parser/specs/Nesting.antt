-- Which tokens nest too deep. A reader must believe these counts: they are taken before the grammar is
-- looked at, so what opens need not be closed by the word that belongs to it.
use Rattle.std.specs.Prelude.{◌≡◌, ℕ, ◌+◌, ◌-◌, ◌<◌, ◌++◌, ◌⊎◌, List, [], ◌∷◌}
use Rattle.std.specs.Prelude.{Bool, true, false, fold, length}
use Rattle.pb_base.specs.declared.limits.TheConstants.{MAX_OPEN, MAX_SIGNS}
use Rattle.pb_lexer.specs.declared.token.Mark.TheVariants as mark
use Rattle.pb_lexer.specs.Tokens.{Lexeme, Fixed, Token}

-- how many are open after a token: it opens one more, closes one if there is one, or does neither
abbrev pub open_after : ℕ → Lexeme → ℕ
open_after n (Fixed mark.Open) = n + 1
open_after n (Fixed mark.Begin) = n + 1
open_after n (Fixed mark.If) = n + 1
open_after n (Fixed mark.While) = n + 1
open_after n (Fixed mark.Hold) = n + 1
open_after n (Fixed mark.Parbegin) = n + 1
open_after n (Fixed mark.Close) = n - 1
open_after n (Fixed mark.End) = n - 1
open_after n (Fixed mark.Fi) = n - 1
open_after n (Fixed mark.Od) = n - 1
open_after n (Fixed mark.Parend) = n - 1
open_after n _ = n

-- how many are open after some tokens
abbrev pub open_behind : List Token → ℕ
open_behind ts = fold (λ n t. open_after n t.lexeme) 0 ts

-- somewhere more than 256 are open
abbrev pub OpensTooMany : List Token → Type 0
OpensTooMany ts = (before after : List Token) × (ts ≡ before ++ after) × (MAX_OPEN < open_behind before)

-- `-` and `not`
abbrev pub is_sign : Lexeme → Bool
is_sign (Fixed mark.Minus) = true
is_sign (Fixed mark.Not) = true
is_sign _ = false

-- each token is `-` or `not`
abbrev pub AreSigns : List Token → Type 0
AreSigns [] = Unit {0}
AreSigns (t ∷ ts) = (is_sign t.lexeme ≡ true) × AreSigns ts

-- somewhere more than 256 signs are in a row
abbrev pub SignsTooMany : List Token → Type 0
SignsTooMany ts = (before signs after : List Token)
    × (ts ≡ before ++ (signs ++ after)) × (AreSigns signs) × (MAX_SIGNS < length signs)

-- too deep, whatever the grammar says
abbrev pub NestsTooDeep : List Token → Type 0
NestsTooDeep ts = OpensTooMany ts ⊎ SignsTooMany ts
