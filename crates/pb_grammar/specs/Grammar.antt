-- The grammar of expressions: which expression some tokens at the front of a list are, and which tokens
-- follow them. A reader must believe these productions: chains of `or`, `and`, `+`, `-`, `*`, `div` and
-- `mod` group to the left, and at most one relation joins two sums.
use Rattle.std.specs.Prelude.{◌≡◌, ℕ, ℤ, List, ◌∷◌, Option, Some, None}
use Rattle.pb_base.specs.declared.operators.UnaryOp.TheVariants as sign
use Rattle.pb_base.specs.declared.operators.BinaryOp.{BinaryOp}
use Rattle.pb_base.specs.declared.operators.BinaryOp.TheVariants as binary
use Rattle.pb_lexer.specs.declared.token.Mark.{Mark}
use Rattle.pb_lexer.specs.declared.token.Mark.TheVariants as mark
use Rattle.pb_lexer.specs.Tokens.{Lexeme, Name, Number, Fixed, Token}
use Rattle.pb_tree.specs.Syntax as tree
use Rattle.pb_grammar.specs.declared.level.Level.{Level}
use Rattle.pb_grammar.specs.declared.level.Level.TheVariants as level

-- the token is the symbol or reserved word
abbrev pub Is : Token → Mark → Type 0
Is t m = t.lexeme ≡ Fixed m

-- a token's name, with its offset
abbrev pub name_at : Token → List ℕ → tree.NameSyntax
name_at t x = record { text = x; at = t.start }

-- a token's number, with its offset
abbrev pub number_at : Token → ℤ → tree.NumberSyntax
number_at t n = record { value = n; at = t.start }

-- the next tighter level
abbrev pub tighter : Level → Level
tighter level.Disjunction = level.Conjunction
tighter level.Conjunction = level.Negation
tighter level.Negation = level.Comparison
tighter level.Comparison = level.Sum
tighter level.Sum = level.Term
tighter level.Term = level.Factor
tighter level.Factor = level.Factor

-- the binary operators of a level
abbrev pub operator : Level → Lexeme → Option BinaryOp
operator level.Disjunction (Fixed mark.Or) = Some binary.Or
operator level.Conjunction (Fixed mark.And) = Some binary.And
operator level.Comparison (Fixed mark.Equal) = Some binary.Equal
operator level.Comparison (Fixed mark.NotEqual) = Some binary.Unequal
operator level.Comparison (Fixed mark.Less) = Some binary.Less
operator level.Comparison (Fixed mark.AtMost) = Some binary.AtMost
operator level.Comparison (Fixed mark.Greater) = Some binary.Greater
operator level.Comparison (Fixed mark.AtLeast) = Some binary.AtLeast
operator level.Sum (Fixed mark.Plus) = Some binary.Add
operator level.Sum (Fixed mark.Minus) = Some binary.Subtract
operator level.Term (Fixed mark.Star) = Some binary.Multiply
operator level.Term (Fixed mark.Div) = Some binary.Quotient
operator level.Term (Fixed mark.Mod) = Some binary.Remainder
operator _ _ = None

-- the levels whose operators chain, to the left; relations do not
pub data Chains : Level → Type 0 where
  disjunctions : Chains level.Disjunction
  conjunctions : Chains level.Conjunction
  sums : Chains level.Sum
  terms : Chains level.Term

-- `Reads l ts e rest`: some tokens at the front of `ts` are the expression `e` of level `l`, and `rest`
-- follows them.
pub data Reads : Level → List Token → tree.ExprSyntax → List Token → Type 0 where
  -- an expression of a level is one of the next tighter level
  tight : {l : Level} {ts rest : List Token} {e : tree.ExprSyntax}
      → Reads (tighter l) ts e rest → Reads l ts e rest
  -- or a shorter chain, an operator of the level and a tighter expression
  chain : {l : Level} {ts mid rest : List Token} {t : Token} {op : BinaryOp} {a b : tree.ExprSyntax}
      → Chains l → operator l t.lexeme ≡ Some op
      → Reads l ts a (t ∷ mid) → Reads (tighter l) mid b rest → Reads l ts (tree.binary op a b) rest
  -- neg = "not" neg
  negation : {ts rest : List Token} {t : Token} {e : tree.ExprSyntax} → Is t mark.Not
      → Reads level.Negation ts e rest → Reads level.Negation (t ∷ ts) (tree.unary sign.Not e) rest
  -- cmp = sum rel sum
  comparison : {ts mid rest : List Token} {t : Token} {op : BinaryOp} {a b : tree.ExprSyntax}
      → operator level.Comparison t.lexeme ≡ Some op
      → Reads level.Sum ts a (t ∷ mid) → Reads level.Sum mid b rest
      → Reads level.Comparison ts (tree.binary op a b) rest
  -- factor = "-" factor | number | name | "(" expr ")"
  minus : {ts rest : List Token} {t : Token} {e : tree.ExprSyntax} → Is t mark.Minus
      → Reads level.Factor ts e rest → Reads level.Factor (t ∷ ts) (tree.unary sign.Negate e) rest
  number : {rest : List Token} {t : Token} {n : ℤ} → t.lexeme ≡ Number n
      → Reads level.Factor (t ∷ rest) (tree.number (number_at t n)) rest
  variable : {rest : List Token} {t : Token} {x : List ℕ} → t.lexeme ≡ Name x
      → Reads level.Factor (t ∷ rest) (tree.variable (name_at t x)) rest
  group : {ts rest : List Token} {t u : Token} {e : tree.ExprSyntax} → Is t mark.Open → Is u mark.Close
      → Reads level.Disjunction ts e (u ∷ rest) → Reads level.Factor (t ∷ ts) e rest
