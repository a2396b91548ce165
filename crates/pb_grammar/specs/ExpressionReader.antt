-- The reading of expressions as a function, with `inner` for those in brackets.
-- Of the public contracts only that of `read` cites this file.
use Rattle.std.specs.Prelude.{ℕ, zero, suc, Bool, true, false, List, [], ◌∷◌, Option, Some, None}
use Rattle.pb_base.specs.declared.operators.UnaryOp.{UnaryOp}
use Rattle.pb_base.specs.declared.operators.UnaryOp.TheVariants as sign
use Rattle.pb_base.specs.declared.operators.BinaryOp.{BinaryOp}
use Rattle.pb_lexer.specs.declared.token.Mark.{Mark}
use Rattle.pb_lexer.specs.declared.token.Mark.TheVariants as mark
use Rattle.pb_lexer.specs.Tokens.{Lexeme, Name, Number, Fixed, Token}
use Rattle.pb_tree.specs.Syntax as tree
use Rattle.pb_tree.specs.Syntax.{ExprSyntax}
use Rattle.pb_grammar.specs.declared.level.Level.{Level}
use Rattle.pb_grammar.specs.declared.level.Level.TheVariants as level
use Rattle.pb_grammar.specs.Grammar.{operator, name_at, number_at}
use Rattle.pb_grammar.specs.Reader.{Answer, Refused, Found, Part, Join, and_then, is_mark, expect, chain, more}

-- how a binary operator joins two expressions, if there is one
abbrev pub joined_by : Option BinaryOp → Option (ExprSyntax → ExprSyntax → ExprSyntax)
joined_by None = None
joined_by (Some op) = Some (tree.binary op)

-- how the operators of a level join
unfoldable pub joins : Level → Join ExprSyntax
joins l k = joined_by (operator l k)

-- a number, a name or an expression in brackets, by its first token t
abbrev pub primary_by : Part ExprSyntax → Token → Lexeme → Part ExprSyntax
primary_by inner t (Number n) ts = Found (tree.number (number_at t n)) ts
primary_by inner t (Name x) ts = Found (tree.variable (name_at t x)) ts
primary_by inner t (Fixed mark.Open) ts =
    and_then (inner ts) (λ e rest. and_then (expect mark.Close rest) (λ _ after. Found e after))
primary_by inner t (Fixed _) ts = Refused

-- a number, a name or an expression in brackets
unfoldable pub primary : Part ExprSyntax → Part ExprSyntax
primary inner [] = Refused
primary inner (t ∷ ts) = primary_by inner t t.lexeme ts

-- the operator before what was read below it, if the first token is that operator; else the other
abbrev pub signed_by : Bool → UnaryOp → Answer ExprSyntax → Answer ExprSyntax → Answer ExprSyntax
signed_by true op below other = and_then below (λ e rest. Found (tree.unary op e) rest)
signed_by false op below other = other

-- any number of prefix operators, and what `part` reads
unfoldable pub signed : Mark → UnaryOp → Part ExprSyntax → Part ExprSyntax
signed m op part [] = part []
signed m op part (t ∷ ts) = signed_by (is_mark m t.lexeme) op (signed m op part ts) (part (t ∷ ts))

-- factor = "-" factor | number | name | "(" expr ")"
unfoldable pub factor : Part ExprSyntax → Part ExprSyntax
factor inner = signed mark.Minus sign.Negate (primary inner)

-- term = factor { ("*" | "div" | "mod") factor }
unfoldable pub term : Part ExprSyntax → Part ExprSyntax
term inner = chain (joins level.Term) (factor inner)

-- sum = term { ("+" | "-") term }
unfoldable pub sum : Part ExprSyntax → Part ExprSyntax
sum inner = chain (joins level.Sum) (term inner)

-- `a` and what it is compared with, if a relation comes next; else `a` alone
abbrev pub related_by : Part ExprSyntax → ExprSyntax → List Token
    → Option (ExprSyntax → ExprSyntax → ExprSyntax) → List Token → Answer ExprSyntax
related_by part a all None ts = Found a all
related_by part a all (Some f) ts = and_then (part ts) (λ b rest. Found (f a b) rest)

-- at most one relation after `a`
unfoldable pub related : Part ExprSyntax → ExprSyntax → Part ExprSyntax
related part a [] = Found a []
related part a (t ∷ ts) = related_by part a (t ∷ ts) (joins level.Comparison t.lexeme) ts

-- cmp = sum [ rel sum ]
unfoldable pub comparison : Part ExprSyntax → Part ExprSyntax
comparison inner ts = and_then (sum inner ts) (related (sum inner))

-- neg = "not" neg | cmp
unfoldable pub negation : Part ExprSyntax → Part ExprSyntax
negation inner = signed mark.Not sign.Not (comparison inner)

-- conj = neg { "and" neg }
unfoldable pub conjunction : Part ExprSyntax → Part ExprSyntax
conjunction inner = chain (joins level.Conjunction) (negation inner)

-- expr = conj { "or" conj }
unfoldable pub disjunction : Part ExprSyntax → Part ExprSyntax
disjunction inner = chain (joins level.Disjunction) (conjunction inner)

-- an expression of a level
abbrev pub of_level : Part ExprSyntax → Level → Part ExprSyntax
of_level inner level.Disjunction = disjunction inner
of_level inner level.Conjunction = conjunction inner
of_level inner level.Negation = negation inner
of_level inner level.Comparison = comparison inner
of_level inner level.Sum = sum inner
of_level inner level.Term = term inner
of_level inner level.Factor = factor inner

-- `a` joined by the operator with what is returned
abbrev pub joined : BinaryOp → ExprSyntax → Answer ExprSyntax → Answer ExprSyntax
joined op a answer = and_then answer (λ b rest. Found (tree.binary op a b) rest)

-- the rest of a term after its first factor, and of a sum after its first term
abbrev pub factors : Part ExprSyntax → ExprSyntax → Part ExprSyntax
factors inner a ts = more (joins level.Term) (factor inner) a ts

abbrev pub terms : Part ExprSyntax → ExprSyntax → Part ExprSyntax
terms inner a ts = more (joins level.Sum) (term inner) a ts

-- the rest of a conjunction after its first negation, and of a disjunction after its first conjunction
abbrev pub negations : Part ExprSyntax → ExprSyntax → Part ExprSyntax
negations inner a ts = more (joins level.Conjunction) (negation inner) a ts

abbrev pub conjunctions : Part ExprSyntax → ExprSyntax → Part ExprSyntax
conjunctions inner a ts = more (joins level.Disjunction) (conjunction inner) a ts

-- the rest of a comparison after its first sum
unfoldable pub after_sum : Part ExprSyntax → Level → ExprSyntax → Part ExprSyntax
after_sum inner level.Comparison a ts = related (sum inner) a ts
after_sum inner _ a ts = Found a ts

-- the rest of a comparison or sum after its first term
unfoldable pub after_term : Part ExprSyntax → Level → ExprSyntax → Part ExprSyntax
after_term inner level.Sum a ts = and_then (terms inner a ts) (after_sum inner level.Sum)
after_term inner level.Comparison a ts = and_then (terms inner a ts) (after_sum inner level.Comparison)
after_term inner _ a ts = Found a ts

-- the rest of a comparison, sum or term after its first factor
unfoldable pub after_factor : Part ExprSyntax → Level → ExprSyntax → Part ExprSyntax
after_factor inner level.Term a ts = and_then (factors inner a ts) (after_term inner level.Term)
after_factor inner level.Sum a ts = and_then (factors inner a ts) (after_term inner level.Sum)
after_factor inner level.Comparison a ts = and_then (factors inner a ts) (after_term inner level.Comparison)
after_factor inner _ a ts = Found a ts

-- the rest of a disjunction after its first conjunction
unfoldable pub after_conjunction : Part ExprSyntax → Level → ExprSyntax → Part ExprSyntax
after_conjunction inner level.Disjunction a ts = conjunctions inner a ts
after_conjunction inner _ a ts = Found a ts

-- the rest of a disjunction or conjunction after its first negation
unfoldable pub after_negation : Part ExprSyntax → Level → ExprSyntax → Part ExprSyntax
after_negation inner level.Conjunction a ts = and_then (negations inner a ts) (after_conjunction inner level.Conjunction)
after_negation inner level.Disjunction a ts = and_then (negations inner a ts) (after_conjunction inner level.Disjunction)
after_negation inner _ a ts = Found a ts

-- whether a lexeme is a binary operator
abbrev pub is_operator : Lexeme → Bool
is_operator (Fixed mark.Or) = true
is_operator (Fixed mark.And) = true
is_operator (Fixed mark.Equal) = true
is_operator (Fixed mark.NotEqual) = true
is_operator (Fixed mark.Less) = true
is_operator (Fixed mark.AtMost) = true
is_operator (Fixed mark.Greater) = true
is_operator (Fixed mark.AtLeast) = true
is_operator (Fixed mark.Plus) = true
is_operator (Fixed mark.Minus) = true
is_operator (Fixed mark.Star) = true
is_operator (Fixed mark.Div) = true
is_operator (Fixed mark.Mod) = true
is_operator _ = false

-- whether a binary operator comes next
abbrev pub begins_operator : List Token → Bool
begins_operator [] = false
begins_operator (t ∷ ts) = is_operator t.lexeme

-- an expression with fewer than `depth` open brackets
unfoldable pub expression : ℕ → Part ExprSyntax
expression zero ts = Refused
expression (suc depth) ts = disjunction (expression depth) ts

-- what was read after n more prefix operators
abbrev pub signs : ℕ → UnaryOp → Answer ExprSyntax → Answer ExprSyntax
signs zero op answer = answer
signs (suc n) op answer = signs n op (and_then answer (λ e rest. Found (tree.unary op e) rest))

-- how loose a level is, from 0
abbrev pub looseness : Level → ℕ
looseness level.Disjunction = 6
looseness level.Conjunction = 5
looseness level.Negation = 4
looseness level.Comparison = 3
looseness level.Sum = 2
looseness level.Term = 1
looseness level.Factor = 0
