-- What the reading of expressions gives is what the grammar reads, and nothing else.
use Rattle.std.proofs.Common.{◌≡◌, ℕ, ℤ, zero, suc, ◌+◌, max, ◌≤◌, ◌<◌, List, [], ◌∷◌, length, Option, Some, None}
use Rattle.std.proofs.Common.{Bool, true, false, refl, sym, ◌∙◌, subst, inl, inr, arith}
use Rattle.pb_lexer.specs.declared.token.Mark.{Mark}
use Rattle.pb_lexer.specs.declared.token.Mark.TheVariants as mark
use Rattle.pb_base.specs.declared.operators.UnaryOp.{UnaryOp}
use Rattle.pb_base.specs.declared.operators.UnaryOp.TheVariants as sign
use Rattle.pb_base.specs.declared.operators.BinaryOp.{BinaryOp}
use Rattle.pb_base.proofs.Cases.{bool_cases}
use Rattle.pb_grammar.specs.declared.level.Level.{Level}
use Rattle.pb_grammar.specs.declared.level.Level.TheVariants as level
use Rattle.pb_lexer.specs.Tokens.{Lexeme, Name, Number, Fixed, Token}
use Rattle.pb_tree.specs.Syntax as tree
use Rattle.pb_grammar.specs.Grammar as g
use Rattle.pb_grammar.specs.Reader.{Refused, Found, Part, Stops, is_mark, expect, chain_from, chain}
use Rattle.pb_grammar.specs.ExpressionReader.{joined_by, primary_by, related_by, signed_by, signed, primary, joins}
use Rattle.pb_grammar.specs.ExpressionReader.{factor, term, sum, related, comparison, negation, conjunction}
use Rattle.pb_grammar.specs.ExpressionReader.{disjunction, of_level, expression}
use Rattle.pb_grammar.proofs.Marks.{mark_is, is_mark_same, expected}
use Rattle.pb_grammar.proofs.Chains.{chain_stops, chain_turns, chain_begins, found_value, found_rest, goes_on}
use Rattle.pb_grammar.proofs.Chains.{chain_keeps}
use Rattle.pb_tree.specs.Syntax.{ExprSyntax}
use Rattle.pb_grammar.specs.Grammar.{name_at, number_at, Reads, Chains, operator, tighter}

-- ---- operators

abbrev pub rank : Level → ℕ
rank level.Disjunction = 1
rank level.Conjunction = 2
rank level.Negation = 3
rank level.Comparison = 4
rank level.Sum = 5
rank level.Term = 6
rank level.Factor = 7

-- the rank of the level whose operator it is
abbrev pub home : Lexeme → ℕ
home (Fixed mark.Or) = 1
home (Fixed mark.And) = 2
home (Fixed mark.Equal) = 4
home (Fixed mark.NotEqual) = 4
home (Fixed mark.Less) = 4
home (Fixed mark.AtMost) = 4
home (Fixed mark.Greater) = 4
home (Fixed mark.AtLeast) = 4
home (Fixed mark.Plus) = 5
home (Fixed mark.Minus) = 5
home (Fixed mark.Star) = 6
home (Fixed mark.Div) = 6
home (Fixed mark.Mod) = 6
home _ = 0

pub home_is : (l : Level) (k : Lexeme) (op : BinaryOp) → operator l k ≡ Some op → home k ≡ rank l
home_is level.Disjunction (Fixed mark.Or) op e = refl
home_is level.Conjunction (Fixed mark.And) op e = refl
home_is level.Comparison (Fixed mark.Equal) op e = refl
home_is level.Comparison (Fixed mark.NotEqual) op e = refl
home_is level.Comparison (Fixed mark.Less) op e = refl
home_is level.Comparison (Fixed mark.AtMost) op e = refl
home_is level.Comparison (Fixed mark.Greater) op e = refl
home_is level.Comparison (Fixed mark.AtLeast) op e = refl
home_is level.Sum (Fixed mark.Plus) op e = refl
home_is level.Sum (Fixed mark.Minus) op e = refl
home_is level.Term (Fixed mark.Star) op e = refl
home_is level.Term (Fixed mark.Div) op e = refl
home_is level.Term (Fixed mark.Mod) op e = refl
home_is _ _ op e = cc

elsewhere : (l : Level) (k : Lexeme) → (home k ≡ rank l → ⊥) → operator l k ≡ None
elsewhere level.Disjunction (Fixed mark.Or) h = absurd (h refl)
elsewhere level.Conjunction (Fixed mark.And) h = absurd (h refl)
elsewhere level.Comparison (Fixed mark.Equal) h = absurd (h refl)
elsewhere level.Comparison (Fixed mark.NotEqual) h = absurd (h refl)
elsewhere level.Comparison (Fixed mark.Less) h = absurd (h refl)
elsewhere level.Comparison (Fixed mark.AtMost) h = absurd (h refl)
elsewhere level.Comparison (Fixed mark.Greater) h = absurd (h refl)
elsewhere level.Comparison (Fixed mark.AtLeast) h = absurd (h refl)
elsewhere level.Sum (Fixed mark.Plus) h = absurd (h refl)
elsewhere level.Sum (Fixed mark.Minus) h = absurd (h refl)
elsewhere level.Term (Fixed mark.Star) h = absurd (h refl)
elsewhere level.Term (Fixed mark.Div) h = absurd (h refl)
elsewhere level.Term (Fixed mark.Mod) h = absurd (h refl)
elsewhere _ _ h = refl

-- ---- where an expression ends: no operator of its level or a tighter one comes next

abbrev pub EndsAt : Level → Lexeme → Type 0
EndsAt l k = (m : Level) → rank l ≤ rank m → operator m k ≡ None

abbrev pub Ends : Level → List Token → Type 0
Ends l [] = Unit {0}
Ends l (t ∷ ts) = EndsAt l t.lexeme

ends_looser : (l m : Level) → rank l ≤ rank m → (rest : List Token) → Ends l rest → Ends m rest
ends_looser l m h [] e = tt
ends_looser l m h (t ∷ ts) e = λ k below. e k (omega arith)

-- an operator of a level ends all tighter expressions
ends_operator : (l m : Level) (k : Lexeme) (op : BinaryOp) → operator l k ≡ Some op → rank l < rank m → EndsAt m k
ends_operator l m k op e h = λ n below. let at = home_is l k op e in elsewhere n k (λ same. omega arith)

-- ---- an expression takes at least a token

pub shorter : {l : Level} {ts rest : List Token} {e : ExprSyntax} → Reads l ts e rest → length rest < length ts
shorter (g.tight r) = shorter r
shorter (g.chain c op a b) = let x = shorter a in let y = shorter b in omega arith
shorter (g.negation is r) = let x = shorter r in omega arith
shorter (g.comparison op a b) = let x = shorter a in let y = shorter b in omega arith
shorter (g.minus is r) = let x = shorter r in omega arith
shorter (g.number is) = omega arith
shorter (g.variable is) = omega arith
shorter (g.group is to r) = let x = shorter r in omega arith

-- ---- how deep an expression nests

-- how many brackets of an expression are inside one another
abbrev pub brackets : {l : Level} {ts rest : List Token} {e : ExprSyntax} → Reads l ts e rest → ℕ
brackets (g.tight r) = brackets r
brackets (g.chain c op a b) = max (brackets a) (brackets b)
brackets (g.negation is r) = brackets r
brackets (g.comparison op a b) = max (brackets a) (brackets b)
brackets (g.minus is r) = brackets r
brackets (g.number is) = 0
brackets (g.variable is) = 0
brackets (g.group is to r) = 1 + brackets r

-- ---- what the grammar reads, the function reads

pub rank_pos : (l : Level) → 0 < rank l
rank_pos level.Disjunction = omega arith
rank_pos level.Conjunction = omega arith
rank_pos level.Negation = omega arith
rank_pos level.Comparison = omega arith
rank_pos level.Sum = omega arith
rank_pos level.Term = omega arith
rank_pos level.Factor = omega arith

-- a symbol or word that is not an operator ends every expression
pub ends_mark : (l : Level) (t : Token) (k : Lexeme) (ts : List Token) → t.lexeme ≡ k → home k ≡ 0 → Ends l (t ∷ ts)
ends_mark l t k ts is none = λ m below. rw is (elsewhere m k (λ same. let p = rank_pos m in omega arith))

joins_none : (l : Level) (k : Lexeme) → operator l k ≡ None → joins l k ≡ None
unfolding joins
joins_none l k e = rw e refl

joins_some : (l : Level) (k : Lexeme) (op : BinaryOp) → operator l k ≡ Some op → joins l k ≡ Some (tree.binary op)
unfolding joins
joins_some l k op e = rw e refl

pub stops : (l : Level) (rest : List Token) → Ends l rest → Stops (joins l) rest
stops l [] h = tt
stops l (t ∷ ts) h = joins_none l t.lexeme (h l (omega arith))

-- the level at which the parts of a chain end, and else the level itself
abbrev within : Level → Level
within level.Disjunction = level.Conjunction
within level.Conjunction = level.Negation
within level.Sum = level.Term
within level.Term = level.Factor
within level.Negation = level.Negation
within level.Comparison = level.Comparison
within level.Factor = level.Factor

rank_within : (l : Level) → rank l ≤ rank (within l)
rank_within level.Disjunction = omega arith
rank_within level.Conjunction = omega arith
rank_within level.Negation = omega arith
rank_within level.Comparison = omega arith
rank_within level.Sum = omega arith
rank_within level.Term = omega arith
rank_within level.Factor = omega arith

within_tighter : (l : Level) → rank (within l) ≤ rank (tighter l)
within_tighter level.Disjunction = omega arith
within_tighter level.Conjunction = omega arith
within_tighter level.Negation = omega arith
within_tighter level.Comparison = omega arith
within_tighter level.Sum = omega arith
within_tighter level.Term = omega arith
within_tighter level.Factor = omega arith

chains_within : {l : Level} → Chains l → (rest : List Token) → Ends (within l) rest → Ends (tighter l) rest
chains_within g.disjunctions rest h = h
chains_within g.conjunctions rest h = h
chains_within g.sums rest h = h
chains_within g.terms rest h = h

-- what is still to come of a chain after `e`
after : ℕ → Level → ℕ → ExprSyntax → Part ExprSyntax
after d level.Disjunction n e rest = chain_from (joins level.Disjunction) (conjunction (expression d)) n e rest
after d level.Conjunction n e rest = chain_from (joins level.Conjunction) (negation (expression d)) n e rest
after d level.Sum n e rest = chain_from (joins level.Sum) (term (expression d)) n e rest
after d level.Term n e rest = chain_from (joins level.Term) (factor (expression d)) n e rest
after d level.Negation n e rest = Found e rest
after d level.Comparison n e rest = Found e rest
after d level.Factor n e rest = Found e rest

finish : (l : Level) (d n : ℕ) (e : ExprSyntax) (rest : List Token) → Ends l rest → length rest ≤ n → after d l n e rest ≡ Found e rest
unfolding after
finish level.Disjunction d n e rest h room = chain_stops _ _ n e rest (stops level.Disjunction rest h) room
finish level.Conjunction d n e rest h room = chain_stops _ _ n e rest (stops level.Conjunction rest h) room
finish level.Sum d n e rest h room = chain_stops _ _ n e rest (stops level.Sum rest h) room
finish level.Term d n e rest h room = chain_stops _ _ n e rest (stops level.Term rest h) room
finish level.Negation d n e rest h room = refl
finish level.Comparison d n e rest h room = refl
finish level.Factor d n e rest h room = refl

turn : {l : Level} → Chains l → (d n : ℕ) (a b : ExprSyntax) (op : BinaryOp) (t : Token) (mid rest : List Token)
    → operator l t.lexeme ≡ Some op
    → of_level (expression d) (tighter l) mid ≡ Found b rest → after d l (suc n) a (t ∷ mid) ≡ after d l n (tree.binary op a b) rest
unfolding after
turn g.disjunctions d n a b op t mid rest e p = chain_turns _ _ n a b (tree.binary op) t mid rest (joins_some level.Disjunction t.lexeme op e) p
turn g.conjunctions d n a b op t mid rest e p = chain_turns _ _ n a b (tree.binary op) t mid rest (joins_some level.Conjunction t.lexeme op e) p
turn g.sums d n a b op t mid rest e p = chain_turns _ _ n a b (tree.binary op) t mid rest (joins_some level.Sum t.lexeme op e) p
turn g.terms d n a b op t mid rest e p = chain_turns _ _ n a b (tree.binary op) t mid rest (joins_some level.Term t.lexeme op e) p

-- no comparison begins with `not`
primary_not : (inner : Part ExprSyntax) (t : Token) (ts : List Token) → t.lexeme ≡ Fixed mark.Not → primary inner (t ∷ ts) ≡ Refused
unfolding primary
primary_not inner t ts h = rw h refl

no_not : (inner : Part ExprSyntax) (t : Token) (ts : List Token) → is_mark mark.Not t.lexeme ≡ true → comparison inner (t ∷ ts) ≡ Refused
unfolding comparison sum term factor signed chain is_mark
no_not inner t ts h =
    let k = mark_is mark.Not t.lexeme h in
    let e = primary_not inner t ts k in
    let other : is_mark mark.Minus t.lexeme ≡ false = rw k refl in
    rw (other, e) refl

signed_other : (m : Mark) (op : UnaryOp) (part : Part ExprSyntax) (ts rest : List Token) (e : ExprSyntax) → part ts ≡ Found e rest
    → ((t : Token) (us : List Token) → is_mark m t.lexeme ≡ true → part (t ∷ us) ≡ Refused) → signed m op part ts ≡ Found e rest
unfolding signed
signed_other m op part [] rest e p none = p
signed_other m op part (t ∷ ts) rest e p none = elim (bool_cases (is_mark m t.lexeme)) [
  | inl is ↦ absurd (let n = none t ts is in cc)
  | inr other ↦ rw other p
]

signed_read : (m : Mark) (op : UnaryOp) (part : Part ExprSyntax) (t : Token) (ts rest : List Token) (e : ExprSyntax)
    → t.lexeme ≡ Fixed m → signed m op part ts ≡ Found e rest
    → signed m op part (t ∷ ts) ≡ Found (tree.unary op e) rest
unfolding signed
signed_read m op part t ts rest e is p = let x = is_mark_same m t.lexeme is in rw (x, p) refl

no_minus : (inner : Part ExprSyntax) (t : Token) (ts : List Token) → is_mark mark.Minus t.lexeme ≡ true → primary inner (t ∷ ts) ≡ Refused
unfolding primary
no_minus inner t ts h = rw (mark_is mark.Minus t.lexeme h) refl

primary_read : (inner : Part ExprSyntax) (ts rest : List Token) (e : ExprSyntax) → primary inner ts ≡ Found e rest
    → factor inner ts ≡ Found e rest
unfolding factor
primary_read inner ts rest e p = signed_other mark.Minus sign.Negate (primary inner) ts rest e p (no_minus inner)

negation_other : (inner : Part ExprSyntax) (ts rest : List Token) (e : ExprSyntax) → comparison inner ts ≡ Found e rest
    → negation inner ts ≡ Found e rest
unfolding negation
negation_other inner ts rest e p = signed_other mark.Not sign.Not (comparison inner) ts rest e p (no_not inner)

pub related_none : (part : Part ExprSyntax) (a : ExprSyntax) (rest : List Token) → Ends level.Comparison rest
    → related part a rest ≡ Found a rest
unfolding related
related_none part a [] h = refl
related_none part a (t ∷ ts) h = let e = joins_none level.Comparison t.lexeme (h level.Comparison (omega arith)) in rw e refl

related_some : (part : Part ExprSyntax) (a b : ExprSyntax) (op : BinaryOp) (t : Token) (ts rest : List Token)
    → operator level.Comparison t.lexeme ≡ Some op
    → part ts ≡ Found b rest → related part a (t ∷ ts) ≡ Found (tree.binary op a b) rest
unfolding related
related_some part a b op t ts rest e p = let j = joins_some level.Comparison t.lexeme op e in rw (j, p) refl

lift : (l : Level) (d : ℕ) (ts rest : List Token) (e : ExprSyntax) → of_level (expression d) (tighter l) ts ≡ Found e rest
    → Ends (within l) rest
    → of_level (expression d) l ts ≡ after d l (length rest) e rest
unfolding after disjunction conjunction sum term comparison
lift level.Disjunction d ts rest e p h = chain_begins _ _ e ts rest p
lift level.Conjunction d ts rest e p h = chain_begins _ _ e ts rest p
lift level.Sum d ts rest e p h = chain_begins _ _ e ts rest p
lift level.Term d ts rest e p h = chain_begins _ _ e ts rest p
lift level.Negation d ts rest e p h = negation_other (expression d) ts rest e p
lift level.Comparison d ts rest e p h = rw p (related_none (sum (expression d)) e rest h)
lift level.Factor d ts rest e p h = p

-- an operator of a level ends the parts of its chains
ends_part : {l : Level} → Chains l → (t : Token) (op : BinaryOp) (mid : List Token) → operator l t.lexeme ≡ Some op
    → Ends (within l) (t ∷ mid)
ends_part g.disjunctions t op mid e = ends_operator level.Disjunction level.Conjunction t.lexeme op e (omega arith)
ends_part g.conjunctions t op mid e = ends_operator level.Conjunction level.Negation t.lexeme op e (omega arith)
ends_part g.sums t op mid e = ends_operator level.Sum level.Term t.lexeme op e (omega arith)
ends_part g.terms t op mid e = ends_operator level.Term level.Factor t.lexeme op e (omega arith)

-- `of_level` comes to `e` and `rest`
abbrev Comes : ℕ → Level → List Token → ExprSyntax → List Token → Type 0
Comes d l ts e rest = (n : ℕ) × (length rest ≤ n) × (of_level (expression d) l ts ≡ after d l n e rest)

settle : (l : Level) (d : ℕ) (ts rest : List Token) (e : ExprSyntax) → Comes d l ts e rest → Ends l rest
    → of_level (expression d) l ts ≡ Found e rest
settle l d ts rest e x ends = x.2 ∙ finish l d x.0 e rest ends x.1

-- what was read is all, if a level gives nothing to come
at_once : (l : Level) (d : ℕ) (ts rest : List Token) (e : ExprSyntax) → of_level (expression d) l ts ≡ after d l (length rest) e rest
    → Comes d l ts e rest
at_once l d ts rest e p = (length rest, omega arith, p)

more : {l : Level} (c : Chains l) (d n : ℕ) (a b : ExprSyntax) (op : BinaryOp) (t : Token) (ts mid rest : List Token)
    → operator l t.lexeme ≡ Some op
    → length (t ∷ mid) ≤ n → of_level (expression d) l ts ≡ after d l n a (t ∷ mid)
    → of_level (expression d) (tighter l) mid ≡ Found b rest → length rest < length mid → Comes d l ts (tree.binary op a b) rest
more c d zero a b op t ts mid rest e room x p less = absurd (omega arith)
more c d (suc n) a b op t ts mid rest e room x p less = (n, omega arith, x ∙ turn c d n a b op t mid rest e p)

minus_read : (inner : Part ExprSyntax) (t : Token) (ts rest : List Token) (e : ExprSyntax) → t.lexeme ≡ Fixed mark.Minus
    → factor inner ts ≡ Found e rest
    → factor inner (t ∷ ts) ≡ Found (tree.unary sign.Negate e) rest
unfolding factor
minus_read inner t ts rest e is p = signed_read mark.Minus sign.Negate (primary inner) t ts rest e is p

negation_read : (inner : Part ExprSyntax) (t : Token) (ts rest : List Token) (e : ExprSyntax) → t.lexeme ≡ Fixed mark.Not
    → negation inner ts ≡ Found e rest
    → negation inner (t ∷ ts) ≡ Found (tree.unary sign.Not e) rest
unfolding negation
negation_read inner t ts rest e is p = signed_read mark.Not sign.Not (comparison inner) t ts rest e is p

number_read : (inner : Part ExprSyntax) (t : Token) (ts : List Token) (n : ℤ) → t.lexeme ≡ Number n
    → primary inner (t ∷ ts) ≡ Found (tree.number (number_at t n)) ts
unfolding primary
number_read inner t ts n is = rw is refl

variable_read : (inner : Part ExprSyntax) (t : Token) (ts : List Token) (x : List ℕ) → t.lexeme ≡ Name x
    → primary inner (t ∷ ts) ≡ Found (tree.variable (name_at t x)) ts
unfolding primary
variable_read inner t ts x is = rw is refl

group_read : (inner : Part ExprSyntax) (t u : Token) (ts rest : List Token) (e : ExprSyntax) → t.lexeme ≡ Fixed mark.Open
    → u.lexeme ≡ Fixed mark.Close
    → inner ts ≡ Found e (u ∷ rest) → primary inner (t ∷ ts) ≡ Found e rest
unfolding primary
group_read inner t u ts rest e is to p = let x = is_mark_same mark.Close u.lexeme to in rw (is, p, x) refl

comparison_read : (inner : Part ExprSyntax) (op : BinaryOp) (t : Token) (ts mid rest : List Token) (a b : ExprSyntax)
    → operator level.Comparison t.lexeme ≡ Some op
    → sum inner ts ≡ Found a (t ∷ mid) → sum inner mid ≡ Found b rest → comparison inner ts ≡ Found (tree.binary op a b) rest
unfolding comparison
comparison_read inner op t ts mid rest a b e p q = rw p (related_some (sum inner) a b op t mid rest e q)

opens : (d : ℕ) (ts : List Token) → expression (suc d) ts ≡ of_level (expression d) level.Disjunction ts
unfolding expression
opens d ts = refl

-- The tokens that the grammar reads, up to where the parts of a chain end, are what the function has read
-- when it comes there.
reaches : {l : Level} {ts rest : List Token} {e : ExprSyntax} (r : Reads l ts e rest) → (d : ℕ) → brackets r ≤ d → Ends (within l) rest
    → Comes d l ts e rest
unfolding after
reaches (g.tight {l = l} {ts = ts} {rest = rest} {e = e} r) d room ends =
    let near = ends_looser (within l) (tighter l) (within_tighter l) rest ends in
    let p = settle (tighter l) d ts rest e (reaches r d room (ends_looser (tighter l) (within (tighter l)) (rank_within (tighter l)) rest near)) near in
    at_once l d ts rest e (lift l d ts rest e p ends)
reaches (g.chain {l = l} {ts = ts} {mid = mid} {rest = rest} {t = t} {op = op} {a = a} {b = b} c is left right) d room ends =
    let x = reaches left d (omega arith) (ends_part c t op mid is) in
    let near = chains_within c rest ends in
    let p = settle (tighter l) d mid rest b (reaches right d (omega arith) (ends_looser (tighter l) (within (tighter
    l)) (rank_within (tighter l)) rest near)) near in
    more c d x.0 a b op t ts mid rest is x.1 x.2 p (shorter right)
reaches (g.negation {ts = ts} {rest = rest} {t = t} {e = e} is r) d room ends =
    let p = settle level.Negation d ts rest e (reaches r d (omega arith) ends) ends in
    at_once level.Negation d (t ∷ ts) rest _ (negation_read (expression d) t ts rest e is p)
reaches (g.comparison {ts = ts} {mid = mid} {rest = rest} {t = t} {op = op} {a = a} {b = b} is left right) d room ends =
    let far : Ends level.Sum (t ∷ mid) = ends_operator level.Comparison level.Sum t.lexeme op is (omega arith) in
    let near = ends_looser level.Comparison level.Sum (omega arith) rest ends in
    let p = settle level.Sum d ts (t ∷ mid) a (reaches left d (omega arith) (ends_looser level.Sum level.Term (omega arith) (t ∷ mid) far)) far in
    let q = settle level.Sum d mid rest b (reaches right d (omega arith) (ends_looser level.Sum level.Term (omega arith) rest near)) near in
    at_once level.Comparison d ts rest _ (comparison_read (expression d) op t ts mid rest a b is p q)
reaches (g.minus {ts = ts} {rest = rest} {t = t} {e = e} is r) d room ends =
    let p = settle level.Factor d ts rest e (reaches r d (omega arith) ends) ends in
    at_once level.Factor d (t ∷ ts) rest _ (minus_read (expression d) t ts rest e is p)
reaches (g.number {rest = rest} {t = t} {n = n} is) d room ends = at_once level.Factor d (t ∷ rest) rest _
    (primary_read (expression d) (t ∷ rest) rest _ (number_read (expression d) t rest n is))
reaches (g.variable {rest = rest} {t = t} {x = x} is) d room ends = at_once level.Factor d (t ∷ rest) rest _
    (primary_read (expression d) (t ∷ rest) rest _ (variable_read (expression d) t rest x is))
reaches (g.group is to r) zero room ends = absurd (omega arith)
reaches (g.group {ts = ts} {rest = rest} {t = t} {u = u} {e = e} is to r) (suc d) room ends =
    let near = ends_mark level.Disjunction u (Fixed mark.Close) rest to refl in
    let p = settle level.Disjunction d ts (u ∷ rest) e (reaches r d (omega arith) (ends_looser level.Disjunction
    level.Conjunction (omega arith) (u ∷ rest) near)) near in
    at_once level.Factor (suc d) (t ∷ ts) rest e (primary_read (expression (suc d)) (t ∷ ts) rest e (group_read
    (expression (suc d)) t u ts rest e is to (opens d ts ∙ p)))

-- ---- the laws

pub expression_complete : {ts rest : List Token} {e : ExprSyntax} (r : Reads level.Disjunction ts e rest) → (d : ℕ) → brackets r < d
    → Ends level.Disjunction rest
    → expression d ts ≡ Found e rest
expression_complete r zero room ends = absurd (omega arith)
expression_complete {ts = ts} {rest = rest} {e = e} r (suc d) room ends =
    opens d ts ∙ settle level.Disjunction d ts rest e (reaches r d (omega arith) (ends_looser level.Disjunction level.Conjunction (omega arith) rest ends)) ends

-- ---- what the function reads, the grammar reads

abbrev Sound : Level → Part ExprSyntax → Type 0
Sound l part = (ts rest : List Token) (e : ExprSyntax) → part ts ≡ Found e rest → Reads l ts e rest

joined : (l : Level) (k : Lexeme) (f : ExprSyntax → ExprSyntax → ExprSyntax) → joins l k ≡ Some f
    → (op : BinaryOp) × (operator l k ≡ Some op) × (f ≡ tree.binary op)
unfolding joins
joined l k f e = go (operator l k) refl e
  where
    go : (o : Option BinaryOp) → operator l k ≡ o → joined_by o ≡ Some f → (op : BinaryOp) × (operator l k ≡ Some op) × (f ≡ tree.binary op)
    go None is e = cc
    go (Some op) is e = (op, is, (let x : Some f ≡ Some (tree.binary op) = sym e in cc))

chain_sound : {l : Level} → Chains l → (part : Part ExprSyntax) → Sound (tighter l) part → Sound l (chain (joins l) part)
unfolding chain
chain_sound {l = l} c part sound ts rest e p =
    let x = goes_on (part ts) (λ a mid. chain_from (joins l) part (length mid) a mid) p in
    chain_keeps (joins l) part (Reads l ts)
    (λ a t mid f b after reads j q. let o = joined l t.lexeme f j in rw o.2 (g.chain c o.1 reads (sound mid after b q)))
    (length x.1) x.0 x.1 e rest (g.tight (sound ts x.1 x.0 x.2)) x.3

becomes : {l : Level} {ts r rest : List Token} {a e : ExprSyntax} → Found a r ≡ Found e rest → Reads l ts a r → Reads l ts e rest
becomes {l = l} {ts = ts} {rest = rest} {a = a} p h = subst (λ x. Reads l ts x rest) (found_value p) (subst (λ x. Reads l ts a x) (found_rest p) h)

primary_cases : (inner : Part ExprSyntax) → Sound level.Disjunction inner
    → (t : Token) (ts rest : List Token) (e : ExprSyntax) (k : Lexeme) → t.lexeme ≡ k
    → primary_by inner t k ts ≡ Found e rest → Reads level.Factor (t ∷ ts) e rest
primary_cases inner sound t ts rest e (Number n) is p = becomes p (g.number is)
primary_cases inner sound t ts rest e (Name x) is p = becomes p (g.variable is)
primary_cases inner sound t ts rest e (Fixed mark.Open) is p =
    let x = goes_on (inner ts) _ p in
    let y = goes_on (expect mark.Close x.1) _ x.3 in
    let z = expected mark.Close x.1 y.1 y.2 in
    let r : Reads level.Disjunction ts x.0 (z.0 ∷ y.1) = rw (← z.2) (sound ts x.1 x.0 x.2) in
    becomes y.3 (g.group is z.1 r)
primary_cases inner sound t ts rest e (Fixed _) is p = cc

primary_sound : (inner : Part ExprSyntax) → Sound level.Disjunction inner → Sound level.Factor (primary inner)
unfolding primary
primary_sound inner sound [] rest e p = cc
primary_sound inner sound (t ∷ ts) rest e p = primary_cases inner sound t ts rest e t.lexeme refl p

signed_sound : (l : Level) (m : Mark) (op : UnaryOp) (part : Part ExprSyntax)
    → ((t : Token) (ts rest : List Token) (e : ExprSyntax) → t.lexeme ≡ Fixed m → Reads l ts e rest → Reads l (t ∷ ts) (tree.unary op e) rest)
    → Sound l part → Sound l (signed m op part)
unfolding signed
signed_sound l m op part rule sound [] rest e p = sound [] rest e p
signed_sound l m op part rule sound (t ∷ ts) rest e p =
    go (is_mark m t.lexeme) refl (λ r a q. signed_sound l m op part rule sound ts r a q) p
  where
    go : (b : Bool) → is_mark m t.lexeme ≡ b → ((r : List Token) (a : ExprSyntax) → signed m op part ts ≡ Found a r → Reads l ts a r)
        → signed_by b op (signed m op part ts) (part (t ∷ ts)) ≡ Found e rest → Reads l (t ∷ ts) e rest
    go true is deep p =
        let x = goes_on (signed m op part ts) _ p in
        becomes x.3 (rule t ts x.1 x.0 (mark_is m t.lexeme is) (deep x.1 x.0 x.2))
    go false is deep p = sound (t ∷ ts) rest e p

factor_sound : (inner : Part ExprSyntax) → Sound level.Disjunction inner → Sound level.Factor (factor inner)
unfolding factor
factor_sound inner sound = signed_sound level.Factor mark.Minus sign.Negate (primary inner) (λ t ts rest e is r. g.minus is r) (primary_sound inner sound)

term_sound : (inner : Part ExprSyntax) → Sound level.Disjunction inner → Sound level.Term (term inner)
unfolding term
term_sound inner sound = chain_sound g.terms (factor inner) (factor_sound inner sound)

sum_sound : (inner : Part ExprSyntax) → Sound level.Disjunction inner → Sound level.Sum (sum inner)
unfolding sum
sum_sound inner sound = chain_sound g.sums (term inner) (term_sound inner sound)

related_sound : (part : Part ExprSyntax) → Sound level.Sum part → (ts mid rest : List Token) (a e : ExprSyntax) → Reads level.Sum ts a mid
    → related part a mid ≡ Found e rest → Reads level.Comparison ts e rest
unfolding related
related_sound part sound ts [] rest a e reads p = becomes p (g.tight reads)
related_sound part sound ts (t ∷ mid) rest a e reads p = go (joins level.Comparison t.lexeme) refl p
  where
    go : (j : Option (ExprSyntax → ExprSyntax → ExprSyntax)) → joins level.Comparison t.lexeme ≡ j
        → related_by part a (t ∷ mid) j mid ≡ Found e rest → Reads level.Comparison ts e rest
    go None is p = becomes p (g.tight reads)
    go (Some f) is p =
        let x = goes_on (part mid) _ p in
        let o = joined level.Comparison t.lexeme f is in
        becomes x.3 (subst (λ h. Reads level.Comparison ts (h a x.0) x.1) (sym o.2) (g.comparison o.1 reads (sound mid x.1 x.0 x.2)))

comparison_sound : (inner : Part ExprSyntax) → Sound level.Disjunction inner → Sound level.Comparison (comparison inner)
unfolding comparison
comparison_sound inner sound ts rest e p =
    let x = goes_on (sum inner ts) _ p in
    related_sound (sum inner) (sum_sound inner sound) ts x.1 rest x.0 e (sum_sound inner sound ts x.1 x.0 x.2) x.3

negation_sound : (inner : Part ExprSyntax) → Sound level.Disjunction inner → Sound level.Negation (negation inner)
unfolding negation
negation_sound inner sound =
    signed_sound level.Negation mark.Not sign.Not (comparison inner) (λ t ts rest e is r. g.negation is r)
    (λ ts rest e p. g.tight (comparison_sound inner sound ts rest e p))

conjunction_sound : (inner : Part ExprSyntax) → Sound level.Disjunction inner → Sound level.Conjunction (conjunction inner)
unfolding conjunction
conjunction_sound inner sound = chain_sound g.conjunctions (negation inner) (negation_sound inner sound)

disjunction_sound : (inner : Part ExprSyntax) → Sound level.Disjunction inner → Sound level.Disjunction (disjunction inner)
unfolding disjunction
disjunction_sound inner sound = chain_sound g.disjunctions (conjunction inner) (conjunction_sound inner sound)

pub expression_sound : (d : ℕ) → Sound level.Disjunction (expression d)
unfolding expression
expression_sound zero ts rest e p = cc
expression_sound (suc d) ts rest e p = disjunction_sound (expression d) (expression_sound d) ts rest e p

pub level_sound : (d : ℕ) (l : Level) → Sound l (of_level (expression d) l)
level_sound d level.Disjunction = disjunction_sound (expression d) (expression_sound d)
level_sound d level.Conjunction = conjunction_sound (expression d) (expression_sound d)
level_sound d level.Negation = negation_sound (expression d) (expression_sound d)
level_sound d level.Comparison = comparison_sound (expression d) (expression_sound d)
level_sound d level.Sum = sum_sound (expression d) (expression_sound d)
level_sound d level.Term = term_sound (expression d) (expression_sound d)
level_sound d level.Factor = factor_sound (expression d) (expression_sound d)

pub level_shorter : (d : ℕ) (l : Level) (ts rest : List Token) (e : ExprSyntax) → of_level (expression d) l ts ≡ Found e rest
    → length rest < length ts
level_shorter d l ts rest e p = shorter (level_sound d l ts rest e p)
