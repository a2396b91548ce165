-- What the reading of statements gives is what the grammar reads, and nothing else.
use Rattle.std.proofs.Common.{◌≡◌, ℕ, ℤ, zero, suc, ◌+◌, max, ◌≤◌, ◌<◌, List, [], ◌∷◌, length, Some, Bool, true}
use Rattle.std.proofs.Common.{false, refl, sym, ap, ◌∙◌, subst, arith}
use Rattle.pb_lexer.specs.declared.token.Mark.{Mark}
use Rattle.pb_lexer.specs.declared.token.Mark.TheVariants as mark
use Rattle.pb_grammar.specs.declared.level.Level.TheVariants as level
use Rattle.pb_lexer.specs.Tokens.{Lexeme, Name, Number, Fixed, Token}
use Rattle.pb_tree.specs.Syntax as tree
use Rattle.pb_grammar.specs.Statements as g
use Rattle.pb_grammar.specs.Statements.{ReadsExpr, ReadsPair, ReadsPairs, ReadsStmt, ReadsList, ReadsArms}
use Rattle.pb_grammar.specs.Reader.{Answer, Refused, Found, Part, Stops, is_mark, expect, chain}
use Rattle.pb_grammar.specs.ExpressionReader.{expression}
use Rattle.pb_grammar.specs.StatementReader.{then_mark, joined_if, between, name_by, a_name, number_by, a_number}
use Rattle.pb_grammar.specs.StatementReader.{a_pair, concat, pairs, list, an_arm, arms_part, otherwise, otherwise_by}
use Rattle.pb_grammar.specs.StatementReader.{statement_by, statement}
use Rattle.pb_grammar.proofs.Marks.{mark_is, is_mark_same, expects, expected}
use Rattle.pb_grammar.proofs.Chains.{found_value, found_rest, goes_on, chain_keeps, InChain, chain_enters, chain_more}
use Rattle.pb_grammar.proofs.Chains.{chain_leaves}
use Rattle.pb_grammar.proofs.Expressions.{Ends, ends_mark, shorter, brackets, expression_complete, expression_sound}
use Rattle.pb_tree.specs.Syntax.{ExprSyntax, NameSyntax, NumberSyntax, StmtsSyntax, ArmsSyntax, DemandSyntax}
use Rattle.pb_grammar.specs.Grammar.{Is, name_at, number_at}
use Rattle.pb_grammar.specs.Lists.{single, append, append_arms}

-- ---- symbols and words

pub joins_between : {X : Type 0} (m : Mark) (f : X → X → X) (t : Token) → Is t m → between m f t.lexeme ≡ Some f
unfolding between
joins_between m f t is = let x = is_mark_same m t.lexeme is in rw x refl

pub stops_at : {X : Type 0} (m k : Mark) (f : X → X → X) (t : Token) (ts : List Token) → Is t k → is_mark m (Fixed k) ≡ false
    → Stops (between m f) (t ∷ ts)
unfolding between
stops_at m k f t ts is other = rw (is, other) refl

pub marked : {X : Type 0} (m : Mark) (answer : Answer X) (x : X) (u : Token) (rest : List Token) → answer ≡ Found x (u ∷ rest) → Is u m
    → then_mark m answer ≡ Found x rest
marked m answer x u rest p is = let e = expects m u rest is in rw (p, e) refl

pub then_marked : {X : Type 0} (m : Mark) (answer : Answer X) (x : X) (rest : List Token) → then_mark m answer ≡ Found x rest
    → (u : Token) × (Is u m) × (answer ≡ Found x (u ∷ rest))
then_marked m Refused x rest p = cc
then_marked m (Found y mid) x rest p =
    let z = goes_on (expect m mid) _ p in
    let e = expected m mid z.1 z.2 in
    let same : y ≡ x = found_value z.3 in
    let after : z.1 ≡ rest = found_rest z.3 in
    (e.0, e.1, ap (λ a. Found a mid) same ∙ ap (Found x) (e.2 ∙ ap (λ r. e.0 ∷ r) after))

-- ---- pairs

pub pair_shorter : {ts rest : List Token} {p : DemandSyntax} → ReadsPair ts p rest → length rest < length ts
pair_shorter (g.pair n of x) = omega arith

pair_read : {ts rest : List Token} {p : DemandSyntax} → ReadsPair ts p rest → a_pair ts ≡ Found (p ∷ []) rest
unfolding a_pair
pair_read (g.pair {u = u} {v = v} {rest = rest} n of x) = let e = expects mark.Of u (v ∷ rest) of in rw (n, e, x) refl

pairs_reach : {ts rest : List Token} {ps : List DemandSyntax} → ReadsPairs ts ps rest
    → InChain (between mark.Comma concat) a_pair ps rest (pairs ts)
unfolding pairs
pairs_reach (g.one {ts = ts} {rest = rest} {p = p} r) = chain_enters _ a_pair (p ∷ []) ts rest (pair_read r)
pairs_reach (g.more {ts = ts} {mid = mid} {rest = rest} {t = t} {ps = ps} {p = p} l is r) =
    chain_more _ a_pair ps (p ∷ []) _ t (t ∷ mid) mid rest (pairs ts) (pairs_reach l) refl (joins_between mark.Comma concat t is) (pair_read r) (pair_shorter r)

pairs_shorter : {ts rest : List Token} {ps : List DemandSyntax} → ReadsPairs ts ps rest → length rest < length ts
pairs_shorter (g.one r) = pair_shorter r
pairs_shorter (g.more l is r) = let x = pairs_shorter l in let y = pair_shorter r in omega arith

pairs_read : {ts rest : List Token} {ps : List DemandSyntax} → ReadsPairs ts ps rest
    → Stops (between {X = List DemandSyntax} mark.Comma concat) rest → pairs ts ≡ Found ps rest
pairs_read {rest = rest} {ps = ps} r stop = chain_leaves (between {X = List DemandSyntax} mark.Comma concat) a_pair ps rest _ (pairs_reach r) stop

-- ---- statements take at least a token

mutual
  pub stmt_shorter : {ts rest : List Token} {a : StmtsSyntax} → ReadsStmt ts a rest → length rest < length ts
  stmt_shorter (g.skip is) = omega arith
  stmt_shorter (g.assign is to e) = let x = shorter e in omega arith
  stmt_shorter (g.print is e) = let x = shorter e in omega arith
  stmt_shorter (g.if_then is e th a fi) = let x = shorter e in let y = list_shorter a in omega arith
  stmt_shorter (g.if_else is e th a el b fi) = let x = shorter e in let y = list_shorter a in let z = list_shorter b in omega arith
  stmt_shorter (g.while_do is e dw a od) = let x = shorter e in let y = list_shorter a in omega arith
  stmt_shorter (g.hold is ps dw a od) = let x = pairs_shorter ps in let y = list_shorter a in omega arith
  stmt_shorter (g.parbegin is a end) = let y = arms_shorter a in omega arith
  stmt_shorter (g.inner is a end) = let y = list_shorter a in omega arith

  pub list_shorter : {ts rest : List Token} {a : StmtsSyntax} → ReadsList ts a rest → length rest < length ts
  list_shorter (g.first r) = stmt_shorter r
  list_shorter (g.next l is r) = let x = list_shorter l in let y = stmt_shorter r in omega arith

  pub arms_shorter : {ts rest : List Token} {a : ArmsSyntax} → ReadsArms ts a rest → length rest < length ts
  arms_shorter (g.first_arm r) = stmt_shorter r
  arms_shorter (g.next_arm l is r) = let x = arms_shorter l in let y = stmt_shorter r in omega arith

-- ---- how deep statements nest

abbrev mutual
  -- how many readings are inside one another in a statement: itself, statements inside, expressions and their
  -- brackets
  pub stmt_depth : {ts rest : List Token} {a : StmtsSyntax} → ReadsStmt ts a rest → ℕ
  stmt_depth (g.skip is) = 1
  stmt_depth (g.assign is to e) = 2 + brackets e
  stmt_depth (g.print is e) = 2 + brackets e
  stmt_depth (g.if_then is e th a fi) = 1 + max (1 + brackets e) (list_depth a)
  stmt_depth (g.if_else is e th a el b fi) = 1 + max (1 + brackets e) (max (list_depth a) (list_depth b))
  stmt_depth (g.while_do is e dw a od) = 1 + max (1 + brackets e) (list_depth a)
  stmt_depth (g.hold is ps dw a od) = 1 + list_depth a
  stmt_depth (g.parbegin is a end) = 1 + arms_depth a
  stmt_depth (g.inner is a end) = 1 + list_depth a

  pub list_depth : {ts rest : List Token} {a : StmtsSyntax} → ReadsList ts a rest → ℕ
  list_depth (g.first r) = stmt_depth r
  list_depth (g.next l is r) = max (list_depth l) (stmt_depth r)

  pub arms_depth : {ts rest : List Token} {a : ArmsSyntax} → ReadsArms ts a rest → ℕ
  arms_depth (g.first_arm r) = stmt_depth r
  arms_depth (g.next_arm l is r) = max (arms_depth l) (stmt_depth r)

some_depth : {ts rest : List Token} {a : StmtsSyntax} (r : ReadsStmt ts a rest) → 0 < stmt_depth r
some_depth (g.skip is) = omega arith
some_depth (g.assign is to e) = omega arith
some_depth (g.print is e) = omega arith
some_depth (g.if_then is e th a fi) = omega arith
some_depth (g.if_else is e th a el b fi) = omega arith
some_depth (g.while_do is e dw a od) = omega arith
some_depth (g.hold is ps dw a od) = omega arith
some_depth (g.parbegin is a end) = omega arith
some_depth (g.inner is a end) = omega arith

-- ---- one statement, from its parts

skip_read : (d : ℕ) (t : Token) (ts : List Token) → Is t mark.Skip → statement (suc d) (t ∷ ts) ≡ Found tree.no_stmt ts
unfolding statement
skip_read d t ts is = rw is refl

assign_read : (d : ℕ) (t u : Token) (ts rest : List Token) (x : List ℕ) (e : ExprSyntax) → t.lexeme ≡ Name x → Is u mark.Assign
    → expression d ts ≡ Found e rest
    → statement (suc d) (t ∷ u ∷ ts) ≡ Found (single (tree.assign t.line (name_at t x) e)) rest
unfolding statement
assign_read d t u ts rest x e is to p = let m = expects mark.Assign u ts to in rw (is, m, p) refl

print_read : (d : ℕ) (t : Token) (ts rest : List Token) (e : ExprSyntax) → Is t mark.Print → expression d ts ≡ Found e rest
    → statement (suc d) (t ∷ ts) ≡ Found (single (tree.print t.line e)) rest
unfolding statement
print_read d t ts rest e is p = rw (is, p) refl

if_then_read : (d : ℕ) (t u v : Token) (ts us rest : List Token) (e : ExprSyntax) (a : StmtsSyntax) → Is t mark.If
    → expression d ts ≡ Found e (u ∷ us) → Is u mark.Then
    → list (statement d) us ≡ Found a (v ∷ rest) → Is v mark.Fi
    → statement (suc d) (t ∷ ts) ≡ Found (single (tree.if_else t.line e a tree.no_stmt)) rest
unfolding statement otherwise is_mark
if_then_read d t u v ts us rest e a is p th q fi =
    let m = marked mark.Then (expression d ts) e u us p th in
    let other : is_mark mark.Else v.lexeme ≡ false = rw fi refl in
    let n = expects mark.Fi v rest fi in
    rw (is, m, q, other, n) refl

if_else_read : (d : ℕ) (t u v w : Token) (ts us vs rest : List Token) (e : ExprSyntax) (a b : StmtsSyntax) → Is t mark.If
    → expression d ts ≡ Found e (u ∷ us) → Is u mark.Then
    → list (statement d) us ≡ Found a (v ∷ vs) → Is v mark.Else → list (statement d) vs ≡ Found b (w ∷ rest) → Is w mark.Fi
    → statement (suc d) (t ∷ ts) ≡ Found (single (tree.if_else t.line e a b)) rest
unfolding statement otherwise
if_else_read d t u v w ts us vs rest e a b is p th q el r fi =
    let m = marked mark.Then (expression d ts) e u us p th in
    let some = is_mark_same mark.Else v.lexeme el in
    let n = expects mark.Fi w rest fi in
    rw (is, m, q, some, r, n) refl

while_do_read : (d : ℕ) (t u v : Token) (ts us rest : List Token) (e : ExprSyntax) (a : StmtsSyntax) → Is t mark.While
    → expression d ts ≡ Found e (u ∷ us) → Is u mark.Do
    → list (statement d) us ≡ Found a (v ∷ rest) → Is v mark.Od
    → statement (suc d) (t ∷ ts) ≡ Found (single (tree.while_do t.line e a)) rest
unfolding statement
while_do_read d t u v ts us rest e a is p th q od =
    let m = marked mark.Do (expression d ts) e u us p th in
    let n = marked mark.Od (list (statement d) us) a v rest q od in
    rw (is, m, n) refl

hold_read : (d : ℕ) (t u v : Token) (ts us rest : List Token) (ps : List DemandSyntax) (a : StmtsSyntax) → Is t mark.Hold
    → pairs ts ≡ Found ps (u ∷ us) → Is u mark.Do
    → list (statement d) us ≡ Found a (v ∷ rest) → Is v mark.Od → statement (suc d) (t ∷ ts) ≡ Found (single (tree.hold t.line ps a)) rest
unfolding statement
hold_read d t u v ts us rest ps a is p th q od =
    let m = marked mark.Do (pairs ts) ps u us p th in
    let n = marked mark.Od (list (statement d) us) a v rest q od in
    rw (is, m, n) refl

parbegin_read : (d : ℕ) (t u : Token) (ts rest : List Token) (a : ArmsSyntax) → Is t mark.Parbegin
    → arms_part (statement d) ts ≡ Found a (u ∷ rest) → Is u mark.Parend
    → statement (suc d) (t ∷ ts) ≡ Found (single (tree.parbegin t.line a)) rest
unfolding statement
parbegin_read d t u ts rest a is p end = let m = marked mark.Parend (arms_part (statement d) ts) a u rest p end in rw (is, m) refl

inner_read : (d : ℕ) (t u : Token) (ts rest : List Token) (a : StmtsSyntax) → Is t mark.Begin
    → list (statement d) ts ≡ Found a (u ∷ rest) → Is u mark.End
    → statement (suc d) (t ∷ ts) ≡ Found a rest
unfolding statement
inner_read d t u ts rest a is p end = rw is (marked mark.End (list (statement d) ts) a u rest p end)

-- ---- what the grammar reads, the function reads

pub list_ends : (d : ℕ) (k : Mark) (u : Token) (ts rest : List Token) (a : StmtsSyntax)
    → InChain (between mark.Semicolon append) (statement d) a (u ∷ rest) (list (statement d) ts)
    → Is u k → is_mark mark.Semicolon (Fixed k) ≡ false → list (statement d) ts ≡ Found a (u ∷ rest)
list_ends d k u ts rest a x is other = chain_leaves _ (statement d) a (u ∷ rest) _ x (stops_at mark.Semicolon k append u rest is other)

arms_end : (d : ℕ) (k : Mark) (u : Token) (ts rest : List Token) (a : ArmsSyntax)
    → InChain (between mark.Semicolon append_arms) (an_arm (statement d)) a (u ∷ rest) (arms_part (statement d) ts)
    → Is u k → is_mark mark.Semicolon (Fixed k) ≡ false → arms_part (statement d) ts ≡ Found a (u ∷ rest)
arms_end d k u ts rest a x is other = chain_leaves _ (an_arm (statement d)) a (u ∷ rest) _ x (stops_at mark.Semicolon k append_arms u rest is other)

pub arm_read : (deeper : Part StmtsSyntax) (ts rest : List Token) (a : StmtsSyntax) → deeper ts ≡ Found a rest
    → an_arm deeper ts ≡ Found (tree.arm_then a tree.no_arm) rest
unfolding an_arm
arm_read deeper ts rest a p = rw p refl

list_enters : (d : ℕ) (ts rest : List Token) (a : StmtsSyntax) → statement d ts ≡ Found a rest
    → InChain (between mark.Semicolon append) (statement d) a rest (list (statement d) ts)
unfolding list
list_enters d ts rest a p = chain_enters _ (statement d) a ts rest p

arms_enter : (d : ℕ) (ts rest : List Token) (a : StmtsSyntax) → statement d ts ≡ Found a rest
    → InChain (between mark.Semicolon append_arms) (an_arm (statement d)) (tree.arm_then a tree.no_arm) rest (arms_part (statement d) ts)
unfolding arms_part
arms_enter d ts rest a p = chain_enters _ (an_arm (statement d)) (tree.arm_then a tree.no_arm) ts rest (arm_read (statement d) ts rest a p)

mutual
  unfolding is_mark

  pub stmt_read : (d : ℕ) {ts rest : List Token} {a : StmtsSyntax} (r : ReadsStmt ts a rest) → stmt_depth r ≤ d
      → Ends level.Disjunction rest → statement d ts ≡ Found a rest
  stmt_read zero r room ends = let x = some_depth r in absurd (omega arith)
  stmt_read (suc d) (g.skip {t = t} {rest = rest} is) room ends = skip_read d t rest is
  stmt_read (suc d) (g.assign {t = t} {u = u} {ts = ts} {rest = rest} {x = x} {e = e} is to r) room ends =
      assign_read d t u ts rest x e is to (expression_complete r d (omega arith) ends)
  stmt_read (suc d) (g.print {t = t} {ts = ts} {rest = rest} {e = e} is r) room ends = print_read d t ts rest e is (expression_complete r d (omega arith) ends)
  stmt_read (suc d) (g.if_then {t = t} {u = u} {v = v} {ts = ts} {us = us} {rest = rest} {e = e} {a = a} is r th l fi) room ends =
      let p = expression_complete r d (omega arith) (ends_mark level.Disjunction u (Fixed mark.Then) us th refl) in
      let q = list_reach d l (omega arith) (ends_mark level.Disjunction v (Fixed mark.Fi) rest fi refl) in
      if_then_read d t u v ts us rest e a is p th (list_ends d mark.Fi v us rest a q fi refl) fi
  stmt_read (suc d) (g.if_else {t = t} {u = u} {v = v} {w = w} {ts = ts} {us = us} {vs = vs} {rest = rest} {e = e} {a
      = a} {b = b} is r th l el m fi) room ends =
      let p = expression_complete r d (omega arith) (ends_mark level.Disjunction u (Fixed mark.Then) us th refl) in
      let q = list_reach d l (omega arith) (ends_mark level.Disjunction v (Fixed mark.Else) vs el refl) in
      let s = list_reach d m (omega arith) (ends_mark level.Disjunction w (Fixed mark.Fi) rest fi refl) in
      if_else_read d t u v w ts us vs rest e a b is p th (list_ends d mark.Else v us vs a q el refl) el (list_ends d mark.Fi w vs rest b s fi refl) fi
  stmt_read (suc d) (g.while_do {t = t} {u = u} {v = v} {ts = ts} {us = us} {rest = rest} {e = e} {a = a} is r th l od) room ends =
      let p = expression_complete r d (omega arith) (ends_mark level.Disjunction u (Fixed mark.Do) us th refl) in
      let q = list_reach d l (omega arith) (ends_mark level.Disjunction v (Fixed mark.Od) rest od refl) in
      while_do_read d t u v ts us rest e a is p th (list_ends d mark.Od v us rest a q od refl) od
  stmt_read (suc d) (g.hold {t = t} {u = u} {v = v} {ts = ts} {us = us} {rest = rest} {ps = ps} {a = a} is r th l od) room ends =
      let p = pairs_read r (stops_at mark.Comma mark.Do concat u us th refl) in
      let q = list_reach d l (omega arith) (ends_mark level.Disjunction v (Fixed mark.Od) rest od refl) in
      hold_read d t u v ts us rest ps a is p th (list_ends d mark.Od v us rest a q od refl) od
  stmt_read (suc d) (g.parbegin {t = t} {u = u} {ts = ts} {rest = rest} {a = a} is l end) room ends =
      let q = arms_reach d l (omega arith) (ends_mark level.Disjunction u (Fixed mark.Parend) rest end refl) in
      parbegin_read d t u ts rest a is (arms_end d mark.Parend u ts rest a q end refl) end
  stmt_read (suc d) (g.inner {t = t} {u = u} {ts = ts} {rest = rest} {a = a} is l end) room ends =
      let q = list_reach d l (omega arith) (ends_mark level.Disjunction u (Fixed mark.End) rest end refl) in
      inner_read d t u ts rest a is (list_ends d mark.End u ts rest a q end refl) end

  pub list_reach : (d : ℕ) {ts rest : List Token} {a : StmtsSyntax} (r : ReadsList ts a rest) → list_depth r ≤ d
      → Ends level.Disjunction rest
      → InChain (between mark.Semicolon append) (statement d) a rest (list (statement d) ts)
  list_reach d (g.first {ts = ts} {rest = rest} {a = a} r) room ends = list_enters d ts rest a (stmt_read d r room ends)
  list_reach d (g.next {ts = ts} {mid = mid} {rest = rest} {t = t} {a = a} {b = b} l is r) room ends =
      let x = list_reach d l (omega arith) (ends_mark level.Disjunction t (Fixed mark.Semicolon) mid is refl) in
      chain_more _ (statement d) a b append t (t ∷ mid) mid rest _ x refl (joins_between mark.Semicolon append t is)
      (stmt_read d r (omega arith) ends) (stmt_shorter r)

  pub arms_reach : (d : ℕ) {ts rest : List Token} {a : ArmsSyntax} (r : ReadsArms ts a rest) → arms_depth r ≤ d
      → Ends level.Disjunction rest
      → InChain (between mark.Semicolon append_arms) (an_arm (statement d)) a rest (arms_part (statement d) ts)
  arms_reach d (g.first_arm {ts = ts} {rest = rest} {a = a} r) room ends = arms_enter d ts rest a (stmt_read d r room ends)
  arms_reach d (g.next_arm {ts = ts} {mid = mid} {rest = rest} {t = t} {a = a} {b = b} l is r) room ends =
      let x = arms_reach d l (omega arith) (ends_mark level.Disjunction t (Fixed mark.Semicolon) mid is refl) in
      chain_more _ (an_arm (statement d)) a (tree.arm_then b tree.no_arm) append_arms t (t ∷ mid) mid rest _ x refl
      (joins_between mark.Semicolon append_arms t is)
      (arm_read (statement d) mid rest b (stmt_read d r (omega arith) ends)) (stmt_shorter r)

-- ---- what the function reads, the grammar reads

pub joined_between : {X : Type 0} (m : Mark) (f : X → X → X) (t : Token) (j : X → X → X) → between m f t.lexeme ≡ Some j
    → (Is t m) × (j ≡ f)
unfolding between
joined_between m f t j p = go (is_mark m t.lexeme) refl p
  where
    go : (b : Bool) → is_mark m t.lexeme ≡ b → joined_if f b ≡ Some j → (Is t m) × (j ≡ f)
    go true is p = (mark_is m t.lexeme is, cc)
    go false is p = cc

pub name_found : (ts rest : List Token) (x : NameSyntax) → a_name ts ≡ Found x rest
    → (t : Token) × (text : List ℕ) × (t.lexeme ≡ Name text) × (x ≡ name_at t text) × (ts ≡ t ∷ rest)
name_found [] rest x p = cc
name_found (t ∷ ts) rest x p = go t.lexeme refl p
  where
    go : (k : Lexeme) → t.lexeme ≡ k → name_by t k ts ≡ Found x rest
        → (u : Token) × (text : List ℕ) × (u.lexeme ≡ Name text) × (x ≡ name_at u text) × (t ∷ ts ≡ u ∷ rest)
    go (Name text) is p = (t, text, is, sym (found_value p), ap (λ r. t ∷ r) (found_rest p))
    go (Number n) is p = cc
    go (Fixed m) is p = cc

pub number_found : (ts rest : List Token) (n : NumberSyntax) → a_number ts ≡ Found n rest
    → (t : Token) × (value : ℤ) × (t.lexeme ≡ Number value) × (n ≡ number_at t value) × (ts ≡ t ∷ rest)
number_found [] rest n p = cc
number_found (t ∷ ts) rest n p = go t.lexeme refl p
  where
    go : (k : Lexeme) → t.lexeme ≡ k → number_by t k ts ≡ Found n rest
        → (u : Token) × (value : ℤ) × (u.lexeme ≡ Number value) × (n ≡ number_at u value) × (t ∷ ts ≡ u ∷ rest)
    go (Number value) is p = (t, value, is, sym (found_value p), ap (λ r. t ∷ r) (found_rest p))
    go (Name x) is p = cc
    go (Fixed m) is p = cc

pair_rule : (t u v : Token) (ts us vs rest : List Token) (value : ℤ) (text : List ℕ) (n : NumberSyntax) (x : NameSyntax)
    → t.lexeme ≡ Number value → n ≡ number_at t value → ts ≡ t ∷ us
    → Is u mark.Of → us ≡ u ∷ vs → v.lexeme ≡ Name text → x ≡ name_at v text → vs ≡ v ∷ rest
    → ReadsPair ts (record { amount = n; resource = x }) rest
pair_rule t u v ts us vs rest value text n x is same e of f nm called h = rw (e, f, h, same, called) (g.pair is of nm)

pub pair_sound : (ts rest : List Token) (ps : List DemandSyntax) → a_pair ts ≡ Found ps rest
    → (p : DemandSyntax) × (ps ≡ p ∷ []) × (ReadsPair ts p rest)
unfolding a_pair
pair_sound ts rest ps p =
    let x = goes_on (then_mark mark.Of (a_number ts)) _ p in
    let m = then_marked mark.Of (a_number ts) x.0 x.1 x.2 in
    let n = number_found ts (m.0 ∷ x.1) x.0 m.2 in
    let y = goes_on (a_name x.1) _ x.3 in
    let nm = name_found x.1 y.1 y.0 y.2 in
    let r = pair_rule n.0 m.0 nm.0 ts (m.0 ∷ x.1) x.1 y.1 n.1 nm.1 x.0 y.0 n.2 n.3 n.4 m.1 refl nm.2 nm.3 nm.4 in
    let same = found_value y.3 in
    (record { amount = x.0; resource = y.0 }, sym same, subst (ReadsPair ts _) (found_rest y.3) r)

pairs_sound : (ts rest : List Token) (ps : List DemandSyntax) → pairs ts ≡ Found ps rest → ReadsPairs ts ps rest
unfolding pairs chain
pairs_sound ts rest ps p =
    let x = goes_on (a_pair ts) _ p in
    let f = pair_sound ts x.1 x.0 x.2 in
    chain_keeps (between mark.Comma concat) a_pair (ReadsPairs ts)
    (λ a t mid j b after reads q r.
    let o = joined_between mark.Comma concat t j q in
    let s = pair_sound mid after b r in
    rw (o.1, s.1) (g.more reads o.0 s.2))
    (length x.1) x.0 x.1 ps rest (rw f.1 (g.one f.2)) x.3

abbrev pub SoundS : Part StmtsSyntax → Type 0
SoundS part = (ts rest : List Token) (a : StmtsSyntax) → part ts ≡ Found a rest → ReadsStmt ts a rest

pub list_sound : (deeper : Part StmtsSyntax) → SoundS deeper → (ts rest : List Token) (a : StmtsSyntax) → list deeper ts ≡ Found a rest
    → ReadsList ts a rest
unfolding list chain
list_sound deeper sound ts rest a p =
    let x = goes_on (deeper ts) _ p in
    chain_keeps (between mark.Semicolon append) deeper (ReadsList ts)
    (λ b t mid j c after reads q r. let o = joined_between mark.Semicolon append t j q in rw o.1 (g.next reads o.0 (sound mid after c r)))
    (length x.1) x.0 x.1 a rest (g.first (sound ts x.1 x.0 x.2)) x.3

arm_sound : (deeper : Part StmtsSyntax) → SoundS deeper → (ts rest : List Token) (a : ArmsSyntax) → an_arm deeper ts ≡ Found a rest
    → (b : StmtsSyntax) × (a ≡ tree.arm_then b tree.no_arm) × (ReadsStmt ts b rest)
unfolding an_arm
arm_sound deeper sound ts rest a p =
    let x = goes_on (deeper ts) _ p in
    (x.0, sym (found_value x.3), subst (ReadsStmt ts x.0) (found_rest x.3) (sound ts x.1 x.0 x.2))

arms_sound : (deeper : Part StmtsSyntax) → SoundS deeper → (ts rest : List Token) (a : ArmsSyntax) → arms_part deeper ts ≡ Found a rest
    → ReadsArms ts a rest
unfolding arms_part chain
arms_sound deeper sound ts rest a p =
    let x = goes_on (an_arm deeper ts) _ p in
    let f = arm_sound deeper sound ts x.1 x.0 x.2 in
    chain_keeps (between mark.Semicolon append_arms) (an_arm deeper) (ReadsArms ts)
    (λ b t mid j c after reads q r.
    let o = joined_between mark.Semicolon append_arms t j q in
    let s = arm_sound deeper sound mid after c r in
    rw (o.1, s.1) (g.next_arm reads o.0 s.2))
    (length x.1) x.0 x.1 a rest (rw f.1 (g.first_arm f.2)) x.3

becomes_stmt : {ts r rest : List Token} {a b : StmtsSyntax} → Found a r ≡ Found b rest → ReadsStmt ts a r → ReadsStmt ts b rest
becomes_stmt {ts = ts} {rest = rest} {a = a} p h = subst (λ x. ReadsStmt ts x rest) (found_value p) (subst (λ x. ReadsStmt ts a x) (found_rest p) h)

-- what comes after the first list of an "if"
if_else_sound : (deeper : Part StmtsSyntax) → SoundS deeper
    → (t u : Token) (ts us vs rest : List Token) (e : ExprSyntax) (a b : StmtsSyntax) → Is t mark.If → ReadsExpr ts e (u ∷ us)
    → Is u mark.Then
    → ReadsList us a vs → then_mark mark.Fi (otherwise deeper vs) ≡ Found b rest
    → ReadsStmt (t ∷ ts) (single (tree.if_else t.line e a b)) rest
unfolding otherwise
if_else_sound deeper sound t u ts us [] rest e a b is r th l p =
    let m = then_marked mark.Fi (Found tree.no_stmt []) b rest p in (let none = found_rest m.2 in cc)
if_else_sound deeper sound t u ts us (v ∷ vs) rest e a b is r th l p =
    let m = then_marked mark.Fi (otherwise deeper (v ∷ vs)) b rest p in
    go (is_mark mark.Else v.lexeme) refl m.0 m.1 m.2
  where
    go : (some : Bool) → is_mark mark.Else v.lexeme ≡ some → (w : Token) → Is w mark.Fi
        → otherwise_by some (list deeper vs) (v ∷ vs) ≡ Found b (w ∷ rest)
        → ReadsStmt (t ∷ ts) (single (tree.if_else t.line e a b)) rest
    go true some w fi q = g.if_else is r th l (mark_is mark.Else v.lexeme some) (list_sound deeper sound vs (w ∷ rest) b q) fi
    go false some w fi q =
        let after : ReadsList us a (w ∷ rest) = subst (ReadsList us a) (found_rest q) l in
        subst (λ x. ReadsStmt (t ∷ ts) (single (tree.if_else t.line e a x)) rest) (found_value q) (g.if_then is r th after fi)

statement_cases : (d : ℕ) (deeper : Part StmtsSyntax) → SoundS deeper
    → (t : Token) (ts rest : List Token) (a : StmtsSyntax) (k : Lexeme) → t.lexeme ≡ k
    → statement_by d deeper t k ts ≡ Found a rest → ReadsStmt (t ∷ ts) a rest
statement_cases d deeper sound t ts rest a (Name text) is p =
    let x = goes_on (expect mark.Assign ts) _ p in
    let m = expected mark.Assign ts x.1 x.2 in
    let y = goes_on (expression d x.1) _ x.3 in
    let r = becomes_stmt y.3 (g.assign is m.1 (expression_sound d x.1 y.1 y.0 y.2)) in
    subst (λ us. ReadsStmt (t ∷ us) a rest) (sym m.2) r
statement_cases d deeper sound t ts rest a (Fixed mark.Skip) is p = becomes_stmt p (g.skip is)
statement_cases d deeper sound t ts rest a (Fixed mark.Print) is p =
    let x = goes_on (expression d ts) _ p in becomes_stmt x.3 (g.print is (expression_sound d ts x.1 x.0 x.2))
statement_cases d deeper sound t ts rest a (Fixed mark.If) is p =
    let x = goes_on (then_mark mark.Then (expression d ts)) _ p in
    let m = then_marked mark.Then (expression d ts) x.0 x.1 x.2 in
    let y = goes_on (list deeper x.1) _ x.3 in
    let z = goes_on (then_mark mark.Fi (otherwise deeper y.1)) _ y.3 in
    becomes_stmt z.3 (if_else_sound deeper sound t m.0 ts x.1 y.1 z.1 x.0 y.0 z.0 is (expression_sound d ts (m.0 ∷ x.1)
    x.0 m.2) m.1 (list_sound deeper sound x.1 y.1 y.0 y.2) z.2)
statement_cases d deeper sound t ts rest a (Fixed mark.While) is p =
    let x = goes_on (then_mark mark.Do (expression d ts)) _ p in
    let m = then_marked mark.Do (expression d ts) x.0 x.1 x.2 in
    let y = goes_on (then_mark mark.Od (list deeper x.1)) _ x.3 in
    let n = then_marked mark.Od (list deeper x.1) y.0 y.1 y.2 in
    becomes_stmt y.3 (g.while_do is (expression_sound d ts (m.0 ∷ x.1) x.0 m.2) m.1 (list_sound deeper sound x.1 (n.0 ∷ y.1) y.0 n.2) n.1)
statement_cases d deeper sound t ts rest a (Fixed mark.Hold) is p =
    let x = goes_on (then_mark mark.Do (pairs ts)) _ p in
    let m = then_marked mark.Do (pairs ts) x.0 x.1 x.2 in
    let y = goes_on (then_mark mark.Od (list deeper x.1)) _ x.3 in
    let n = then_marked mark.Od (list deeper x.1) y.0 y.1 y.2 in
    becomes_stmt y.3 (g.hold is (pairs_sound ts (m.0 ∷ x.1) x.0 m.2) m.1 (list_sound deeper sound x.1 (n.0 ∷ y.1) y.0 n.2) n.1)
statement_cases d deeper sound t ts rest a (Fixed mark.Parbegin) is p =
    let x = goes_on (then_mark mark.Parend (arms_part deeper ts)) _ p in
    let m = then_marked mark.Parend (arms_part deeper ts) x.0 x.1 x.2 in
    becomes_stmt x.3 (g.parbegin is (arms_sound deeper sound ts (m.0 ∷ x.1) x.0 m.2) m.1)
statement_cases d deeper sound t ts rest a (Fixed mark.Begin) is p =
    let m = then_marked mark.End (list deeper ts) a rest p in
    g.inner is (list_sound deeper sound ts (m.0 ∷ rest) a m.2) m.1
statement_cases d deeper sound t ts rest a (Number n) is p = cc
statement_cases d deeper sound t ts rest a (Fixed _) is p = cc

pub statement_sound : (d : ℕ) → SoundS (statement d)
unfolding statement
statement_sound zero ts rest a p = cc
statement_sound (suc d) [] rest a p = cc
statement_sound (suc d) (t ∷ ts) rest a p = statement_cases d (statement d) (statement_sound d) t ts rest a t.lexeme refl p
