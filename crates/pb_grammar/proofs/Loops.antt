-- The steps of the parser's loops over names, demands, statements, arms and processes.
use Rattle.std.proofs.Common.{◌≡◌, ℕ, zero, suc, ◌<◌, List, [], ◌∷◌, length, Some, None, Bool, true, false, refl, sym}
use Rattle.std.proofs.Common.{ap, ◌∙◌, subst, arith}
use Rattle.pb_lexer.specs.declared.token.Mark.{Mark}
use Rattle.pb_base.specs.declared.operators.BinaryOp.{BinaryOp}
use Rattle.pb_lexer.specs.Tokens.{Token}
use Rattle.pb_tree.specs.Syntax as tree
use Rattle.pb_tree.specs.Syntax.{ExprSyntax, StmtsSyntax, DemandSyntax, no_stmt, stmt_then}
use Rattle.pb_grammar.specs.declared.level.Level.{Level}
use Rattle.pb_grammar.specs.Reader.{Answer, Refused, Found, Part, Join, Stops, is_mark, expect, expect_by, chain_from}
use Rattle.pb_grammar.specs.Reader.{chain}
use Rattle.pb_grammar.specs.declared.fault.ParseFault.{ParseFault}
use Rattle.pb_grammar.specs.Making.{Fails, Finds, Adds}
use Rattle.pb_grammar.specs.Promises.{TakesMark, TakesOperator}
use Rattle.pb_grammar.specs.ExpressionReader.{joins, joined}
use Rattle.pb_grammar.specs.StatementReader.{between, joined_if, a_pair, an_arm, statement, statement_by}
use Rattle.pb_grammar.proofs.Chains.{InChain, chain_enters, chain_more, chain_leaves, chain_fails, fails_through}
use Rattle.pb_grammar.proofs.Chains.{goes_on, found_value, found_rest}
use Rattle.pb_grammar.proofs.StatementLaws.{pair_sound, pair_shorter, statement_sound, stmt_shorter}
use Rattle.pb_grammar.specs.Lists.{append}

pub joins_if : {X : Type 0} (m : Mark) (f : X → X → X) (t : Token) → is_mark m t.lexeme ≡ true → between m f t.lexeme ≡ Some f
unfolding between
joins_if m f t is = rw is refl

pub stops_unless : {X : Type 0} (m : Mark) (f : X → X → X) (ts : List Token) → expect m ts ≡ Refused → Stops (between m f) ts
unfolding between
stops_unless m f [] none = tt
stops_unless m f (t ∷ ts) none = go (is_mark m t.lexeme) none
  where
    go : (b : Bool) → expect_by b ts ≡ Refused → joined_if f b ≡ None
    go true none = cc
    go false none = refl

-- ---- what a loop has made so far

-- something that is `P` was made of the chain so far, and what is still to come of it gives `target`
pub record InLoop {Y : Type 0} (P : Y → Type 0) (join : Join Y) (part : Part Y) (ts : List Token) (target : Answer Y) : Type 0 where
  pub syntax : Y
  pub same : P syntax
  pub chain : InChain join part syntax ts target

pub loop_enters : {Y : Type 0} {P : Y → Type 0} (join : Join Y) (part : Part Y) (ts rest : List Token) (b : Y) → part ts ≡ Found b rest
    → P b
    → InLoop P join part rest (chain join part ts)
loop_enters join part ts rest b p h = record { syntax = b; same = h; chain = chain_enters join part b ts rest p }

pub loop_begins : {Y : Type 0} {P : Y → Type 0} (join : Join Y) (part : Part Y) (none : Y) (ts : List Token) → P none
    → InLoop P join part ts (chain_from join part (length ts) none ts)
loop_begins join part none ts h = record { syntax = none; same = h; chain = record { turns = length ts; room = omega arith; same = refl } }

pub loop_more : {Y : Type 0} {P Q : Y → Type 0} (m : Mark) (join : Y → Y → Y) (part : Part Y) (ts mid rest : List Token) (target : Answer Y) (b : Y)
    → InLoop P (between m join) part ts target → TakesMark m true ts mid → part mid ≡ Found b rest → length rest < length mid
    → ((a : Y) → P a → Q (join a b)) → InLoop Q (between m join) part rest target
loop_more m join part ts mid rest target b l taken p less put = record {
  syntax = join l.syntax b;
  same = put l.syntax l.same;
  chain = chain_more (between m join) part l.syntax b join taken.0 ts mid rest target l.chain taken.1 (joins_if m join taken.0 taken.2) p less;
}

pub loop_fails : {Y : Type 0} {P : Y → Type 0} (m : Mark) (join : Y → Y → Y) (part : Part Y) (ts mid : List Token) (target : Answer Y)
    → InLoop P (between m join) part ts target → TakesMark m true ts mid → part mid ≡ Refused → target ≡ Refused
loop_fails m join part ts mid target l taken p = chain_fails (between m join) part l.syntax join taken.0 ts mid target
    l.chain taken.1 (joins_if m join taken.0 taken.2) p

pub loop_leaves : {X Y : Type 0} {is : X → Y → Type 0} {x : X} (m : Mark) (join : Y → Y → Y) (part : Part Y) (ts after : List Token) (target : Answer Y)
    → InLoop (is x) (between m join) part ts target → TakesMark m false ts after → Finds is x target after
loop_leaves m join part ts after target l taken = record {
  syntax = l.syntax;
  found = chain_leaves (between m join) part l.syntax ts target l.chain (stops_unless m join ts taken.1) ∙ ap (Found l.syntax) (sym taken.0);
  same = l.same;
}

-- the same for operators, if one more part is joined by a call

pub joined_refused : (op : BinaryOp) (a : ExprSyntax) (answer : Answer ExprSyntax) → joined op a answer ≡ Refused → answer ≡ Refused
joined_refused op a Refused none = refl
joined_refused op a (Found b rest) none = cc

pub joined_shorter : {E : Type 0} {is : E → ExprSyntax → Type 0} {x : E} (op : BinaryOp) (a : ExprSyntax) (part : Part ExprSyntax) (mid rest : List Token)
    → ((us : List Token) (b : ExprSyntax) → part mid ≡ Found b us → length us < length mid)
    → Finds is x (joined op a (part mid)) rest → length rest < length mid
joined_shorter op a part mid rest shorter f =
    let j = goes_on (part mid) (λ b us. Found (tree.binary op a b) us) f.found in
    let less = shorter j.1 j.0 j.2 in
    let same = ap length (found_rest j.3) in
    omega (arith, less, same)

pub operator_more : {E : Type 0} {is : E → ExprSyntax → Type 0} {y : E} {P : ExprSyntax → Type 0} (l : Level) (op :
    BinaryOp) (part : Part ExprSyntax) (ts mid rest : List Token) (target : Answer ExprSyntax)
    → ((us : List Token) (b : ExprSyntax) → part mid ≡ Found b us → length us < length mid)
    → (loop : InLoop P (joins l) part ts target) → TakesOperator l (Some op) ts mid
    → Finds is y (joined op loop.syntax (part mid)) rest → InLoop (is y) (joins l) part rest target
operator_more l op part ts mid rest target shorter loop taken f =
    let a = loop.syntax in
    let j = goes_on (part mid) (λ b us. Found (tree.binary op a b) us) f.found in
    let c = chain_more (joins l) part a j.0 (tree.binary op) taken.0 ts mid j.1 target loop.chain taken.1 taken.2 j.2 (shorter j.1 j.0 j.2) in
    record {
      syntax = f.syntax;
      same = f.same;
      chain = subst (λ s. InChain (joins l) part s rest target) (found_value j.3) (subst (λ us. InChain (joins l) part
          (tree.binary op a j.0) us target) (found_rest j.3) c);
    }

pub operator_fails : {P : ExprSyntax → Type 0} (wants : Type 0) (e : ParseFault) (l : Level) (op : BinaryOp) (part :
    Part ExprSyntax) (ts mid : List Token) (target : Answer ExprSyntax)
    → (loop : InLoop P (joins l) part ts target) → TakesOperator l (Some op) ts mid → Fails wants e (joined op loop.syntax (part mid)) → Fails wants e target
operator_fails wants e l op part ts mid target loop taken h =
    fails_through wants e h (λ none. chain_fails (joins l) part loop.syntax (tree.binary op) taken.0 ts mid target
    loop.chain taken.1 taken.2 (joined_refused op loop.syntax (part mid) none))

pub operator_leaves : {X : Type 0} {is : X → ExprSyntax → Type 0} {x : X} (l : Level) (part : Part ExprSyntax) (ts
    after : List Token) (target : Answer ExprSyntax)
    → InLoop (is x) (joins l) part ts target → TakesOperator l None ts after → Finds is x target after
operator_leaves l part ts after target x taken = record {
  syntax = x.syntax;
  found = chain_leaves (joins l) part x.syntax ts target x.chain taken.1 ∙ ap (Found x.syntax) (sym taken.0);
  same = x.same;
}

-- ---- one part after another

pub adds_more : {X Y : Type 0} (is : X → Y → Type 0) (join : Y → Y → Y) → ((a b c : Y) → join (join a b) c ≡ join a (join b c))
    → (x y z : X) (a b : Y)
    → Adds is join x y a → Adds is join y z b → Adds is join x z (join a b)
adds_more is join assoc x y z a b first second before h = subst (is z) (assoc before a b) (second (join before a) (first before h))

-- ---- statements after others

pub stmts_assoc : (a b c : StmtsSyntax) → append (append a b) c ≡ append a (append b c)
stmts_assoc no_stmt b c = refl
stmts_assoc (stmt_then s a) b c = ap (stmt_then s) (stmts_assoc a b c)

pub append_empty : (a : StmtsSyntax) → append a no_stmt ≡ a
append_empty no_stmt = refl
append_empty (stmt_then s a) = ap (stmt_then s) (append_empty a)

pub statement_shorter : (d : ℕ) (ts rest : List Token) (a : StmtsSyntax) → statement d ts ≡ Found a rest → length rest < length ts
statement_shorter d ts rest a p = stmt_shorter (statement_sound d ts rest a p)

-- ---- arms

pub arm_refused : (d : ℕ) (ts : List Token) → statement d ts ≡ Refused → an_arm (statement d) ts ≡ Refused
unfolding an_arm
arm_refused d ts p = rw p refl

pub a_pair_shorter : (ts rest : List Token) (ps : List DemandSyntax) → a_pair ts ≡ Found ps rest → length rest < length ts
a_pair_shorter ts rest ps p = pair_shorter (pair_sound ts rest ps p).2

-- ---- one statement

pub statement_first : (d : ℕ) (t : Token) (ts mid : List Token) → ts ≡ t ∷ mid
    → statement (suc d) ts ≡ statement_by d (statement d) t t.lexeme mid
unfolding statement
statement_first d t ts mid e = rw e refl

pub statement_none : (d : ℕ) (ts : List Token) → ts ≡ [] → statement d ts ≡ Refused
unfolding statement
statement_none zero ts e = refl
statement_none (suc d) ts e = rw e refl

pub statement_zero : (d : ℕ) (ts : List Token) → d ≡ 0 → statement d ts ≡ Refused
unfolding statement
statement_zero d ts e = rw e refl
