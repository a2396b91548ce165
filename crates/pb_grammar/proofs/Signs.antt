-- Prefix operators, counted first and built afterwards.
use Rattle.std.proofs.Common.{◌≡◌, ℕ, zero, suc, ◌+◌, ◌-◌, ◌<◌, ◌≤◌, List, [], ◌∷◌, Bool, true, false, Result, Ok}
use Rattle.std.proofs.Common.{Err, refl, sym, ap, subst, ◌∙◌, add-one, arith}
use Rattle.pb_lexer.specs.declared.token.Mark.{Mark}
use Rattle.pb_base.specs.declared.operators.UnaryOp.{UnaryOp}
use Rattle.pb_lexer.specs.Tokens.{Token}
use Rattle.pb_tree.specs.Syntax as tree
use Rattle.pb_grammar.specs.Reader.{Answer, Refused, Found, Part, is_mark, expect, expect_by}
use Rattle.pb_grammar.specs.ExpressionReader.{signed, signed_by, signs}
use Rattle.pb_tree.specs.Syntax.{ExprSyntax}
use Rattle.pb_grammar.specs.declared.fault.ParseFault.{ParseFault}
use Rattle.pb_grammar.specs.Making.{Fails, Finds, IsMadeOf}
use Rattle.pb_grammar.specs.Promises.{Signs}

taken_once : (m : Mark) (op : UnaryOp) (part : Part ExprSyntax) (t : Token) (mid : List Token) (n : ℕ) → is_mark m t.lexeme ≡ true
    → signs n op (signed m op part (t ∷ mid)) ≡ signs (suc n) op (signed m op part mid)
unfolding signed
taken_once m op part t mid n is = rw is refl

pub signed_taken : (m : Mark) (op : UnaryOp) (part : Part ExprSyntax) (t : Token) (ts mid : List Token) (n : ℕ) (whole : Answer ExprSyntax)
    → ts ≡ t ∷ mid → is_mark m t.lexeme ≡ true → whole ≡ signs n op (signed m op part ts) → whole ≡ signs (n + 1) op (signed m op part mid)
signed_taken m op part t ts mid n whole e is same =
    rw add-one (same ∙ ap (λ x. signs n op (signed m op part x)) e ∙ taken_once m op part t mid n is)

not_taken : (m : Mark) (op : UnaryOp) (part : Part ExprSyntax) (ts : List Token) → expect m ts ≡ Refused → signed m op part ts ≡ part ts
unfolding signed
not_taken m op part [] none = refl
not_taken m op part (t ∷ ts) none = go (is_mark m t.lexeme) none
  where
    go : (b : Bool) → expect_by b ts ≡ Refused → signed_by b op (signed m op part ts) (part (t ∷ ts)) ≡ part (t ∷ ts)
    go true none = cc
    go false none = refl

pub signed_over : (m : Mark) (op : UnaryOp) (part : Part ExprSyntax) (ts after : List Token) (n : ℕ) (whole : Answer ExprSyntax)
    → after ≡ ts → expect m ts ≡ Refused → whole ≡ signs n op (signed m op part ts) → whole ≡ signs n op (part after)
signed_over m op part ts after n whole e none same = same ∙ ap (signs n op) (not_taken m op part ts none) ∙ ap (λ x. signs n op (part x)) (sym e)

pub one_sign : (op : UnaryOp) (count turn : ℕ) → turn < count → (e more : ExprSyntax) (rest : List Token) (whole : Answer ExprSyntax)
    → whole ≡ signs (count - turn) op (Found e rest) → more ≡ tree.unary op e → whole ≡ signs (count - (turn + 1)) op (Found more rest)
one_sign op count turn below e more rest whole same built =
    let step : count - turn ≡ suc (count - (turn + 1)) = omega arith in
    same ∙ ap (λ n. signs n op (Found e rest)) step ∙ ap (λ x. signs (count - (turn + 1)) op (Found x rest)) (sym built)

refused : (n : ℕ) (op : UnaryOp) → signs n op Refused ≡ Refused
refused zero op = refl
refused (suc n) op = refused n op

pub signs_refused : (n : ℕ) (op : UnaryOp) (answer whole : Answer ExprSyntax) → whole ≡ signs n op answer → answer ≡ Refused
    → whole ≡ Refused
signs_refused n op answer whole same none = same ∙ ap (signs n op) none ∙ refused n op

-- no operator is left
pub signs_over : (op : UnaryOp) (count turn : ℕ) (answer whole : Answer ExprSyntax) → count ≤ turn
    → whole ≡ signs (count - turn) op answer → whole ≡ answer
signs_over op count turn answer whole over same = let none : count - turn ≡ 0 = omega arith in same ∙ ap (λ n. signs n op answer) none

-- what was made of the operand after its signs was made of the whole
pub signed_makes : {E : Type 0} (is : E → ExprSyntax → Type 0) (wants : Type 0) (r : Result E ParseFault) (n : ℕ) (op
    : UnaryOp) (x : E) (answer whole : Answer ExprSyntax)
    (rest : List Token) → Signs wants is r n op x → Finds is x answer rest → whole ≡ signs n op answer → IsMadeOf wants is r whole rest
signed_makes is wants (Ok y) n op x answer whole rest made f same =
    let m = made f.syntax f.same rest in
    record { syntax = m.syntax; found = same ∙ ap (signs n op) f.found ∙ m.found; same = m.same }
signed_makes is wants (Err e) n op x answer whole rest made f same = subst (λ z. Fails wants z whole) (sym made.0) made.1

-- the signs that are still to come
pub record InSigns {E : Type 0} (is : E → ExprSyntax → Type 0) (x : E) (n left : ℕ) (op : UnaryOp) (e : ExprSyntax) : Type 0 where
  pub syntax : ExprSyntax
  pub made : is x syntax
  pub same : (rest : List Token) → signs n op (Found e rest) ≡ signs left op (Found syntax rest)

pub signs_begin : {E : Type 0} {is : E → ExprSyntax → Type 0} (x : E) (n : ℕ) (op : UnaryOp) (e : ExprSyntax) → is x e
    → InSigns is x n (n - 0) op e
signs_begin x n op e h = record { syntax = e; made = h; same = λ rest. let z : n ≡ n - 0 = omega arith in ap (λ k. signs k op (Found e rest)) z }

pub signs_step : {E : Type 0} {is : E → ExprSyntax → Type 0} (x y : E) (n turn : ℕ) (op : UnaryOp) (e : ExprSyntax) → turn < n
    → InSigns is x n (n - turn) op e
    → ((a : ExprSyntax) → is x a → is y (tree.unary op a)) → InSigns is y n (n - (turn + 1)) op e
signs_step x y n turn op e below s put = record {
  syntax = tree.unary op s.syntax;
  made = put s.syntax s.made;
  same = λ rest. one_sign op n turn below s.syntax (tree.unary op s.syntax) rest (signs n op (Found e rest)) (s.same rest) refl;
}

pub signs_end : {E : Type 0} {is : E → ExprSyntax → Type 0} (x : E) (n turn : ℕ) (op : UnaryOp) (e : ExprSyntax) → n ≤ turn
    → InSigns is x n (n - turn) op e
    → (rest : List Token) → Finds is x (signs n op (Found e rest)) rest
signs_end x n turn op e over s rest = record {
  syntax = s.syntax;
  found = signs_over op n turn (Found s.syntax rest) (signs n op (Found e rest)) over (s.same rest);
  same = s.made;
}
