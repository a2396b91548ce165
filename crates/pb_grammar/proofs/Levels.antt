-- An expression is its first negation, or its first factor, and what follows that; if no operator comes next,
-- nothing does.
use Rattle.std.proofs.Common.{◌≡◌, ◌⊎◌, inl, inr, ◌<◌, List, [], ◌∷◌, length, false, None, Some, Result}
use Rattle.std.proofs.Common.{refl, ◌∙◌, ap, sym, arith}
use Rattle.pb_base.specs.declared.operators.BinaryOp.{BinaryOp}
use Rattle.pb_lexer.specs.declared.token.Mark.TheVariants as mark
use Rattle.pb_lexer.specs.Tokens.{Lexeme, Fixed, Token}
use Rattle.pb_tree.specs.Syntax.{ExprSyntax}
use Rattle.pb_grammar.specs.declared.fault.ParseFault.{ParseFault}
use Rattle.pb_grammar.specs.declared.level.Level.{Level}
use Rattle.pb_grammar.specs.declared.level.Level.TheVariants as level
use Rattle.pb_grammar.specs.Grammar.{operator}
use Rattle.pb_grammar.specs.Reader.{Answer, Refused, Found, Part, and_then, chain, more}
use Rattle.pb_grammar.specs.ExpressionReader.{joins, joined, factor, term, sum, related, comparison, negation}
use Rattle.pb_grammar.specs.ExpressionReader.{conjunction, disjunction, of_level, looseness}
use Rattle.pb_grammar.specs.ExpressionReader.{factors, terms, negations, conjunctions}
use Rattle.pb_grammar.specs.ExpressionReader.{after_factor, after_term, after_sum, after_negation, after_conjunction}
use Rattle.pb_grammar.specs.ExpressionReader.{is_operator, begins_operator}
use Rattle.pb_grammar.specs.Making.{Fails, Finds, IsMadeOf}
use Rattle.pb_grammar.specs.Promises.{TakesOperator}
use Rattle.pb_grammar.proofs.Chains.{chain_stops, fails_through}
use Rattle.pb_grammar.proofs.Expressions.{Ends, stops, related_none}

-- ---- and then, twice

then_then : {X Y Z : Type 0} (r : Answer X) (f : X → Part Y) (g : Y → Part Z)
    → and_then (and_then r f) g ≡ and_then r (λ x ts. and_then (f x ts) g)
then_then Refused f g = refl
then_then (Found x ts) f g = refl

-- ---- what is made of what was read and what follows it

pub first_fails : {X Y : Type 0} (wants : Type 0) (e : ParseFault) (r : Answer X) (f : X → Part Y)
    (whole : Answer Y) → whole ≡ and_then r f → Fails wants e r → Fails wants e whole
first_fails wants e r f whole is h = fails_through wants e h (λ none. is ∙ ap (λ x. and_then x f) none)

pub then_makes : {E : Type 0} (is : E → ExprSyntax → Type 0) (wants : Type 0)
    (result : Result E ParseFault) (x : E) (r whole : Answer ExprSyntax) (f : ExprSyntax → Part ExprSyntax)
    (mid rest : List Token) → whole ≡ and_then r f → Finds is x r mid
    → ((a : ExprSyntax) → is x a → IsMadeOf wants is result (f a mid) rest)
    → IsMadeOf wants is result whole rest
then_makes is wants result x r whole f mid rest same found next =
    rw (same, found.found) (next found.syntax found.same)

pub then_nothing : {E : Type 0} (is : E → ExprSyntax → Type 0) (x : E) (r whole : Answer ExprSyntax)
    (f : ExprSyntax → Part ExprSyntax) (mid : List Token) → whole ≡ and_then r f → Finds is x r mid
    → ((a : ExprSyntax) → f a mid ≡ Found a mid) → Finds is x whole mid
then_nothing is x r whole f mid same found ends = record {
  syntax = found.syntax;
  found = same ∙ ap (λ y. and_then y f) found.found ∙ ends found.syntax;
  same = found.same;
}

-- ---- the first factor

term_splits : (inner : Part ExprSyntax) (ts : List Token)
    → term inner ts ≡ and_then (factor inner ts) (factors inner)
unfolding term chain
term_splits inner ts = refl

sum_splits : (inner : Part ExprSyntax) (ts : List Token)
    → sum inner ts ≡ and_then (factor inner ts) (λ a us. and_then (factors inner a us) (terms inner))
unfolding sum chain
sum_splits inner ts =
    ap (λ r. and_then r (terms inner)) (term_splits inner ts)
    ∙ then_then (factor inner ts) (factors inner) (terms inner)

comparison_splits : (inner : Part ExprSyntax) (ts : List Token)
    → comparison inner ts ≡ and_then (factor inner ts)
    (λ a us. and_then (and_then (factors inner a us) (terms inner)) (related (sum inner)))
unfolding comparison
comparison_splits inner ts =
    ap (λ r. and_then r (related (sum inner))) (sum_splits inner ts)
    ∙ then_then (factor inner ts) (λ a us. and_then (factors inner a us) (terms inner))
    (related (sum inner))

found_again : (r : Answer ExprSyntax) → r ≡ and_then r (λ a us. Found a us)
found_again Refused = refl
found_again (Found a us) = refl

same_then : {X : Type 0} (r : Answer X) (f g : X → Part X) → ((x : X) (us : List Token) → f x us ≡ g x us) → and_then r f ≡ and_then r g
same_then Refused f g same = refl
same_then (Found x us) f g same = same x us

pub splits_at_factor : (inner : Part ExprSyntax) (l : Level) (ts : List Token)
    → looseness l < looseness level.Negation
    → of_level inner l ts ≡ and_then (factor inner ts) (after_factor inner l)
unfolding after_factor after_term after_sum
splits_at_factor inner level.Disjunction ts h = absurd (omega arith)
splits_at_factor inner level.Conjunction ts h = absurd (omega arith)
splits_at_factor inner level.Negation ts h = absurd (omega arith)
splits_at_factor inner level.Comparison ts h =
    comparison_splits inner ts
    ∙ same_then (factor inner ts) _ _ (λ a us. then_then (factors inner a us) (terms inner) (related (sum inner)))
splits_at_factor inner level.Sum ts h =
    sum_splits inner ts
    ∙ same_then (factor inner ts) _ _ (λ a us. same_then (factors inner a us) _ _ (λ b vs. found_again (terms inner b vs)))
splits_at_factor inner level.Term ts h =
    term_splits inner ts ∙ same_then (factor inner ts) _ _ (λ a us. found_again (factors inner a us))
splits_at_factor inner level.Factor ts h = found_again (factor inner ts)

-- ---- the first negation

conjunction_splits : (inner : Part ExprSyntax) (ts : List Token)
    → conjunction inner ts ≡ and_then (negation inner ts) (negations inner)
unfolding conjunction chain
conjunction_splits inner ts = refl

disjunction_splits : (inner : Part ExprSyntax) (ts : List Token)
    → disjunction inner ts ≡ and_then (negation inner ts)
    (λ a us. and_then (negations inner a us) (conjunctions inner))
unfolding disjunction chain
disjunction_splits inner ts =
    ap (λ r. and_then r (conjunctions inner)) (conjunction_splits inner ts)
    ∙ then_then (negation inner ts) (negations inner) (conjunctions inner)

pub splits_at_negation : (inner : Part ExprSyntax) (l : Level) (ts : List Token)
    → looseness level.Negation < looseness l
    → of_level inner l ts ≡ and_then (negation inner ts) (after_negation inner l)
unfolding after_negation after_conjunction
splits_at_negation inner level.Disjunction ts h = disjunction_splits inner ts
splits_at_negation inner level.Conjunction ts h =
    conjunction_splits inner ts ∙ same_then (negation inner ts) _ _ (λ a us. found_again (negations inner a us))
splits_at_negation inner level.Negation ts h = absurd (omega arith)
splits_at_negation inner level.Comparison ts h = absurd (omega arith)
splits_at_negation inner level.Sum ts h = absurd (omega arith)
splits_at_negation inner level.Term ts h = absurd (omega arith)
splits_at_negation inner level.Factor ts h = absurd (omega arith)

-- ---- if no operator comes next

no_operator : (l : Level) (k : Lexeme) → is_operator k ≡ false → operator l k ≡ None
no_operator level.Disjunction (Fixed mark.Or) e = cc
no_operator level.Conjunction (Fixed mark.And) e = cc
no_operator level.Comparison (Fixed mark.Equal) e = cc
no_operator level.Comparison (Fixed mark.NotEqual) e = cc
no_operator level.Comparison (Fixed mark.Less) e = cc
no_operator level.Comparison (Fixed mark.AtMost) e = cc
no_operator level.Comparison (Fixed mark.Greater) e = cc
no_operator level.Comparison (Fixed mark.AtLeast) e = cc
no_operator level.Sum (Fixed mark.Plus) e = cc
no_operator level.Sum (Fixed mark.Minus) e = cc
no_operator level.Term (Fixed mark.Star) e = cc
no_operator level.Term (Fixed mark.Div) e = cc
no_operator level.Term (Fixed mark.Mod) e = cc
no_operator _ _ e = refl

nothing_follows : (l : Level) (ts : List Token) → begins_operator ts ≡ false → Ends l ts
nothing_follows l [] e = tt
nothing_follows l (t ∷ ts) e = λ m below. no_operator m t.lexeme e

no_more : (l : Level) (part : Part ExprSyntax) (a : ExprSyntax) (ts : List Token)
    → begins_operator ts ≡ false → more (joins l) part a ts ≡ Found a ts
no_more l part a ts e =
    chain_stops (joins l) part (length ts) a ts (stops l ts (nothing_follows l ts e)) (omega arith)

pub factor_ends : (inner : Part ExprSyntax) (l : Level) (a : ExprSyntax) (ts : List Token)
    → begins_operator ts ≡ false → after_factor inner l a ts ≡ Found a ts
unfolding after_factor after_term after_sum
factor_ends inner level.Comparison a ts e =
    rw (no_more level.Term (factor inner) a ts e, no_more level.Sum (term inner) a ts e)
    (related_none (sum inner) a ts (nothing_follows level.Comparison ts e))
factor_ends inner level.Sum a ts e =
    rw (no_more level.Term (factor inner) a ts e, no_more level.Sum (term inner) a ts e) refl
factor_ends inner level.Term a ts e = rw (no_more level.Term (factor inner) a ts e) refl
factor_ends inner level.Disjunction a ts e = refl
factor_ends inner level.Conjunction a ts e = refl
factor_ends inner level.Negation a ts e = refl
factor_ends inner level.Factor a ts e = refl

pub negation_ends : (inner : Part ExprSyntax) (l : Level) (a : ExprSyntax) (ts : List Token)
    → begins_operator ts ≡ false → after_negation inner l a ts ≡ Found a ts
unfolding after_negation after_conjunction
negation_ends inner level.Disjunction a ts e =
    rw (no_more level.Conjunction (negation inner) a ts e)
    (no_more level.Disjunction (conjunction inner) a ts e)
negation_ends inner level.Conjunction a ts e = rw (no_more level.Conjunction (negation inner) a ts e) refl
negation_ends inner level.Negation a ts e = refl
negation_ends inner level.Comparison a ts e = refl
negation_ends inner level.Sum a ts e = refl
negation_ends inner level.Term a ts e = refl
negation_ends inner level.Factor a ts e = refl

-- ---- levels that are read already

-- what follows a factor begins with the rest of the term, and what follows a negation with the rest of the
-- conjunction
pub factors_first : (inner : Part ExprSyntax) (l : Level) (a : ExprSyntax) (ts : List Token)
    → (l ≡ level.Comparison) ⊎ ((l ≡ level.Sum) ⊎ (l ≡ level.Term))
    → after_factor inner l a ts ≡ and_then (factors inner a ts) (after_term inner l)
unfolding after_factor
factors_first inner l a ts (inl e) = rw e refl
factors_first inner l a ts (inr (inl e)) = rw e refl
factors_first inner l a ts (inr (inr e)) = rw e refl

pub terms_first : (inner : Part ExprSyntax) (l : Level) (a : ExprSyntax) (ts : List Token)
    → (l ≡ level.Comparison) ⊎ (l ≡ level.Sum)
    → after_term inner l a ts ≡ and_then (terms inner a ts) (after_sum inner l)
unfolding after_term
terms_first inner l a ts (inl e) = rw e refl
terms_first inner l a ts (inr e) = rw e refl

pub negations_first : (inner : Part ExprSyntax) (l : Level) (a : ExprSyntax) (ts : List Token)
    → (l ≡ level.Disjunction) ⊎ (l ≡ level.Conjunction)
    → after_negation inner l a ts ≡ and_then (negations inner a ts) (after_conjunction inner l)
unfolding after_negation
negations_first inner l a ts (inl e) = rw e refl
negations_first inner l a ts (inr e) = rw e refl

pub factor_alone : (inner : Part ExprSyntax) (l : Level) (a : ExprSyntax) (ts : List Token)
    → (l ≡ level.Comparison → ⊥) → (l ≡ level.Sum → ⊥) → (l ≡ level.Term → ⊥)
    → after_factor inner l a ts ≡ Found a ts
unfolding after_factor
factor_alone inner level.Comparison a ts x y z = absurd (x refl)
factor_alone inner level.Sum a ts x y z = absurd (y refl)
factor_alone inner level.Term a ts x y z = absurd (z refl)
factor_alone inner level.Disjunction a ts x y z = refl
factor_alone inner level.Conjunction a ts x y z = refl
factor_alone inner level.Negation a ts x y z = refl
factor_alone inner level.Factor a ts x y z = refl

pub negation_alone : (inner : Part ExprSyntax) (l : Level) (a : ExprSyntax) (ts : List Token)
    → (l ≡ level.Disjunction → ⊥) → (l ≡ level.Conjunction → ⊥)
    → after_negation inner l a ts ≡ Found a ts
unfolding after_negation
negation_alone inner level.Disjunction a ts x y = absurd (x refl)
negation_alone inner level.Conjunction a ts x y = absurd (y refl)
negation_alone inner level.Negation a ts x y = refl
negation_alone inner level.Comparison a ts x y = refl
negation_alone inner level.Sum a ts x y = refl
negation_alone inner level.Term a ts x y = refl
negation_alone inner level.Factor a ts x y = refl

pub term_alone : (inner : Part ExprSyntax) (l : Level) (a : ExprSyntax) (ts : List Token)
    → (l ≡ level.Comparison → ⊥) → (l ≡ level.Sum → ⊥) → after_term inner l a ts ≡ Found a ts
unfolding after_term
term_alone inner level.Comparison a ts x y = absurd (x refl)
term_alone inner level.Sum a ts x y = absurd (y refl)
term_alone inner level.Term a ts x y = refl
term_alone inner level.Disjunction a ts x y = refl
term_alone inner level.Conjunction a ts x y = refl
term_alone inner level.Negation a ts x y = refl
term_alone inner level.Factor a ts x y = refl

pub sum_alone : (inner : Part ExprSyntax) (l : Level) (a : ExprSyntax) (ts : List Token)
    → (l ≡ level.Comparison → ⊥) → after_sum inner l a ts ≡ Found a ts
unfolding after_sum
sum_alone inner level.Comparison a ts x = absurd (x refl)
sum_alone inner level.Sum a ts x = refl
sum_alone inner level.Term a ts x = refl
sum_alone inner level.Disjunction a ts x = refl
sum_alone inner level.Conjunction a ts x = refl
sum_alone inner level.Negation a ts x = refl
sum_alone inner level.Factor a ts x = refl

pub conjunction_alone : (inner : Part ExprSyntax) (l : Level) (a : ExprSyntax) (ts : List Token)
    → (l ≡ level.Disjunction → ⊥) → after_conjunction inner l a ts ≡ Found a ts
unfolding after_conjunction
conjunction_alone inner level.Disjunction a ts x = absurd (x refl)
conjunction_alone inner level.Conjunction a ts x = refl
conjunction_alone inner level.Negation a ts x = refl
conjunction_alone inner level.Comparison a ts x = refl
conjunction_alone inner level.Sum a ts x = refl
conjunction_alone inner level.Term a ts x = refl
conjunction_alone inner level.Factor a ts x = refl

-- ---- a relation

pub one_sum : {E : Type 0} (is : E → ExprSyntax → Type 0) (x : E) (part : Part ExprSyntax) (a : ExprSyntax)
    (ts mid : List Token) → TakesOperator level.Comparison None ts mid → is x a
    → Finds is x (related part a ts) mid
unfolding related
one_sum is x part a [] mid stop h = record { syntax = a; found = ap (Found a) (sym stop.0); same = h }
one_sum is x part a (t ∷ ts) mid stop h =
    record { syntax = a; found = rw stop.1 (ap (Found a) (sym stop.0)); same = h }

pub two_sums : {E : Type 0} (is : E → ExprSyntax → Type 0) (wants : Type 0) (result : Result E ParseFault)
    (part : Part ExprSyntax) (a : ExprSyntax) (op : BinaryOp) (ts mid rest : List Token)
    → TakesOperator level.Comparison (Some op) ts mid
    → IsMadeOf wants is result (joined op a (part mid)) rest → IsMadeOf wants is result (related part a ts) rest
unfolding related
two_sums is wants result part a op ts mid rest taken made = rw (taken.1, taken.2) made
