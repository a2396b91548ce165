-- What a method of the parser ensures: each gives the result of a reading function, unless out of memory. No
-- public contract cites this file.
use Rattle.std.specs.Prelude.{◌≡◌, ℕ, Bool, true, false, List, ◌∷◌}
use Rattle.std.specs.Prelude.{Option, Some, None, Result, Ok, Err}
use Rattle.pb_base.specs.declared.operators.UnaryOp.{UnaryOp}
use Rattle.pb_base.specs.declared.operators.BinaryOp.{BinaryOp}
use Rattle.pb_lexer.specs.declared.token.Mark.{Mark}
use Rattle.pb_lexer.specs.declared.token.Token.{Token as Given}
use Rattle.pb_lexer.specs.Tokens.{Token, token}
use Rattle.pb_tree.specs.Syntax as tree
use Rattle.pb_tree.specs.Syntax.{NameSyntax, ExprSyntax}
use Rattle.pb_grammar.specs.declared.fault.ParseFault.{ParseFault}
use Rattle.pb_grammar.specs.declared.fault.ParseFault.TheVariants as fault
use Rattle.pb_grammar.specs.declared.level.Level.{Level}
use Rattle.pb_grammar.specs.Grammar.{name_at}
use Rattle.pb_grammar.specs.Making.{Fails, Finds}
use Rattle.pb_grammar.specs.Reader.{Answer, Refused, Found, Stops, is_mark, expect}
use Rattle.pb_grammar.specs.ExpressionReader.{joins, signs}

-- the token that a list begins with
abbrev pub Begins : List Token → Token → Type 0
Begins ts t = (after : List Token) × (ts ≡ t ∷ after)

-- the result is what was read; this takes no memory
abbrev pub Gives : {X Y : Type 0} → (X → Y) → Result X ParseFault → Answer Y → List Token → Type 0
Gives view (Ok x) answer rest = answer ≡ Found (view x) rest
Gives view (Err e) answer rest = Fails ⊥ e answer

-- a name that a token says
abbrev pub name_said : Given → NameSyntax
name_said t = name_at (token t) (token t).text

-- what was made of the operand after n prefix operators, unless out of memory
abbrev pub Signs : {E : Type 0} → (wants : Type 0) → (E → ExprSyntax → Type 0) → Result E ParseFault → ℕ
    → UnaryOp → E → Type 0
Signs wants is (Ok x) n op operand = (e : ExprSyntax) → is operand e
    → (rest : List Token) → Finds is x (signs n op (Found e rest)) rest
Signs wants is (Err e) n op operand = (e ≡ fault.NoMemory) × wants

-- the next token is taken if it joins more to what was read, by the operator `op`
abbrev pub TakesOperator : Level → Option BinaryOp → List Token → List Token → Type 0
TakesOperator l (Some op) old new =
    (t : Token) × (old ≡ t ∷ new) × (joins l t.lexeme ≡ Some (tree.binary op))
TakesOperator l None old new = (new ≡ old) × Stops (joins l) old

-- the next token is taken if it is the symbol or word
abbrev pub TakesMark : Mark → Bool → List Token → List Token → Type 0
TakesMark m true old new = (t : Token) × (old ≡ t ∷ new) × (is_mark m t.lexeme ≡ true)
TakesMark m false old new = (new ≡ old) × (expect m old ≡ Refused)
