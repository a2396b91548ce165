-- The reading of statements as a function, with `deeper` for those inside.
-- Of the public contracts only that of `read` cites this file.
use Rattle.std.specs.Prelude.{ℕ, zero, suc, Bool, true, false, List, []}
use Rattle.std.specs.Prelude.{◌∷◌, ◌++◌, Option, Some, None}
use Rattle.pb_lexer.specs.declared.token.Mark.{Mark}
use Rattle.pb_lexer.specs.declared.token.Mark.TheVariants as mark
use Rattle.pb_lexer.specs.Tokens.{Lexeme, Name, Number, Fixed, Token}
use Rattle.pb_tree.specs.Syntax as tree
use Rattle.pb_tree.specs.Syntax.{StmtsSyntax, ArmsSyntax, DemandSyntax, NameSyntax, NumberSyntax}
use Rattle.pb_grammar.specs.Grammar.{name_at, number_at}
use Rattle.pb_grammar.specs.Lists.{single, single_arm, append, append_arms}
use Rattle.pb_grammar.specs.Reader.{Answer, Refused, Found, Part, Join, and_then, is_mark, expect, chain}
use Rattle.pb_grammar.specs.ExpressionReader.{expression}

-- a part, and then the symbol or word
abbrev pub then_mark : {X : Type 0} → Mark → Answer X → Answer X
then_mark m answer = and_then answer (λ x rest. and_then (expect m rest) (λ _ after. Found x after))

-- the way to join two parts, if it was tested
abbrev pub joined_if : {X : Type 0} → (X → X → X) → Bool → Option (X → X → X)
joined_if f true = Some f
joined_if f false = None

-- parts with a symbol or word between them
unfoldable pub between : {X : Type 0} → Mark → (X → X → X) → Join X
between m f k = joined_if f (is_mark m k)

-- a name, by its token t
abbrev pub name_by : Token → Lexeme → Part NameSyntax
name_by t (Name x) ts = Found (name_at t x) ts
name_by t _ ts = Refused

-- a name
abbrev pub a_name : Part NameSyntax
a_name [] = Refused
a_name (t ∷ ts) = name_by t t.lexeme ts

-- a number, by its token t
abbrev pub number_by : Token → Lexeme → Part NumberSyntax
number_by t (Number n) ts = Found (number_at t n) ts
number_by t _ ts = Refused

-- a number
abbrev pub a_number : Part NumberSyntax
a_number [] = Refused
a_number (t ∷ ts) = number_by t t.lexeme ts

-- pair = number "of" name
unfoldable pub a_pair : Part (List DemandSyntax)
a_pair ts = and_then (then_mark mark.Of (a_number ts)) (λ n rest. and_then (a_name rest) (λ x after.
    Found (record { amount = n; resource = x } ∷ []) after))

-- one list after another
abbrev pub concat : {X : Type 0} → List X → List X → List X
concat a b = a ++ b

-- pairs = pair { "," pair }
unfoldable pub pairs : Part (List DemandSyntax)
pairs = chain (between mark.Comma concat) a_pair

-- list = stmt { ";" stmt }
unfoldable pub list : Part StmtsSyntax → Part StmtsSyntax
list deeper = chain (between mark.Semicolon append) deeper

-- a statement as an arm
unfoldable pub an_arm : Part StmtsSyntax → Part ArmsSyntax
an_arm deeper ts = and_then (deeper ts) (λ a rest. Found (single_arm a) rest)

-- arms = stmt { ";" stmt }
unfoldable pub arms_part : Part StmtsSyntax → Part ArmsSyntax
arms_part deeper = chain (between mark.Semicolon append_arms) (an_arm deeper)

-- what was read after "else", if that was tested; else no statement
abbrev pub otherwise_by : Bool → Answer StmtsSyntax → List Token → Answer StmtsSyntax
otherwise_by true some ts = some
otherwise_by false some ts = Found tree.no_stmt ts

-- what is after "else", if that comes next
unfoldable pub otherwise : Part StmtsSyntax → Part StmtsSyntax
otherwise deeper [] = Found tree.no_stmt []
otherwise deeper (t ∷ ts) = otherwise_by (is_mark mark.Else t.lexeme) (list deeper ts) (t ∷ ts)

-- what is after the first token of a statement, by its kind
abbrev pub assign : ℕ → Token → List ℕ → Part StmtsSyntax
assign d t x ts = and_then (expect mark.Assign ts) (λ _ us. and_then (expression d us) (λ e rest.
    Found (single (tree.assign t.line (name_at t x) e)) rest))

-- "print" expr, after its first word
abbrev pub print : ℕ → ℕ → Part StmtsSyntax
print d line ts = and_then (expression d ts) (λ e rest. Found (single (tree.print line e)) rest)

-- "if" expr "then" list [ "else" list ] "fi", after its first word
abbrev pub if_else : ℕ → Part StmtsSyntax → ℕ → Part StmtsSyntax
if_else d deeper line ts = and_then (then_mark mark.Then (expression d ts)) (λ e us.
    and_then (list deeper us) (λ a vs. and_then (then_mark mark.Fi (otherwise deeper vs)) (λ b rest.
    Found (single (tree.if_else line e a b)) rest)))

-- "while" expr "do" list "od", after its first word
abbrev pub while_do : ℕ → Part StmtsSyntax → ℕ → Part StmtsSyntax
while_do d deeper line ts = and_then (then_mark mark.Do (expression d ts)) (λ e us.
    and_then (then_mark mark.Od (list deeper us)) (λ a rest. Found (single (tree.while_do line e a)) rest))

-- "hold" pairs "do" list "od", after its first word
abbrev pub hold : Part StmtsSyntax → ℕ → Part StmtsSyntax
hold deeper line ts = and_then (then_mark mark.Do (pairs ts)) (λ ps us.
    and_then (then_mark mark.Od (list deeper us)) (λ a rest. Found (single (tree.hold line ps a)) rest))

-- "parbegin" arms "parend", after its first word
abbrev pub parbegin : Part StmtsSyntax → ℕ → Part StmtsSyntax
parbegin deeper line ts = and_then (then_mark mark.Parend (arms_part deeper ts)) (λ a rest.
    Found (single (tree.parbegin line a)) rest)

-- a statement, by its first token t
abbrev pub statement_by : ℕ → Part StmtsSyntax → Token → Lexeme → Part StmtsSyntax
statement_by d deeper t (Name x) ts = assign d t x ts
statement_by d deeper t (Fixed mark.Skip) ts = Found tree.no_stmt ts
statement_by d deeper t (Fixed mark.Print) ts = print d t.line ts
statement_by d deeper t (Fixed mark.If) ts = if_else d deeper t.line ts
statement_by d deeper t (Fixed mark.While) ts = while_do d deeper t.line ts
statement_by d deeper t (Fixed mark.Hold) ts = hold deeper t.line ts
statement_by d deeper t (Fixed mark.Parbegin) ts = parbegin deeper t.line ts
statement_by d deeper t (Fixed mark.Begin) ts = then_mark mark.End (list deeper ts)
statement_by d deeper t _ ts = Refused

-- a statement with fewer than `depth` brackets round it and in it
unfoldable pub statement : ℕ → Part StmtsSyntax
statement zero ts = Refused
statement (suc d) [] = Refused
statement (suc d) (t ∷ ts) = statement_by d (statement d) t t.lexeme ts
