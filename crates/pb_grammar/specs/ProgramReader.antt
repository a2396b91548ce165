-- The reading of programs as a function. Of the public contracts only that of `read` cites this file.
use Rattle.std.specs.Prelude.{ℕ, Bool, true, false, List, [], ◌∷◌, length}
use Rattle.pb_lexer.specs.declared.token.Mark.TheVariants as mark
use Rattle.pb_lexer.specs.Tokens.{Token}
use Rattle.pb_tree.specs.Syntax.{NameSyntax, ResourceSyntax, ProcessSyntax, ProgramSyntax}
use Rattle.pb_grammar.specs.Reader.{Answer, Found, Part, and_then, is_mark, expect, ended, chain, chain_from}
use Rattle.pb_grammar.specs.StatementReader.{then_mark, between, concat, a_name, a_number, list, statement}

-- the list of one name
unfoldable pub one_name : Part (List NameSyntax)
one_name ts = and_then (a_name ts) (λ x rest. Found (x ∷ []) rest)

-- names = name { "," name }
unfoldable pub names : Part (List NameSyntax)
names = chain (between mark.Comma concat) one_name

-- resource = "resource" name "=" number ";", after its first word
unfoldable pub a_resource : Part (List ResourceSyntax)
a_resource ts = and_then (then_mark mark.Equal (a_name ts)) (λ x us.
    and_then (then_mark mark.Semicolon (a_number us)) (λ n rest.
    Found (record { name = x; capital = n } ∷ []) rest))

-- resources = { resource }
unfoldable pub resources_part : Part (List ResourceSyntax)
resources_part ts = chain_from (between mark.Resource concat) a_resource (length ts) [] ts

-- the names that were read, if the first word declares integers; else none
abbrev pub integers_by : Bool → Answer (List NameSyntax) → List Token → Answer (List NameSyntax)
integers_by true some ts = some
integers_by false some ts = Found [] ts

-- the names of integers, if some are declared
unfoldable pub integers : Part (List NameSyntax)
integers [] = Found [] []
integers (t ∷ ts) = integers_by (is_mark mark.Integer t.lexeme) (then_mark mark.Semicolon (names ts)) (t ∷ ts)

-- process = "process" name "begin" [ "integer" names ";" ] list "end", after its first word
unfoldable pub a_process : ℕ → Part (List ProcessSyntax)
a_process d ts = and_then (then_mark mark.Begin (a_name ts)) (λ x us. and_then (integers us) (λ xs vs.
    and_then (then_mark mark.End (list (statement d) vs)) (λ a rest.
    Found (record { name = x; integers = xs; body = a } ∷ []) rest)))

-- processes = process { process }
unfoldable pub processes_part : ℕ → Part (List ProcessSyntax)
processes_part d ts = and_then (expect mark.Process ts) (λ _ us.
    chain (between mark.Process concat) (a_process d) us)

-- program = resources processes
unfoldable pub program : ℕ → Part ProgramSyntax
program d ts = and_then (resources_part ts) (λ rs us. and_then (processes_part d us) (λ ps vs.
    and_then (ended vs) (λ _ rest. Found (record { resources = rs; processes = ps }) rest)))
