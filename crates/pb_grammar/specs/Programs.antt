-- The grammar of programs. A reader must believe these productions, and that `ReadsProgram ts p` says that
-- all the tokens `ts` are the program `p`.
use Rattle.std.specs.Prelude.{◌≡◌, ℕ, ℤ, List, [], ◌∷◌, ◌++◌}
use Rattle.pb_lexer.specs.declared.token.Mark.TheVariants as mark
use Rattle.pb_lexer.specs.Tokens.{Name, Number, Token}
use Rattle.pb_tree.specs.Syntax.{NameSyntax, StmtsSyntax, ResourceSyntax, ProcessSyntax, ProgramSyntax}
use Rattle.pb_grammar.specs.Grammar.{Is, name_at, number_at}
use Rattle.pb_grammar.specs.Statements.{ReadsList}

-- names = name { "," name }
pub data ReadsNames : List Token → List NameSyntax → List Token → Type 0 where
  one : {t : Token} {rest : List Token} {x : List ℕ} → t.lexeme ≡ Name x
      → ReadsNames (t ∷ rest) (name_at t x ∷ []) rest
  more : {ts rest : List Token} {t u : Token} {xs : List NameSyntax} {x : List ℕ}
      → ReadsNames ts xs (t ∷ u ∷ rest) → Is t mark.Comma → u.lexeme ≡ Name x
      → ReadsNames ts (xs ++ (name_at u x ∷ [])) rest

-- resource = "resource" name "=" number ";", after its first word
pub data ReadsResource : List Token → ResourceSyntax → List Token → Type 0 where
  resource : {t u v w : Token} {rest : List Token} {x : List ℕ} {n : ℤ}
      → t.lexeme ≡ Name x → Is u mark.Equal → v.lexeme ≡ Number n → Is w mark.Semicolon
      → ReadsResource (t ∷ u ∷ v ∷ w ∷ rest) (record { name = name_at t x; capital = number_at v n }) rest

-- resources = { resource }
pub data ReadsResources : List Token → List ResourceSyntax → List Token → Type 0 where
  none : {ts : List Token} → ReadsResources ts [] ts
  another : {ts mid rest : List Token} {t : Token} {rs : List ResourceSyntax} {r : ResourceSyntax}
      → ReadsResources ts rs (t ∷ mid) → Is t mark.Resource → ReadsResource mid r rest
      → ReadsResources ts (rs ++ (r ∷ [])) rest

-- process = "process" name "begin" [ "integer" names ";" ] list "end", after its first word
pub data ReadsProcess : List Token → ProcessSyntax → List Token → Type 0 where
  plain : {t u v : Token} {ts rest : List Token} {x : List ℕ} {a : StmtsSyntax}
      → t.lexeme ≡ Name x → Is u mark.Begin → ReadsList ts a (v ∷ rest) → Is v mark.End
      → ReadsProcess (t ∷ u ∷ ts) (record { name = name_at t x; integers = []; body = a }) rest
  integers : {t u v w y : Token} {ts us rest : List Token} {x : List ℕ} {xs : List NameSyntax}
      {a : StmtsSyntax}
      → t.lexeme ≡ Name x → Is u mark.Begin → Is v mark.Integer → ReadsNames ts xs (w ∷ us)
      → Is w mark.Semicolon → ReadsList us a (y ∷ rest) → Is y mark.End
      → ReadsProcess (t ∷ u ∷ v ∷ ts) (record { name = name_at t x; integers = xs; body = a }) rest

-- processes = process { process }
pub data ReadsProcesses : List Token → List ProcessSyntax → List Token → Type 0 where
  one_process : {t : Token} {ts rest : List Token} {p : ProcessSyntax}
      → Is t mark.Process → ReadsProcess ts p rest → ReadsProcesses (t ∷ ts) (p ∷ []) rest
  more_processes : {ts mid rest : List Token} {t : Token} {ps : List ProcessSyntax} {p : ProcessSyntax}
      → ReadsProcesses ts ps (t ∷ mid) → Is t mark.Process → ReadsProcess mid p rest
      → ReadsProcesses ts (ps ++ (p ∷ [])) rest

-- program = resources processes
pub data ReadsProgram : List Token → ProgramSyntax → Type 0 where
  program : {ts mid : List Token} {rs : List ResourceSyntax} {ps : List ProcessSyntax}
      → ReadsResources ts rs mid → ReadsProcesses mid ps []
      → ReadsProgram ts (record { resources = rs; processes = ps })
