-- The grammar of statements. A reader must believe these productions, and that a statement reads as the
-- list that it stands for: `skip` as no statement, `begin .. end` as the statements inside, any other as
-- one.
use Rattle.std.specs.Prelude.{◌≡◌, ℕ, ℤ, List, [], ◌∷◌, ◌++◌}
use Rattle.pb_lexer.specs.declared.token.Mark.TheVariants as mark
use Rattle.pb_lexer.specs.Tokens.{Name, Number, Token}
use Rattle.pb_tree.specs.Syntax as tree
use Rattle.pb_tree.specs.Syntax.{ExprSyntax, StmtsSyntax, ArmsSyntax, DemandSyntax}
use Rattle.pb_grammar.specs.declared.level.Level.TheVariants as level
use Rattle.pb_grammar.specs.Lists.{append, append_arms, single, single_arm}
use Rattle.pb_grammar.specs.Grammar.{Is, Reads, name_at, number_at}

-- an expression
abbrev pub ReadsExpr : List Token → ExprSyntax → List Token → Type 0
ReadsExpr = Reads level.Disjunction

-- pair = number "of" name
pub data ReadsPair : List Token → DemandSyntax → List Token → Type 0 where
  pair : {t u v : Token} {rest : List Token} {n : ℤ} {x : List ℕ}
      → t.lexeme ≡ Number n → Is u mark.Of → v.lexeme ≡ Name x
      → ReadsPair (t ∷ u ∷ v ∷ rest) (record { amount = number_at t n; resource = name_at v x }) rest

-- pairs = pair { "," pair }
pub data ReadsPairs : List Token → List DemandSyntax → List Token → Type 0 where
  one : {ts rest : List Token} {p : DemandSyntax} → ReadsPair ts p rest → ReadsPairs ts (p ∷ []) rest
  more : {ts mid rest : List Token} {t : Token} {ps : List DemandSyntax} {p : DemandSyntax}
      → ReadsPairs ts ps (t ∷ mid) → Is t mark.Comma → ReadsPair mid p rest
      → ReadsPairs ts (ps ++ (p ∷ [])) rest

mutual
  -- `ReadsStmt ts a rest`: some tokens at the front of `ts` are a statement that stands for the list `a`
  pub data ReadsStmt : List Token → StmtsSyntax → List Token → Type 0 where
    -- "skip"
    skip : {t : Token} {rest : List Token} → Is t mark.Skip → ReadsStmt (t ∷ rest) tree.no_stmt rest
    -- name ":=" expr
    assign : {t u : Token} {ts rest : List Token} {x : List ℕ} {e : ExprSyntax}
        → t.lexeme ≡ Name x → Is u mark.Assign → ReadsExpr ts e rest
        → ReadsStmt (t ∷ u ∷ ts) (single (tree.assign t.line (name_at t x) e)) rest
    -- "print" expr
    print : {t : Token} {ts rest : List Token} {e : ExprSyntax} → Is t mark.Print → ReadsExpr ts e rest
        → ReadsStmt (t ∷ ts) (single (tree.print t.line e)) rest
    -- "if" expr "then" list "fi"
    if_then : {t u v : Token} {ts us rest : List Token} {e : ExprSyntax} {a : StmtsSyntax} → Is t mark.If
        → ReadsExpr ts e (u ∷ us) → Is u mark.Then → ReadsList us a (v ∷ rest) → Is v mark.Fi
        → ReadsStmt (t ∷ ts) (single (tree.if_else t.line e a tree.no_stmt)) rest
    -- "if" expr "then" list "else" list "fi"
    if_else : {t u v w : Token} {ts us vs rest : List Token} {e : ExprSyntax} {a b : StmtsSyntax}
        → Is t mark.If → ReadsExpr ts e (u ∷ us) → Is u mark.Then → ReadsList us a (v ∷ vs)
        → Is v mark.Else → ReadsList vs b (w ∷ rest) → Is w mark.Fi
        → ReadsStmt (t ∷ ts) (single (tree.if_else t.line e a b)) rest
    -- "while" expr "do" list "od"
    while_do : {t u v : Token} {ts us rest : List Token} {e : ExprSyntax} {a : StmtsSyntax} → Is t mark.While
        → ReadsExpr ts e (u ∷ us) → Is u mark.Do → ReadsList us a (v ∷ rest) → Is v mark.Od
        → ReadsStmt (t ∷ ts) (single (tree.while_do t.line e a)) rest
    -- "hold" pairs "do" list "od"
    hold : {t u v : Token} {ts us rest : List Token} {ps : List DemandSyntax} {a : StmtsSyntax}
        → Is t mark.Hold → ReadsPairs ts ps (u ∷ us) → Is u mark.Do → ReadsList us a (v ∷ rest) → Is v mark.Od
        → ReadsStmt (t ∷ ts) (single (tree.hold t.line ps a)) rest
    -- "parbegin" arms "parend"
    parbegin : {t u : Token} {ts rest : List Token} {a : ArmsSyntax} → Is t mark.Parbegin
        → ReadsArms ts a (u ∷ rest) → Is u mark.Parend
        → ReadsStmt (t ∷ ts) (single (tree.parbegin t.line a)) rest
    -- "begin" list "end"
    inner : {t u : Token} {ts rest : List Token} {a : StmtsSyntax} → Is t mark.Begin
        → ReadsList ts a (u ∷ rest) → Is u mark.End → ReadsStmt (t ∷ ts) a rest

  -- list = stmt { ";" stmt }
  pub data ReadsList : List Token → StmtsSyntax → List Token → Type 0 where
    first : {ts rest : List Token} {a : StmtsSyntax} → ReadsStmt ts a rest → ReadsList ts a rest
    next : {ts mid rest : List Token} {t : Token} {a b : StmtsSyntax}
        → ReadsList ts a (t ∷ mid) → Is t mark.Semicolon → ReadsStmt mid b rest
        → ReadsList ts (append a b) rest

  -- arms = stmt { ";" stmt }
  pub data ReadsArms : List Token → ArmsSyntax → List Token → Type 0 where
    first_arm : {ts rest : List Token} {a : StmtsSyntax} → ReadsStmt ts a rest
        → ReadsArms ts (single_arm a) rest
    next_arm : {ts mid rest : List Token} {t : Token} {a : ArmsSyntax} {b : StmtsSyntax}
        → ReadsArms ts a (t ∷ mid) → Is t mark.Semicolon → ReadsStmt mid b rest
        → ReadsArms ts (append_arms a (single_arm b)) rest
