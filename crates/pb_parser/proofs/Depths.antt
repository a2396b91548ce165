-- Tokens that do not nest too deep are read within a depth of 257.
use Rattle.std.proofs.Common.{◌≡◌, ℕ, ◌+◌, ◌-◌, ◌≤◌, ◌<◌, List, [], ◌∷◌, ◌++◌, fold, Some, refl, ap, subst, ◌∙◌, inl}
use Rattle.std.proofs.Common.{arith}
use Rattle.pb_base.specs.declared.operators.BinaryOp.{BinaryOp}
use Rattle.pb_lexer.specs.declared.token.Mark.TheVariants as mark
use Rattle.pb_lexer.specs.Tokens.{Lexeme, Name, Number, Fixed, Token}
use Rattle.pb_tree.specs.Syntax.{NameSyntax, ExprSyntax, DemandSyntax, StmtsSyntax, ArmsSyntax, ResourceSyntax}
use Rattle.pb_tree.specs.Syntax.{ProcessSyntax, ProgramSyntax}
use Rattle.pb_grammar.specs.declared.level.Level.{Level}
use Rattle.pb_grammar.specs.declared.level.Level.TheVariants as level
use Rattle.pb_grammar.specs.Grammar as expr
use Rattle.pb_grammar.specs.Grammar.{Reads, operator}
use Rattle.pb_grammar.specs.Statements as stmt
use Rattle.pb_grammar.specs.Statements.{ReadsPair, ReadsPairs, ReadsStmt, ReadsList, ReadsArms}
use Rattle.pb_grammar.specs.Programs as prog
use Rattle.pb_grammar.specs.Programs.{ReadsNames, ReadsResource, ReadsResources, ReadsProcess, ReadsProcesses}
use Rattle.pb_grammar.specs.Programs.{ReadsProgram}
use Rattle.pb_parser.specs.Nesting.{open_after, open_behind, NestsTooDeep}
use Rattle.pb_grammar.proofs.Expressions.{brackets, home, home_is, rank_pos}
use Rattle.pb_grammar.proofs.StatementLaws.{stmt_depth, list_depth, arms_depth}
use Rattle.pb_grammar.proofs.ProgramLaws.{process_depth, processes_depth, program_depth}

-- at most 256 are open after each of the tokens, if n are open before them
abbrev pub Shallow : ℕ → List Token → Type 0
Shallow n [] = Unit {0}
Shallow n (t ∷ ts) = (open_after n t.lexeme ≤ 256) × Shallow (open_after n t.lexeme) ts

-- ---- past one token

on : (n k : ℕ) (t : Token) (ts : List Token) → Shallow n (t ∷ ts) → open_after n t.lexeme ≡ k → (k ≤ 256) × Shallow k ts
on n k t ts h e = subst (λ x. (x ≤ 256) × Shallow x ts) e h

past : (n : ℕ) (t : Token) (ts : List Token) (x : Lexeme) → Shallow n (t ∷ ts) → t.lexeme ≡ x → open_after n x ≡ n → Shallow n ts
past n t ts x h is flat = (on n n t ts h (ap (open_after n) is ∙ flat)).1

opening : (n : ℕ) (t : Token) (ts : List Token) (x : Lexeme) → Shallow n (t ∷ ts) → t.lexeme ≡ x → open_after n x ≡ n + 1
    → (n + 1 ≤ 256) × Shallow (n + 1) ts
opening n t ts x h is opens = on n (n + 1) t ts h (ap (open_after n) is ∙ opens)

closing : (n : ℕ) (t : Token) (ts : List Token) (x : Lexeme) → Shallow (n + 1) (t ∷ ts) → t.lexeme ≡ x
    → open_after (n + 1) x ≡ n + 1 - 1 → Shallow n ts
closing n t ts x h is closes =
    let back : n + 1 - 1 ≡ n = omega arith in
    (on (n + 1) n t ts h (ap (open_after (n + 1)) is ∙ closes ∙ back)).1

-- an operator opens and closes nothing
no_home : (l : Level) (k : Lexeme) (op : BinaryOp) → operator l k ≡ Some op → home k ≡ 0 → ⊥
no_home l k op h none = let is = home_is l k op h in let some = rank_pos l in omega arith

operator_flat : (l : Level) (k : Lexeme) (op : BinaryOp) (n : ℕ) → operator l k ≡ Some op → open_after n k ≡ n
operator_flat l (Fixed mark.Open) op n h = absurd (no_home l _ op h refl)
operator_flat l (Fixed mark.Begin) op n h = absurd (no_home l _ op h refl)
operator_flat l (Fixed mark.If) op n h = absurd (no_home l _ op h refl)
operator_flat l (Fixed mark.While) op n h = absurd (no_home l _ op h refl)
operator_flat l (Fixed mark.Hold) op n h = absurd (no_home l _ op h refl)
operator_flat l (Fixed mark.Parbegin) op n h = absurd (no_home l _ op h refl)
operator_flat l (Fixed mark.Close) op n h = absurd (no_home l _ op h refl)
operator_flat l (Fixed mark.End) op n h = absurd (no_home l _ op h refl)
operator_flat l (Fixed mark.Fi) op n h = absurd (no_home l _ op h refl)
operator_flat l (Fixed mark.Od) op n h = absurd (no_home l _ op h refl)
operator_flat l (Fixed mark.Parend) op n h = absurd (no_home l _ op h refl)
operator_flat l _ op n h = refl

-- ---- expressions

expr_shallow : {l : Level} {ts rest : List Token} {x : ExprSyntax} (r : Reads l ts x rest) (n : ℕ) → n ≤ 256 → Shallow n ts
    → (n + brackets r ≤ 256) × Shallow n rest
expr_shallow (expr.tight r) n low h = expr_shallow r n low h
expr_shallow (expr.chain {l = l} {mid = mid} {t = t} {op = op} c is a b) n low h =
    let x = expr_shallow a n low h in
    let y = expr_shallow b n low (past n t mid t.lexeme x.1 refl (operator_flat l t.lexeme op n is)) in
    (omega arith, y.1)
expr_shallow (expr.negation {ts = ts} {t = t} is r) n low h = expr_shallow r n low (past n t ts (Fixed mark.Not) h is refl)
expr_shallow (expr.comparison {mid = mid} {t = t} {op = op} is a b) n low h =
    let x = expr_shallow a n low h in
    let y = expr_shallow b n low (past n t mid t.lexeme x.1 refl (operator_flat level.Comparison t.lexeme op n is)) in
    (omega arith, y.1)
expr_shallow (expr.minus {ts = ts} {t = t} is r) n low h = expr_shallow r n low (past n t ts (Fixed mark.Minus) h is refl)
expr_shallow (expr.number {rest = rest} {t = t} {n = v} is) n low h = (omega arith, past n t rest (Number v) h is refl)
expr_shallow (expr.variable {rest = rest} {t = t} {x = x} is) n low h = (omega arith, past n t rest (Name x) h is refl)
expr_shallow (expr.group {ts = ts} {rest = rest} {t = t} {u = u} is to r) n low h =
    let o = opening n t ts (Fixed mark.Open) h is refl in
    let x = expr_shallow r (n + 1) o.0 o.1 in
    (omega arith, closing n u rest (Fixed mark.Close) x.1 to refl)

-- ---- statements

pair_shallow : {ts rest : List Token} {d : DemandSyntax} → ReadsPair ts d rest → (n : ℕ) → Shallow n ts → Shallow n rest
pair_shallow (stmt.pair {t = t} {u = u} {v = v} {rest = rest} {n = amount} {x = x} a b c) n h =
    let i = past n t (u ∷ v ∷ rest) (Number amount) h a refl in
    let j = past n u (v ∷ rest) (Fixed mark.Of) i b refl in
    past n v rest (Name x) j c refl

pairs_shallow : {ts rest : List Token} {ds : List DemandSyntax} → ReadsPairs ts ds rest → (n : ℕ) → Shallow n ts → Shallow n rest
pairs_shallow (stmt.one r) n h = pair_shallow r n h
pairs_shallow (stmt.more {mid = mid} {t = t} l is r) n h = pair_shallow r n (past n t mid (Fixed mark.Comma) (pairs_shallow l n h) is refl)

mutual
  stmt_shallow : {ts rest : List Token} {a : StmtsSyntax} (r : ReadsStmt ts a rest) (n : ℕ) → n ≤ 256 → Shallow n ts
      → (n + stmt_depth r ≤ 258) × Shallow n rest
  stmt_shallow (stmt.skip {t = t} {rest = rest} is) n low h = (omega arith, past n t rest (Fixed mark.Skip) h is refl)
  stmt_shallow (stmt.assign {t = t} {u = u} {ts = ts} {x = x} is to r) n low h =
      let i = past n t (u ∷ ts) (Name x) h is refl in
      let y = expr_shallow r n low (past n u ts (Fixed mark.Assign) i to refl) in
      (omega arith, y.1)
  stmt_shallow (stmt.print {t = t} {ts = ts} is r) n low h =
      let y = expr_shallow r n low (past n t ts (Fixed mark.Print) h is refl) in
      (omega arith, y.1)
  stmt_shallow (stmt.if_then {t = t} {u = u} {v = v} {ts = ts} {us = us} {rest = rest} is r th a fi) n low h =
      let o = opening n t ts (Fixed mark.If) h is refl in
      let x = expr_shallow r (n + 1) o.0 o.1 in
      let y = list_shallow a (n + 1) o.0 (past (n + 1) u us (Fixed mark.Then) x.1 th refl) in
      (omega arith, closing n v rest (Fixed mark.Fi) y.1 fi refl)
  stmt_shallow (stmt.if_else {t = t} {u = u} {v = v} {w = w} {ts = ts} {us = us} {vs = vs} {rest = rest} is r th a el b fi) n low h =
      let o = opening n t ts (Fixed mark.If) h is refl in
      let x = expr_shallow r (n + 1) o.0 o.1 in
      let y = list_shallow a (n + 1) o.0 (past (n + 1) u us (Fixed mark.Then) x.1 th refl) in
      let z = list_shallow b (n + 1) o.0 (past (n + 1) v vs (Fixed mark.Else) y.1 el refl) in
      (omega arith, closing n w rest (Fixed mark.Fi) z.1 fi refl)
  stmt_shallow (stmt.while_do {t = t} {u = u} {v = v} {ts = ts} {us = us} {rest = rest} is r dw a od) n low h =
      let o = opening n t ts (Fixed mark.While) h is refl in
      let x = expr_shallow r (n + 1) o.0 o.1 in
      let y = list_shallow a (n + 1) o.0 (past (n + 1) u us (Fixed mark.Do) x.1 dw refl) in
      (omega arith, closing n v rest (Fixed mark.Od) y.1 od refl)
  stmt_shallow (stmt.hold {t = t} {u = u} {v = v} {ts = ts} {us = us} {rest = rest} is ds dw a od) n low h =
      let o = opening n t ts (Fixed mark.Hold) h is refl in
      let x = pairs_shallow ds (n + 1) o.1 in
      let y = list_shallow a (n + 1) o.0 (past (n + 1) u us (Fixed mark.Do) x dw refl) in
      (omega arith, closing n v rest (Fixed mark.Od) y.1 od refl)
  stmt_shallow (stmt.parbegin {t = t} {u = u} {ts = ts} {rest = rest} is a end) n low h =
      let o = opening n t ts (Fixed mark.Parbegin) h is refl in
      let y = arms_shallow a (n + 1) o.0 o.1 in
      (omega arith, closing n u rest (Fixed mark.Parend) y.1 end refl)
  stmt_shallow (stmt.inner {t = t} {u = u} {ts = ts} {rest = rest} is a end) n low h =
      let o = opening n t ts (Fixed mark.Begin) h is refl in
      let y = list_shallow a (n + 1) o.0 o.1 in
      (omega arith, closing n u rest (Fixed mark.End) y.1 end refl)

  list_shallow : {ts rest : List Token} {a : StmtsSyntax} (r : ReadsList ts a rest) (n : ℕ) → n ≤ 256 → Shallow n ts
      → (n + list_depth r ≤ 258) × Shallow n rest
  list_shallow (stmt.first r) n low h = stmt_shallow r n low h
  list_shallow (stmt.next {mid = mid} {t = t} l is r) n low h =
      let x = list_shallow l n low h in
      let y = stmt_shallow r n low (past n t mid (Fixed mark.Semicolon) x.1 is refl) in
      (omega arith, y.1)

  arms_shallow : {ts rest : List Token} {a : ArmsSyntax} (r : ReadsArms ts a rest) (n : ℕ) → n ≤ 256 → Shallow n ts
      → (n + arms_depth r ≤ 258) × Shallow n rest
  arms_shallow (stmt.first_arm r) n low h = stmt_shallow r n low h
  arms_shallow (stmt.next_arm {mid = mid} {t = t} l is r) n low h =
      let x = arms_shallow l n low h in
      let y = stmt_shallow r n low (past n t mid (Fixed mark.Semicolon) x.1 is refl) in
      (omega arith, y.1)

-- ---- programs

names_shallow : {ts rest : List Token} {xs : List NameSyntax} → ReadsNames ts xs rest → (n : ℕ) → Shallow n ts → Shallow n rest
names_shallow (prog.one {t = t} {rest = rest} {x = x} is) n h = past n t rest (Name x) h is refl
names_shallow (prog.more {rest = rest} {t = t} {u = u} {x = x} l is nm) n h =
    past n u rest (Name x) (past n t (u ∷ rest) (Fixed mark.Comma) (names_shallow l n h) is refl) nm refl

resource_shallow : {ts rest : List Token} {r : ResourceSyntax} → ReadsResource ts r rest → (n : ℕ) → Shallow n ts → Shallow n rest
resource_shallow (prog.resource {t = t} {u = u} {v = v} {w = w} {rest = rest} {x = x} {n = capital} a b c d) n h =
    let i = past n t (u ∷ v ∷ w ∷ rest) (Name x) h a refl in
    let j = past n u (v ∷ w ∷ rest) (Fixed mark.Equal) i b refl in
    let k = past n v (w ∷ rest) (Number capital) j c refl in
    past n w rest (Fixed mark.Semicolon) k d refl

resources_shallow : {ts rest : List Token} {rs : List ResourceSyntax} → ReadsResources ts rs rest → (n : ℕ) → Shallow n ts → Shallow n rest
resources_shallow prog.none n h = h
resources_shallow (prog.another {mid = mid} {t = t} l is r) n h = resource_shallow r n (past n t mid (Fixed mark.Resource) (resources_shallow l n h) is refl)

process_shallow : {ts rest : List Token} {x : ProcessSyntax} (r : ReadsProcess ts x rest) → Shallow 0 ts
    → (process_depth r ≤ 257) × Shallow 0 rest
process_shallow (prog.plain {t = t} {u = u} {v = v} {ts = ts} {rest = rest} {x = x} is b l end) h =
    let o = opening 0 u ts (Fixed mark.Begin) (past 0 t (u ∷ ts) (Name x) h is refl) b refl in
    let y = list_shallow l 1 o.0 o.1 in
    (omega arith, closing 0 v rest (Fixed mark.End) y.1 end refl)
process_shallow (prog.integers {t = t} {u = u} {v = v} {w = w} {y = y} {ts = ts} {us = us} {rest = rest} {x = x} is b i ns semi l end) h =
    let o = opening 0 u (v ∷ ts) (Fixed mark.Begin) (past 0 t (u ∷ v ∷ ts) (Name x) h is refl) b refl in
    let k = names_shallow ns 1 (past 1 v ts (Fixed mark.Integer) o.1 i refl) in
    let z = list_shallow l 1 o.0 (past 1 w us (Fixed mark.Semicolon) k semi refl) in
    (omega arith, closing 0 y rest (Fixed mark.End) z.1 end refl)

processes_shallow : {ts rest : List Token} {ps : List ProcessSyntax} (r : ReadsProcesses ts ps rest) → Shallow 0 ts
    → (processes_depth r ≤ 257) × Shallow 0 rest
processes_shallow (prog.one_process {t = t} {ts = ts} is r) h = process_shallow r (past 0 t ts (Fixed mark.Process) h is refl)
processes_shallow (prog.more_processes {mid = mid} {t = t} l is r) h =
    let x = processes_shallow l h in
    let y = process_shallow r (past 0 t mid (Fixed mark.Process) x.1 is refl) in
    (omega arith, y.1)

program_shallow : {ts : List Token} {x : ProgramSyntax} (r : ReadsProgram ts x) → Shallow 0 ts → program_depth r ≤ 257
program_shallow (prog.program rs ps) h = (processes_shallow ps (resources_shallow rs 0 h)).0

-- ---- tokens that do not nest too deep

shallow_unless : (n : ℕ) (ts : List Token)
    → ((before after : List Token) → ts ≡ before ++ after → fold (λ k t. open_after k t.lexeme) n before ≤ 256) → Shallow n ts
shallow_unless n [] h = tt
shallow_unless n (t ∷ ts) h = (h (t ∷ []) ts refl, shallow_unless (open_after n t.lexeme) ts (λ before after e. h (t ∷ before) after (ap (λ r. t ∷ r) e)))

not_over : (n : ℕ) → (256 < n → ⊥) → n ≤ 256
not_over n no_more = omega (arith, no_more)

-- a program whose tokens do not nest too deep is read within a depth of 257
pub within_depth : {ts : List Token} {x : ProgramSyntax} (r : ReadsProgram ts x) → (NestsTooDeep ts → ⊥) → program_depth r ≤ 257
within_depth {ts = ts} r shallow =
    program_shallow r (shallow_unless 0 ts (λ before after e. not_over (open_behind before) (λ over. shallow (inl (before, after, e, over)))))
