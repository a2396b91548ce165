-- A tree that was read from the tokens of a text has the form that the grammar gives.
use Rattle.std.proofs.Common.{ℕ, ◌≤◌, List, [], ◌∷◌, length, arith, length-append}
use Rattle.std.specs.Prelude.{All}
use Rattle.std.proofs.lemmas.List.Elements.{All-nil, All-cons, All-push}
use Rattle.pb_lexer.specs.Cutting.{AreTokensOf}
use Rattle.pb_lexer.specs.Tokens.{Token}
use Rattle.pb_tree.specs.Syntax as tree
use Rattle.pb_grammar.specs.declared.level.Level.{Level}
use Rattle.pb_grammar.specs.Grammar.{Reads, tight, chain, negation, comparison, minus, number, variable, group}
use Rattle.pb_names.specs.Limits.{width}
use Rattle.pb_grammar.specs.Grammar.{name_at}
use Rattle.pb_grammar.specs.Lists.{append, append_arms, single_arm}
use Rattle.pb_grammar.specs.Statements.{ReadsPair, pair, ReadsPairs, ReadsStmt, skip, assign, print, if_then, if_else}
use Rattle.pb_grammar.specs.Statements.{while_do, hold, parbegin, inner, ReadsList, first, next, ReadsArms, first_arm}
use Rattle.pb_grammar.specs.Statements.{next_arm}
use Rattle.pb_grammar.specs.Statements as pairs
use Rattle.pb_grammar.specs.Programs.{ReadsNames, ReadsResource, resource, ReadsResources, none, another}
use Rattle.pb_grammar.specs.Programs.{ReadsProcess, plain, integers, ReadsProcesses, one_process, more_processes}
use Rattle.pb_grammar.specs.Programs.{ReadsProgram, program}
use Rattle.pb_grammar.specs.Programs as names
use Rattle.pb_verifier.specs.Limits.{IsName}
use Rattle.pb_codegen.specs.Form.{IsFull, AreFull, IsFormedProcess, IsFormed}
use Rattle.pb_codegen.proofs.TextTokens.{EachToken, IsProper, proper_tokens}

-- each token is a proper one
abbrev AreProper : List Token → Type 0
AreProper ts = EachToken IsProper ts

-- ---- the tokens after an expression

behind_expr : {l : Level} {ts rest : List Token} {e : tree.ExprSyntax} → Reads l ts e rest → AreProper ts
    → AreProper rest
behind_expr (tight h) s = behind_expr h s
behind_expr (chain c o h k) s = behind_expr k (behind_expr h s).1
behind_expr (negation i h) s = behind_expr h s.1
behind_expr (comparison o h k) s = behind_expr k (behind_expr h s).1
behind_expr (minus i h) s = behind_expr h s.1
behind_expr (number i) s = s.1
behind_expr (variable i) s = s.1
behind_expr (group i j h) s = (behind_expr h s.1).1

-- ---- pairs

behind_pair : {ts rest : List Token} {p : tree.DemandSyntax} → ReadsPair ts p rest → AreProper ts
    → AreProper rest
behind_pair (pair i j k) s = s.1.1.1

behind_pairs : {ts rest : List Token} {ps : List tree.DemandSyntax} → ReadsPairs ts ps rest → AreProper ts
    → (1 ≤ length ps) × AreProper rest
behind_pairs (pairs.one h) s = (omega arith, behind_pair h s)
behind_pairs (pairs.more {ps = ps} {p = p} h i k) s =
    let w = behind_pairs h s in
    let n = length-append ps (p ∷ []) in
    (omega (arith, n), behind_pair k w.1.1)

-- ---- statements

full-append : (a b : tree.StmtsSyntax) → IsFull a → IsFull b → IsFull (append a b)
full-append tree.no_stmt b h g = g
full-append (tree.stmt_then s a) b h g = (h.0, full-append a b h.1 g)

full-append_arms : (a b : tree.ArmsSyntax) → AreFull a → AreFull b → AreFull (append_arms a b)
full-append_arms tree.no_arm b h g = g
full-append_arms (tree.arm_then s a) b h g = (h.0, full-append_arms a b h.1 g)

arm-append_arms : (a : tree.ArmsSyntax) (s : tree.StmtsSyntax) → 1 ≤ width (append_arms a (single_arm s))
arm-append_arms tree.no_arm s = omega arith
arm-append_arms (tree.arm_then t a) s = omega arith

mutual
  full_stmt : {ts rest : List Token} {a : tree.StmtsSyntax} → ReadsStmt ts a rest → AreProper ts
      → IsFull a × AreProper rest
  full_stmt (skip i) s = (tt, s.1)
  full_stmt (assign i j h) s = ((s.0.0, tt), behind_expr h s.1.1)
  full_stmt (print i h) s = ((s.0.0, tt), behind_expr h s.1)
  full_stmt (if_then i h j k o) s =
      let a = full_list k (behind_expr h s.1).1 in
      (((s.0.0, a.0, tt), tt), a.1.1)
  full_stmt (if_else i h j k o l q) s =
      let a = full_list k (behind_expr h s.1).1 in
      let b = full_list l a.1.1 in
      (((s.0.0, a.0, b.0), tt), b.1.1)
  full_stmt (while_do i h j k o) s =
      let a = full_list k (behind_expr h s.1).1 in
      (((s.0.0, a.0), tt), a.1.1)
  full_stmt (hold i h j k o) s =
      let p = behind_pairs h s.1 in
      let a = full_list k p.1.1 in
      (((s.0.0, p.0, a.0), tt), a.1.1)
  full_stmt (parbegin i h j) s =
      let a = full_arms h s.1 in
      (((s.0.0, a.0, a.1), tt), a.2.1)
  full_stmt (inner i h j) s = let a = full_list h s.1 in (a.0, a.1.1)

  full_list : {ts rest : List Token} {a : tree.StmtsSyntax} → ReadsList ts a rest → AreProper ts
      → IsFull a × AreProper rest
  full_list (first h) s = full_stmt h s
  full_list (next {a = a} {b = b} h i k) s =
      let x = full_list h s in
      let y = full_stmt k x.1.1 in
      (full-append a b x.0 y.0, y.1)

  full_arms : {ts rest : List Token} {a : tree.ArmsSyntax} → ReadsArms ts a rest → AreProper ts
      → (1 ≤ width a) × AreFull a × AreProper rest
  full_arms (first_arm h) s = let x = full_stmt h s in (omega arith, (x.0, tt), x.1)
  full_arms (next_arm {a = a} {b = b} h i k) s =
      let x = full_arms h s in
      let y = full_stmt k x.2.1 in
      (arm-append_arms a b, full-append_arms a (single_arm b) x.1 (y.0, tt), y.1)

-- ---- declarations

abbrev IsNamed : tree.NameSyntax → Type 0
IsNamed name = IsName name.text

named_names : {ts rest : List Token} {xs : List tree.NameSyntax} → ReadsNames ts xs rest → AreProper ts
    → All (λ name. IsName name.text) xs × AreProper rest
named_names (names.one {t = t} {x = x} is) s =
    (All-cons IsNamed (name_at t x) [] (s.0.1 x is) (All-nil IsNamed), s.1)
named_names (names.more {u = u} {xs = xs} {x = x} h i is) s =
    let w = named_names h s in
    (All-push IsNamed xs (name_at u x) w.0 (w.1.1.0.1 x is), w.1.1.1)

abbrev IsNamedResource : tree.ResourceSyntax → Type 0
IsNamedResource r = IsName r.name.text

named_resource : {ts rest : List Token} {r : tree.ResourceSyntax} → ReadsResource ts r rest → AreProper ts
    → IsName r.name.text × AreProper rest
named_resource (resource {x = x} is i j k) s = (s.0.1 x is, s.1.1.1.1)

named_resources : {ts rest : List Token} {rs : List tree.ResourceSyntax} → ReadsResources ts rs rest
    → AreProper ts → All (λ resource. IsName resource.name.text) rs × AreProper rest
named_resources none s = (All-nil IsNamedResource, s)
named_resources (another {rs = rs} {r = r} h i k) s =
    let x = named_resources h s in
    let y = named_resource k x.1.1 in
    (All-push IsNamedResource rs r x.0 y.0, y.1)

formed_process : {ts rest : List Token} {p : tree.ProcessSyntax} → ReadsProcess ts p rest → AreProper ts
    → IsFormedProcess p × AreProper rest
formed_process (plain {x = x} is i h j) s =
    let a = full_list h s.1.1 in
    (record { name = s.0.1 x is; integers = All-nil IsNamed; full = a.0 }, a.1.1)
formed_process (integers {x = x} is i j h k l m) s =
    let w = named_names h s.1.1.1 in
    let a = full_list l w.1.1 in
    (record { name = s.0.1 x is; integers = w.0; full = a.0 }, a.1.1)

formed_processes : {ts rest : List Token} {ps : List tree.ProcessSyntax} → ReadsProcesses ts ps rest
    → AreProper ts → (1 ≤ length ps) × All IsFormedProcess ps × AreProper rest
formed_processes (one_process {p = p} i h) s =
    let x = formed_process h s.1 in
    (omega arith, All-cons IsFormedProcess p [] x.0 (All-nil IsFormedProcess), x.1)
formed_processes (more_processes {ps = ps} {p = p} h i k) s =
    let x = formed_processes h s in
    let y = formed_process k x.2.1 in
    let n = length-append ps (p ∷ []) in
    (omega (arith, n), All-push IsFormedProcess ps p x.1 y.0, y.1)

formed_program : {ts : List Token} {p : tree.ProgramSyntax} → ReadsProgram ts p → AreProper ts → IsFormed p
formed_program (program h k) s =
    let x = named_resources h s in
    let y = formed_processes k x.1 in
    record { resources = x.0; some_processes = y.0; processes = y.1 }

pub read_program_formed : (text : List ℕ) (tokens : List Token) (p : tree.ProgramSyntax) → AreTokensOf text tokens
    → ReadsProgram tokens p → IsFormed p
read_program_formed text tokens p cut read = formed_program read (proper_tokens text tokens cut)
