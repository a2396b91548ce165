-- What the reading of programs gives is what the grammar reads, and nothing else.
use Rattle.std.proofs.Common.{◌≡◌, ℕ, ℤ, zero, suc, max, ◌≤◌, ◌<◌, List, [], ◌∷◌, length, Bool, true, false, refl}
use Rattle.std.proofs.Common.{sym, ap, ◌∙◌, subst, inl, inr, arith}
use Rattle.pb_base.proofs.Cases.{bool_cases}
use Rattle.pb_lexer.specs.declared.token.Mark.TheVariants as mark
use Rattle.pb_grammar.specs.declared.level.Level.TheVariants as level
use Rattle.pb_lexer.specs.Tokens.{Name, Number, Fixed, Token}
use Rattle.pb_grammar.specs.Statements.{ReadsList}
use Rattle.pb_grammar.specs.Programs as g
use Rattle.pb_grammar.specs.Programs.{ReadsNames, ReadsResource, ReadsResources, ReadsProcess, ReadsProcesses}
use Rattle.pb_grammar.specs.Programs.{ReadsProgram}
use Rattle.pb_grammar.specs.Reader.{Refused, Found, Stops, is_mark, expect, ended, chain}
use Rattle.pb_grammar.specs.StatementReader.{then_mark, between, concat, a_name, a_number, list, statement}
use Rattle.pb_grammar.specs.ProgramReader.{one_name, names, a_resource, resources_part, integers, integers_by}
use Rattle.pb_grammar.specs.ProgramReader.{a_process, processes_part, program}
use Rattle.pb_grammar.proofs.Marks.{mark_is, is_mark_same, expects, expected}
use Rattle.pb_grammar.proofs.Chains.{found_value, found_rest, goes_on, chain_keeps, InChain, chain_enters, chain_more}
use Rattle.pb_grammar.proofs.Chains.{chain_leaves, chain_refused}
use Rattle.pb_grammar.proofs.Expressions.{ends_mark}
use Rattle.pb_grammar.proofs.StatementLaws.{joins_between, stops_at, marked, then_marked, joined_between, name_found}
use Rattle.pb_grammar.proofs.StatementLaws.{number_found, list_reach, list_ends, list_shorter, list_depth, list_sound}
use Rattle.pb_grammar.proofs.StatementLaws.{statement_sound}
use Rattle.pb_tree.specs.Syntax.{NameSyntax, NumberSyntax, StmtsSyntax, ResourceSyntax, ProcessSyntax, ProgramSyntax}
use Rattle.pb_grammar.specs.Grammar.{Is, name_at, number_at}
use Rattle.pb_grammar.specs.Lists.{append}

-- ---- what the grammar reads, the function reads

name_read : (t : Token) (rest : List Token) (x : List ℕ) → t.lexeme ≡ Name x → one_name (t ∷ rest) ≡ Found (name_at t x ∷ []) rest
unfolding one_name
name_read t rest x is = rw is refl

names_reach : {ts rest : List Token} {xs : List NameSyntax} → ReadsNames ts xs rest
    → InChain (between mark.Comma concat) one_name xs rest (names ts)
unfolding names
names_reach (g.one {t = t} {rest = rest} {x = x} is) = chain_enters (between mark.Comma concat) one_name _ (t ∷ rest) rest (name_read t rest x is)
names_reach (g.more {ts = ts} {rest = rest} {t = t} {u = u} {xs = xs} {x = x} l is nm) =
    chain_more (between mark.Comma concat) one_name xs _ concat t (t ∷ u ∷ rest) (u ∷ rest) rest (names ts) (names_reach l) refl
    (joins_between mark.Comma concat t is) (name_read u rest x nm) (omega arith)

names_shorter : {ts rest : List Token} {xs : List NameSyntax} → ReadsNames ts xs rest → length rest < length ts
names_shorter (g.one is) = omega arith
names_shorter (g.more l is nm) = let x = names_shorter l in omega arith

resource_shorter : {ts rest : List Token} {r : ResourceSyntax} → ReadsResource ts r rest → length rest < length ts
resource_shorter (g.resource a b c d) = omega arith

resource_read : {ts rest : List Token} {r : ResourceSyntax} → ReadsResource ts r rest → a_resource ts ≡ Found (r ∷ []) rest
unfolding a_resource
resource_read (g.resource {t = t} {u = u} {v = v} {w = w} {rest = rest} x eq n semi) =
    let e = expects mark.Equal u (v ∷ w ∷ rest) eq in
    let f = expects mark.Semicolon w rest semi in
    rw (x, e, n, f) refl

resources_reach : {ts rest : List Token} {rs : List ResourceSyntax} → ReadsResources ts rs rest
    → InChain (between mark.Resource concat) a_resource rs rest (resources_part ts)
unfolding resources_part
resources_reach (g.none {ts = ts}) = record { turns = length ts; room = omega arith; same = refl }
resources_reach (g.another {ts = ts} {mid = mid} {rest = rest} {t = t} {rs = rs} {r = r} l is x) =
    chain_more (between mark.Resource concat) a_resource rs (r ∷ []) concat t (t ∷ mid) mid rest (resources_part ts) (resources_reach l) refl
    (joins_between mark.Resource concat t is) (resource_read x) (resource_shorter x)

process_shorter : {ts rest : List Token} {p : ProcessSyntax} → ReadsProcess ts p rest → length rest < length ts
process_shorter (g.plain x b l e) = let a = list_shorter l in omega arith
process_shorter (g.integers x b i ns s l e) = let a = list_shorter l in let c = names_shorter ns in omega arith

no_statement : (d : ℕ) (t : Token) (ts : List Token) → t.lexeme ≡ Fixed mark.Integer → statement d (t ∷ ts) ≡ Refused
unfolding statement
no_statement zero t ts is = refl
no_statement (suc d) t ts is = rw is refl

no_integers : (d : ℕ) (ts rest : List Token) (a : StmtsSyntax) → list (statement d) ts ≡ Found a rest → integers ts ≡ Found [] ts
unfolding integers list
no_integers d [] rest a p = refl
no_integers d (t ∷ ts) rest a p = elim (bool_cases (is_mark mark.Integer t.lexeme)) [
  | inl is ↦ absurd (let n = chain_refused (between mark.Semicolon append) (statement d) (t ∷ ts) (no_statement d t ts
      (mark_is mark.Integer t.lexeme is)) in cc)
  | inr other ↦ rw other refl
]

some_integers : (v w : Token) (ts us : List Token) (xs : List NameSyntax) → Is v mark.Integer → names ts ≡ Found xs (w ∷ us)
    → Is w mark.Semicolon
    → integers (v ∷ ts) ≡ Found xs us
unfolding integers
some_integers v w ts us xs is p semi = let e = is_mark_same mark.Integer v.lexeme is in rw e (marked mark.Semicolon (names ts) xs w us p semi)

process_of : (d : ℕ) (t u y : Token) (ts us rest : List Token) (x : List ℕ) (xs : List NameSyntax) (a : StmtsSyntax)
    → t.lexeme ≡ Name x → Is u mark.Begin
    → integers ts ≡ Found xs us → list (statement d) us ≡ Found a (y ∷ rest) → Is y mark.End
    → a_process d (t ∷ u ∷ ts) ≡ Found (record { name = name_at t x; integers = xs; body = a } ∷ []) rest
unfolding a_process
process_of d t u y ts us rest x xs a is b p q end =
    let e = expects mark.Begin u ts b in
    let m = marked mark.End (list (statement d) us) a y rest q end in
    rw (is, e, p, m) refl

-- how many readings are inside one another in a process, in processes and in a program

abbrev pub process_depth : {ts rest : List Token} {p : ProcessSyntax} → ReadsProcess ts p rest → ℕ
process_depth (g.plain x b l e) = list_depth l
process_depth (g.integers x b i ns s l e) = list_depth l

abbrev pub processes_depth : {ts rest : List Token} {ps : List ProcessSyntax} → ReadsProcesses ts ps rest → ℕ
processes_depth (g.one_process is r) = process_depth r
processes_depth (g.more_processes l is r) = max (processes_depth l) (process_depth r)

abbrev pub program_depth : {ts : List Token} {p : ProgramSyntax} → ReadsProgram ts p → ℕ
program_depth (g.program rs ps) = processes_depth ps

process_read : (d : ℕ) {ts rest : List Token} {p : ProcessSyntax} (r : ReadsProcess ts p rest) → process_depth r ≤ d
    → a_process d ts ≡ Found (p ∷ []) rest
unfolding is_mark
process_read d (g.plain {t = t} {u = u} {v = v} {ts = ts} {rest = rest} {x = x} {a = a} is b l end) room =
    let q = list_ends d mark.End v ts rest a (list_reach d l (omega arith) (ends_mark level.Disjunction v (Fixed mark.End) rest end refl)) end refl in
    process_of d t u v ts ts rest x [] a is b (no_integers d ts (v ∷ rest) a q) q end
process_read d (g.integers {t = t} {u = u} {v = v} {w = w} {y = y} {ts = ts} {us = us} {rest = rest} {x = x} {xs = xs} {a = a} is b i ns semi l end) room =
    let n = chain_leaves (between mark.Comma concat) one_name xs (w ∷ us) _ (names_reach ns) (stops_at mark.Comma mark.Semicolon concat w us semi refl) in
    let q = list_ends d mark.End y us rest a (list_reach d l (omega arith) (ends_mark level.Disjunction y (Fixed mark.End) rest end refl)) end refl in
    process_of d t u y (v ∷ ts) us rest x xs a is b (some_integers v w ts us xs i n semi) q end

processes_reach : (d : ℕ) {ts rest : List Token} {ps : List ProcessSyntax} (r : ReadsProcesses ts ps rest) → processes_depth r ≤ d
    → InChain (between mark.Process concat) (a_process d) ps rest (processes_part d ts)
unfolding processes_part
processes_reach d (g.one_process {t = t} {ts = ts} {rest = rest} {p = p} is r) room =
    let e = expects mark.Process t ts is in
    let inside = chain_enters (between mark.Process concat) (a_process d) (p ∷ []) ts rest (process_read d r (omega arith)) in
    rw e inside
processes_reach d (g.more_processes {ts = ts} {mid = mid} {rest = rest} {t = t} {ps = ps} {p = p} l is r) room =
    chain_more (between mark.Process concat) (a_process d) ps (p ∷ []) concat t (t ∷ mid) mid rest
    (processes_part d ts) (processes_reach d l (omega arith)) refl
    (joins_between mark.Process concat t is) (process_read d r (omega arith)) (process_shorter r)

resources_stop : {ts rest : List Token} {ps : List ProcessSyntax} → ReadsProcesses ts ps rest
    → Stops (between mark.Resource (concat {X = ResourceSyntax})) ts
unfolding is_mark
resources_stop (g.one_process {t = t} {ts = ts} is r) = stops_at mark.Resource mark.Process concat t ts is refl
resources_stop (g.more_processes l is r) = resources_stop l

pub program_complete : (d : ℕ) {ts : List Token} {p : ProgramSyntax} (r : ReadsProgram ts p) → program_depth r ≤ d
    → program d ts ≡ Found p []
unfolding program
program_complete d (g.program {ts = ts} {mid = mid} {rs = rs} {ps = ps} a b) room =
    let r = chain_leaves (between mark.Resource concat) a_resource rs mid _ (resources_reach a) (resources_stop b) in
    let s = chain_leaves (between mark.Process concat) (a_process d) ps [] _ (processes_reach d b (omega arith)) tt in
    rw (r, s) refl

pub one_program : {ts : List Token} {a b : ProgramSyntax} → ReadsProgram ts a → ReadsProgram ts b → a ≡ b
one_program x y =
    let d = max (program_depth x) (program_depth y) in
    found_value (sym (program_complete d x (omega arith)) ∙ program_complete d y (omega arith))

-- ---- what the function reads, the grammar reads

one_name_sound : (ts rest : List Token) (xs : List NameSyntax) → one_name ts ≡ Found xs rest
    → (t : Token) × (x : List ℕ) × (t.lexeme ≡ Name x) × (xs ≡ name_at t x ∷ []) × (ts ≡ t ∷ rest)
unfolding one_name
one_name_sound ts rest xs p =
    let y = goes_on (a_name ts) _ p in
    let n = name_found ts y.1 y.0 y.2 in
    (n.0, n.1, n.2, sym (found_value y.3) ∙ ap (λ x. x ∷ []) n.3, n.4 ∙ ap (λ r. n.0 ∷ r) (found_rest y.3))

pub one_name_shorter : (ts rest : List Token) (xs : List NameSyntax) → one_name ts ≡ Found xs rest → length rest < length ts
one_name_shorter ts rest xs p = let x = one_name_sound ts rest xs p in let e = ap length x.4 in omega arith

first_name : (ts rest : List Token) (t : Token) (x : List ℕ) (xs : List NameSyntax) → t.lexeme ≡ Name x → xs ≡ name_at t x ∷ []
    → ts ≡ t ∷ rest
    → ReadsNames ts xs rest
first_name ts rest t x xs is same e = rw (e, same) (g.one is)

names_sound : (ts rest : List Token) (xs : List NameSyntax) → names ts ≡ Found xs rest → ReadsNames ts xs rest
unfolding names chain
names_sound ts rest xs p =
    let y = goes_on (one_name ts) _ p in
    let f = one_name_sound ts y.1 y.0 y.2 in
    chain_keeps (between mark.Comma concat) one_name (ReadsNames ts)
    (λ a t mid j b after reads q r.
    let o = joined_between mark.Comma concat t j q in
    let s = one_name_sound mid after b r in
    let before : ReadsNames ts a (t ∷ s.0 ∷ after) = rw (← s.4) reads in
    rw (o.1, s.3) (g.more before o.0 s.2))
    (length y.1) y.0 y.1 xs rest (first_name ts y.1 f.0 f.1 y.0 f.2 f.3 f.4) y.3

resource_rule : (t u v w : Token) (ts us vs ws rest : List Token) (text : List ℕ) (value : ℤ) (x : NameSyntax) (n : NumberSyntax)
    → t.lexeme ≡ Name text
    → x ≡ name_at t text → ts ≡ t ∷ us → us ≡ u ∷ vs → Is u mark.Equal → v.lexeme ≡ Number value → n ≡ number_at v value → vs ≡ v ∷ ws
    → ws ≡ w ∷ rest
    → Is w mark.Semicolon → ReadsResource ts (record { name = x; capital = n }) rest
resource_rule t u v w ts us vs ws rest text value x n is called a b eq nm same c e semi = rw (a, b, c, e, called, same) (g.resource is eq nm semi)

pub resource_sound : (ts rest : List Token) (rs : List ResourceSyntax) → a_resource ts ≡ Found rs rest
    → (r : ResourceSyntax) × (rs ≡ r ∷ []) × (ReadsResource ts r rest)
unfolding a_resource
resource_sound ts rest rs p =
    let x = goes_on (then_mark mark.Equal (a_name ts)) _ p in
    let m = then_marked mark.Equal (a_name ts) x.0 x.1 x.2 in
    let nm = name_found ts (m.0 ∷ x.1) x.0 m.2 in
    let y = goes_on (then_mark mark.Semicolon (a_number x.1)) _ x.3 in
    let k = then_marked mark.Semicolon (a_number x.1) y.0 y.1 y.2 in
    let n = number_found x.1 (k.0 ∷ y.1) y.0 k.2 in
    let r = resource_rule nm.0 m.0 n.0 k.0 ts (m.0 ∷ x.1) x.1 (k.0 ∷ y.1) y.1 nm.1 n.1 x.0 y.0 nm.2 nm.3 nm.4 refl m.1 n.2 n.3 n.4 refl k.1 in
    (record { name = x.0; capital = y.0 }, sym (found_value y.3), subst (ReadsResource ts _) (found_rest y.3) r)

pub a_resource_shorter : (ts rest : List Token) (rs : List ResourceSyntax) → a_resource ts ≡ Found rs rest → length rest < length ts
a_resource_shorter ts rest rs p = resource_shorter (resource_sound ts rest rs p).2

resources_sound : (ts rest : List Token) (rs : List ResourceSyntax) → resources_part ts ≡ Found rs rest → ReadsResources ts rs rest
unfolding resources_part
resources_sound ts rest rs p =
    chain_keeps (between mark.Resource concat) a_resource (ReadsResources ts)
    (λ a t mid j b after reads q r.
    let o = joined_between mark.Resource concat t j q in
    let s = resource_sound mid after b r in
    rw (o.1, s.1) (g.another reads o.0 s.2))
    (length ts) [] ts rs rest g.none p

process_rule : (d : ℕ) (t u y : Token) (ts us vs ws rest : List Token) (text : List ℕ) (x : NameSyntax) (xs : List
    NameSyntax) (a : StmtsSyntax) → t.lexeme ≡ Name text
    → x ≡ name_at t text → ts ≡ t ∷ us → us ≡ u ∷ vs → Is u mark.Begin → integers vs ≡ Found xs ws → ReadsList ws a (y ∷ rest)
    → Is y mark.End
    → ReadsProcess ts (record { name = x; integers = xs; body = a }) rest
unfolding integers
process_rule d t u y ts us [] ws rest text x xs a is called e f b p l end =
    let after : ReadsList [] a (y ∷ rest) = subst (λ r. ReadsList r a (y ∷ rest)) (sym (found_rest p)) l in
    let none = list_shorter after in absurd (omega arith)
process_rule d t u y ts us (v ∷ vs) ws rest text x xs a is called e f b p l end = rw (e, f, called) (go (is_mark mark.Integer v.lexeme) refl p)
  where
    go : (some : Bool) → is_mark mark.Integer v.lexeme ≡ some
        → integers_by some (then_mark mark.Semicolon (names vs)) (v ∷ vs) ≡ Found xs ws
        → ReadsProcess (t ∷ u ∷ v ∷ vs) (record { name = name_at t text; integers = xs; body = a }) rest
    go true some p =
        let m = then_marked mark.Semicolon (names vs) xs ws p in
        g.integers is b (mark_is mark.Integer v.lexeme some) (names_sound vs (m.0 ∷ ws) xs m.2) m.1 l end
    go false some p =
        let after : ReadsList (v ∷ vs) a (y ∷ rest) = subst (λ r. ReadsList r a (y ∷ rest)) (sym (found_rest p)) l in
        subst (λ r. ReadsProcess (t ∷ u ∷ v ∷ vs) (record { name = name_at t text; integers = r; body = a }) rest) (found_value p)
        (g.plain is b after end)

pub process_sound : (d : ℕ) (ts rest : List Token) (ps : List ProcessSyntax) → a_process d ts ≡ Found ps rest
    → (p : ProcessSyntax) × (ps ≡ p ∷ []) × (ReadsProcess ts p rest)
unfolding a_process
process_sound d ts rest ps p =
    let x = goes_on (then_mark mark.Begin (a_name ts)) _ p in
    let m = then_marked mark.Begin (a_name ts) x.0 x.1 x.2 in
    let nm = name_found ts (m.0 ∷ x.1) x.0 m.2 in
    let i = goes_on (integers x.1) _ x.3 in
    let y = goes_on (then_mark mark.End (list (statement d) i.1)) _ i.3 in
    let k = then_marked mark.End (list (statement d) i.1) y.0 y.1 y.2 in
    let l = list_sound (statement d) (statement_sound d) i.1 (k.0 ∷ y.1) y.0 k.2 in
    let r = process_rule d nm.0 m.0 k.0 ts (m.0 ∷ x.1) x.1 i.1 y.1 nm.1 x.0 i.0 y.0 nm.2 nm.3 nm.4 refl m.1 i.2 l k.1 in
    (record { name = x.0; integers = i.0; body = y.0 }, sym (found_value y.3), subst (ReadsProcess ts _) (found_rest y.3) r)

pub a_process_shorter : (d : ℕ) (ts rest : List Token) (ps : List ProcessSyntax) → a_process d ts ≡ Found ps rest → length rest < length ts
a_process_shorter d ts rest ps p = process_shorter (process_sound d ts rest ps p).2

first_process : (ts us rest : List Token) (t : Token) (ps : List ProcessSyntax) (p : ProcessSyntax) → ts ≡ t ∷ us → Is t mark.Process
    → ps ≡ p ∷ [] → ReadsProcess us p rest
    → ReadsProcesses ts ps rest
first_process ts us rest t ps p e is same r = rw (e, same) (g.one_process is r)

processes_sound : (d : ℕ) (ts rest : List Token) (ps : List ProcessSyntax) → processes_part d ts ≡ Found ps rest → ReadsProcesses ts ps rest
unfolding processes_part chain
processes_sound d ts rest ps p =
    let w = goes_on (expect mark.Process ts) _ p in
    let m = expected mark.Process ts w.1 w.2 in
    let y = goes_on (a_process d w.1) _ w.3 in
    let f = process_sound d w.1 y.1 y.0 y.2 in
    let first = first_process ts w.1 y.1 m.0 y.0 f.0 m.2 m.1 f.1 f.2 in
    chain_keeps (between mark.Process concat) (a_process d) (ReadsProcesses ts)
    (λ a t mid j b after reads q r.
    let o = joined_between mark.Process concat t j q in
    let s = process_sound d mid after b r in
    rw (o.1, s.1) (g.more_processes reads o.0 s.2))
    (length y.1) y.0 y.1 ps rest first y.3

all_taken : (ts rest : List Token) → ended ts ≡ Found tt rest → ts ≡ []
all_taken [] rest p = refl
all_taken (t ∷ ts) rest p = cc

pub program_sound : (d : ℕ) (ts rest : List Token) (p : ProgramSyntax) → program d ts ≡ Found p rest → ReadsProgram ts p
unfolding program
program_sound d ts rest p q =
    let x = goes_on (resources_part ts) _ q in
    let y = goes_on (processes_part d x.1) _ x.3 in
    let z = goes_on (ended y.1) _ y.3 in
    let ps : ReadsProcesses x.1 y.0 [] = subst (ReadsProcesses x.1 y.0) (all_taken y.1 z.1 z.2) (processes_sound d x.1 y.1 y.0 y.2) in
    subst (ReadsProgram ts) (found_value z.3) (g.program (resources_sound ts x.1 x.0 x.2) ps)
