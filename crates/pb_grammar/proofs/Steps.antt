-- The parts of the parser that take their parts one after the other.
use Rattle.std.proofs.Common.{◌≡◌, ◌∙◌, ℕ, Bool, true, false, List, [], ◌∷◌, ap, sym, refl}
use Rattle.pb_lexer.specs.declared.token.Mark.TheVariants as mark
use Rattle.pb_lexer.specs.Tokens.{Token}
use Rattle.pb_tree.specs.Syntax as tree
use Rattle.pb_tree.specs.Syntax.{NameSyntax, NumberSyntax, ExprSyntax, StmtsSyntax, ArmsSyntax, DemandSyntax}
use Rattle.pb_tree.specs.Syntax.{ResourceSyntax, ProcessSyntax}
use Rattle.pb_grammar.specs.Grammar.{name_at}
use Rattle.pb_grammar.specs.Lists.{append, append_arms, single, single_arm}
use Rattle.pb_grammar.specs.Reader.{Refused, Found, Part, is_mark, expect, expect_by, ended}
use Rattle.pb_grammar.specs.ExpressionReader.{expression}
use Rattle.pb_grammar.specs.StatementReader.{between, concat, a_name, a_number, pairs, a_pair, list, arms_part}
use Rattle.pb_grammar.specs.StatementReader.{otherwise, otherwise_by, assign, print, if_else, while_do, hold}
use Rattle.pb_grammar.specs.StatementReader.{parbegin, statement, an_arm}
use Rattle.pb_grammar.specs.Promises.{TakesMark}
use Rattle.pb_grammar.specs.ProgramReader.{one_name, names, a_resource, resources_part, integers, a_process}
use Rattle.pb_grammar.specs.ProgramReader.{processes_part, program}
use Rattle.pb_grammar.proofs.Chains.{chain_refused}
use Rattle.pb_grammar.proofs.StatementLaws.{arm_read}
use Rattle.pb_grammar.proofs.Loops.{InLoop, loop_enters, loop_begins, arm_refused}

-- ---- statements

pub if_else_steps : (d : ℕ) (deeper : Part StmtsSyntax) (line : ℕ) (ts us vs ws xs rest : List Token) (e : ExprSyntax) (a b : StmtsSyntax)
    → expression d ts ≡ Found e us → expect mark.Then us ≡ Found tt vs → list deeper vs ≡ Found a ws → otherwise deeper ws ≡ Found b xs
    → expect mark.Fi xs ≡ Found tt rest → if_else d deeper line ts ≡ Found (single (tree.if_else line e a b)) rest
if_else_steps d deeper line ts us vs ws xs rest e a b p q r s f = rw (p, q, r, s, f) refl

pub if_else_open : (d : ℕ) (deeper : Part StmtsSyntax) (line : ℕ) (ts us vs ws xs : List Token) (e : ExprSyntax) (a b : StmtsSyntax)
    → expression d ts ≡ Found e us → expect mark.Then us ≡ Found tt vs → list deeper vs ≡ Found a ws → otherwise deeper ws ≡ Found b xs
    → expect mark.Fi xs ≡ Refused → if_else d deeper line ts ≡ Refused
if_else_open d deeper line ts us vs ws xs e a b p q r s f = rw (p, q, r, s, f) refl

pub while_do_steps : (d : ℕ) (deeper : Part StmtsSyntax) (line : ℕ) (ts us vs ws rest : List Token) (e : ExprSyntax) (a : StmtsSyntax)
    → expression d ts ≡ Found e us → expect mark.Do us ≡ Found tt vs → list deeper vs ≡ Found a ws → expect mark.Od ws ≡ Found tt rest
    → while_do d deeper line ts ≡ Found (single (tree.while_do line e a)) rest
while_do_steps d deeper line ts us vs ws rest e a p q r s = rw (p, q, r, s) refl

pub hold_steps : (deeper : Part StmtsSyntax) (line : ℕ) (ts us vs ws rest : List Token) (ps : List DemandSyntax) (a : StmtsSyntax)
    → pairs ts ≡ Found ps us → expect mark.Do us ≡ Found tt vs → list deeper vs ≡ Found a ws → expect mark.Od ws ≡ Found tt rest
    → hold deeper line ts ≡ Found (single (tree.hold line ps a)) rest
hold_steps deeper line ts us vs ws rest ps a p q r s = rw (p, q, r, s) refl

pub assign_steps : (d : ℕ) (t : Token) (x : List ℕ) (ts us rest : List Token) (e : ExprSyntax)
    → expect mark.Assign ts ≡ Found tt us → expression d us ≡ Found e rest
    → assign d t x ts ≡ Found (single (tree.assign t.line (name_at t x) e)) rest
assign_steps d t x ts us rest e p q = rw (p, q) refl

pub print_steps : (d line : ℕ) (ts rest : List Token) (e : ExprSyntax) → expression d ts ≡ Found e rest
    → print d line ts ≡ Found (single (tree.print line e)) rest
print_steps d line ts rest e p = rw p refl

pub parbegin_steps : (deeper : Part StmtsSyntax) (line : ℕ) (ts us rest : List Token) (a : ArmsSyntax)
    → arms_part deeper ts ≡ Found a us → expect mark.Parend us ≡ Found tt rest
    → parbegin deeper line ts ≡ Found (single (tree.parbegin line a)) rest
parbegin_steps deeper line ts us rest a p q = rw (p, q) refl

pub pair_steps : (ts us vs rest : List Token) (n : NumberSyntax) (x : NameSyntax) → a_number ts ≡ Found n us
    → expect mark.Of us ≡ Found tt vs → a_name vs ≡ Found x rest → a_pair ts ≡ Found (record { amount = n; resource = x } ∷ []) rest
unfolding a_pair
pair_steps ts us vs rest n x p q r = rw (p, q, r) refl

-- nothing follows `else` if it does not come next
pub no_else : (deeper : Part StmtsSyntax) (ts rest : List Token) (taken : Bool) → taken ≡ false → TakesMark mark.Else taken ts rest
    → otherwise deeper ts ≡ Found tree.no_stmt rest
unfolding otherwise
no_else deeper [] rest taken absent h = let k = rw absent at h in ap (Found tree.no_stmt) (sym k.0)
no_else deeper (t ∷ ts) rest taken absent h =
    let k = rw absent at h in
    go (is_mark mark.Else t.lexeme) k.1 ∙ ap (Found tree.no_stmt) (sym k.0)
  where
    go : (b : Bool) → expect_by b ts ≡ Refused → otherwise_by b (list deeper ts) (t ∷ ts) ≡ Found tree.no_stmt (t ∷ ts)
    go true none = cc
    go false none = refl

pub pairs_refused : (ts : List Token) → a_pair ts ≡ Refused → pairs ts ≡ Refused
unfolding pairs
pairs_refused ts p = chain_refused _ a_pair ts p

pub pairs_enter : {P : List DemandSyntax → Type 0} (ts rest : List Token) (ds : List DemandSyntax) → a_pair ts ≡ Found ds rest → P ds
    → InLoop P (between mark.Comma concat) a_pair rest (pairs ts)
unfolding pairs
pairs_enter ts rest ds p h = loop_enters (between mark.Comma concat) a_pair ts rest ds p h

pub list_enter : {P : StmtsSyntax → Type 0} (d : ℕ) (ts rest : List Token) (a : StmtsSyntax) → statement d ts ≡ Found a rest → P a
    → InLoop P (between mark.Semicolon append) (statement d) rest (list (statement d) ts)
unfolding list
list_enter d ts rest a p h = loop_enters (between mark.Semicolon append) (statement d) ts rest a p h

pub list_refused : (d : ℕ) (ts : List Token) → statement d ts ≡ Refused → list (statement d) ts ≡ Refused
unfolding list
list_refused d ts p = chain_refused (between mark.Semicolon append) (statement d) ts p

pub arm_found : (d : ℕ) (ts rest : List Token) (a : StmtsSyntax) → statement d ts ≡ Found a rest
    → an_arm (statement d) ts ≡ Found (single_arm a) rest
arm_found d ts rest a p = arm_read (statement d) ts rest a p

pub arms_enter : {P : ArmsSyntax → Type 0} (d : ℕ) (ts rest : List Token) (a : StmtsSyntax) → statement d ts ≡ Found a rest
    → P (single_arm a)
    → InLoop P (between mark.Semicolon append_arms) (an_arm (statement d)) rest (arms_part (statement d) ts)
unfolding arms_part
arms_enter d ts rest a p h = loop_enters (between mark.Semicolon append_arms) (an_arm (statement d)) ts rest (single_arm a) (arm_found d ts rest a p) h

pub arms_refused : (d : ℕ) (ts : List Token) → statement d ts ≡ Refused → arms_part (statement d) ts ≡ Refused
unfolding arms_part
arms_refused d ts p = chain_refused (between mark.Semicolon append_arms) (an_arm (statement d)) ts (arm_refused d ts p)

-- ---- declarations

pub name_found : (ts rest : List Token) (n : NameSyntax) → a_name ts ≡ Found n rest → one_name ts ≡ Found (n ∷ []) rest
unfolding one_name
name_found ts rest n p = rw p refl

pub names_refused : (ts : List Token) → one_name ts ≡ Refused → names ts ≡ Refused
unfolding names
names_refused ts p = chain_refused _ one_name ts p

pub names_enter : {P : List NameSyntax → Type 0} (ts rest : List Token) (ns : List NameSyntax) → one_name ts ≡ Found ns rest → P ns
    → InLoop P (between mark.Comma concat) one_name rest (names ts)
unfolding names
names_enter ts rest ns p h = loop_enters (between mark.Comma concat) one_name ts rest ns p h

pub resource_steps : (ts us vs ws rest : List Token) (x : NameSyntax) (n : NumberSyntax) → a_name ts ≡ Found x us
    → expect mark.Equal us ≡ Found tt vs → a_number vs ≡ Found n ws → expect mark.Semicolon ws ≡ Found tt rest
    → a_resource ts ≡ Found (record { name = x; capital = n } ∷ []) rest
unfolding a_resource
resource_steps ts us vs ws rest x n p q r s = rw (p, q, r, s) refl

pub resources_enter : {P : List ResourceSyntax → Type 0} (ts : List Token) → P []
    → InLoop P (between mark.Resource concat) a_resource ts (resources_part ts)
unfolding resources_part
resources_enter ts h = loop_begins (between mark.Resource concat) a_resource [] ts h

pub processes_enter : {P : List ProcessSyntax → Type 0} (d : ℕ) (ts us rest : List Token) (ps : List ProcessSyntax)
    → expect mark.Process ts ≡ Found tt us
    → a_process d us ≡ Found ps rest → P ps → InLoop P (between mark.Process concat) (a_process d) rest (processes_part d ts)
unfolding processes_part
processes_enter d ts us rest ps e p h = rw e (loop_enters (between mark.Process concat) (a_process d) us rest ps p h)

pub processes_refused : (d : ℕ) (ts : List Token) → expect mark.Process ts ≡ Refused → processes_part d ts ≡ Refused
unfolding processes_part
processes_refused d ts p = rw p refl

pub processes_fail : (d : ℕ) (ts us : List Token) → expect mark.Process ts ≡ Found tt us → a_process d us ≡ Refused
    → processes_part d ts ≡ Refused
unfolding processes_part
processes_fail d ts us first p = rw first (chain_refused (between mark.Process concat) (a_process d) us p)

pub process_steps : (d : ℕ) (ts us vs ws ys rest : List Token) (x : NameSyntax) (xs : List NameSyntax) (a : StmtsSyntax)
    → a_name ts ≡ Found x us
    → expect mark.Begin us ≡ Found tt vs → integers vs ≡ Found xs ws → list (statement d) ws ≡ Found a ys
    → expect mark.End ys ≡ Found tt rest
    → a_process d ts ≡ Found (record { name = x; integers = xs; body = a } ∷ []) rest
unfolding a_process
process_steps d ts us vs ws ys rest x xs a p q r s f = rw (p, q, r, s, f) refl

-- a process that does not end
pub process_open : (d : ℕ) (ts us vs ws ys : List Token) (x : NameSyntax) (xs : List NameSyntax) (a : StmtsSyntax) → a_name ts ≡ Found x us
    → expect mark.Begin us ≡ Found tt vs → integers vs ≡ Found xs ws → list (statement d) ws ≡ Found a ys
    → expect mark.End ys ≡ Refused → a_process d ts ≡ Refused
unfolding a_process
process_open d ts us vs ws ys x xs a p q r s f = rw (p, q, r, s, f) refl

pub program_steps : (d : ℕ) (ts us vs : List Token) (rs : List ResourceSyntax) (ps : List ProcessSyntax) → resources_part ts ≡ Found rs us
    → processes_part d us ≡ Found ps vs
    → ended vs ≡ Found tt vs → program d ts ≡ Found (record { resources = rs; processes = ps }) vs
unfolding program
program_steps d ts us vs rs ps p q r = rw (p, q, r) refl
