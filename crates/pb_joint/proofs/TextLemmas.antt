-- What is known of texts that are read as one program.
use Rattle.std.proofs.Common.{◌≡◌, ◌∙◌, inl, inr, ℕ, ◌+◌, ◌≤◌, Bool, List, [], ◌∷◌, ◌++◌, Option, Some, None, length, take, map, get_or, ap, sym, subst, refl, arith}
use Rattle.std.specs.Prelude.{All, nat_lt, option_map, slice_get}
use Rattle.std.specs.Borrow.{Bor}
use Rattle.std.specs.List.{AllZip}
use Rattle.std.proofs.lemmas.List.{append-nil, append_assoc, drop_at, length-append, length-map, length-take-le, take_at}
use Rattle.std.proofs.lemmas.List.Elements.{All-append, All-cons, All-drop, All-head, All-nil, All-take}
use Rattle.std.proofs.lemmas.Option.{slice_get-get_or, slice_get_within}
use Rattle.std.proofs.lemmas.Slice.Zip.{AllZip-long, all_zipped_more}
use Rattle.pb_base.proofs.Lists.{take_next}
use Rattle.pb_base.specs.Steppers.{Table}
use Rattle.pb_codegen.specs.declared.fault.CompileFault.{CompileFault}
use Rattle.pb_claims.proofs.Bounds.{small_claims}
use Rattle.pb_claims.specs.Inferred.{HaveSmallClaims}
use Rattle.pb_codegen.proofs.TextOutcomes.{complete}
use Rattle.pb_names.proofs.Holds.{zip_at}
use Rattle.pb_names.specs.Meaning.{AreClaims}
use Rattle.pb_names.specs.Program.{Program}
use Rattle.pb_names.specs.Ready.{AreComplete, IsComplete}
use Rattle.pb_names.specs.Resolves.{Resolves, ResolvesProcess, resource_names}
use Rattle.pb_joint.specs.Joined.{AreJoined, Joins, none, one_more}
use Rattle.pb_joint.specs.Texts.{AreReadAs, AreSoFar, AreRefused, FullName, GoTogether, HasFault, IsProgramText, names_from, names_in, names_of, number_among}
use Rattle.pb_tree.specs.Measure.{processes_nodes}
use Rattle.pb_tree.specs.Syntax.{ProcessSyntax, ProgramSyntax}

-- ---- trees of texts

-- the tree of some text that is a program by itself
abbrev IsTree : ProgramSyntax → Type 0
IsTree tree = (text : List ℕ) × IsProgramText text tree

trees_of : (texts : List (List ℕ)) (trees : List ProgramSyntax) → AllZip IsProgramText texts trees → All IsTree trees
trees_of [] [] is = All-nil IsTree
trees_of [] (tree ∷ trees) is = elim is [ ]
trees_of (text ∷ texts) [] is = elim is [ ]
trees_of (text ∷ texts) (tree ∷ trees) is = All-cons IsTree tree trees (text, is.0) (trees_of texts trees is.1)

first_ones : {X : Type 0} (P : X → Type 0) (xs : List X) (y : X) → All P (xs ++ y ∷ []) → All P xs
first_ones P xs y are = subst (All P) (take_at xs (y ∷ []) (length xs) refl) (All-take P (length xs) (xs ++ y ∷ []) are)

last_one : {X : Type 0} (P : X → Type 0) (xs : List X) (y : X) → All P (xs ++ y ∷ []) → P y
last_one P xs y are = All-head P y [] (subst (All P) (drop_at xs (y ∷ []) (length xs) refl) (All-drop P (length xs) (xs ++ y ∷ []) are))

-- what each process of each text has, each process of the joined tree has
each_process : (P : ProcessSyntax → Type 0) → ((tree : ProgramSyntax) → IsTree tree → All P tree.processes)
    → (trees : List ProgramSyntax) (whole : ProgramSyntax) → All IsTree trees → AreJoined trees whole → All P whole.processes
each_process P each _ _ are none = All-nil P
each_process P each _ _ are (one_more trees before tree whole joined joins) =
    subst (All P) (sym joins.processes)
    (All-append P before.processes tree.processes
    (each_process P each trees before (first_ones IsTree trees tree are) joined)
    (each tree (last_one IsTree trees tree are)))

-- ---- the joined tree is complete

is_complete : (tree : ProgramSyntax) → IsTree tree → IsComplete tree
is_complete tree is = complete is.0 is.1.spelled.tokens tree is.1.spelled.cut is.1.spelled.read

pub complete_with : (texts : List (List ℕ)) (trees : List ProgramSyntax) (text : List ℕ) (before tree whole : ProgramSyntax)
    → AllZip IsProgramText texts trees → AreJoined trees before → IsProgramText text tree → Joins before tree whole → IsComplete whole
complete_with texts trees text before tree whole each joined is joins =
    let own = is_complete tree (text, is) in
    let some = own.some_process in
    let all = ap (λ (l : List ProcessSyntax). length l) joins.processes in
    let sum = length-append before.processes tree.processes in
    record {
      some_process = omega (arith, some, all, sum);
      bodies =
          subst (All (λ process. AreComplete process.body)) (sym joins.processes)
          (All-append (λ process. AreComplete process.body) before.processes tree.processes
          (each_process (λ process. AreComplete process.body) (λ t of. (is_complete t of).bodies) trees before (trees_of texts trees each) joined)
          own.bodies);
    }

-- ---- its claims are small

one_of_few : (processes : List ProcessSyntax) (n : ℕ) → processes_nodes processes ≤ n
    → All (λ w. processes_nodes (w ∷ []) ≤ n) processes
one_of_few [] n few = All-nil (λ w. processes_nodes (w ∷ []) ≤ n)
one_of_few (w ∷ processes) n few =
    All-cons (λ w. processes_nodes (w ∷ []) ≤ n) w processes (omega (arith, few)) (one_of_few processes n (omega (arith, few)))

-- a process by itself, beside the resources of all
alone : (whole : ProgramSyntax) (program : Program) (w : ProcessSyntax) (process : _) → Resolves whole program
    → ResolvesProcess (resource_names program) w process
    → Resolves (record { resources = whole.resources; processes = w ∷ [] }) (record { resources = program.resources; processes = process ∷ [] })
alone whole program w process is of = record {
  resources = is.resources;
  processes = (of, tt);
  distinct_resources = is.distinct_resources;
  distinct_processes = λ i j d below within. absurd (omega (arith, below, within));
  few_resources = is.few_resources;
  some_processes = omega arith;
  few_processes = omega arith;
}

have_small_claims : (trees : List ProgramSyntax) (whole : ProgramSyntax) (program : Program) → All IsTree trees
    → AreJoined trees whole → Resolves whole program → HaveSmallClaims program
have_small_claims trees whole program are joined is = record {
  small = λ p r claim process at within claims.
      let from = zip_at (ResolvesProcess (resource_names program)) whole.processes program.processes p process is.processes at in
      let few = each_process (λ w. processes_nodes (w ∷ []) ≤ 16384)
      (λ tree of. one_of_few tree.processes 16384 of.1.spelled.limits.nodes) trees whole are joined in
      let there = slice_get_within whole.processes p from.0 from.1 in
      let own = subst (λ w. processes_nodes (w ∷ []) ≤ 16384) (slice_get_same whole.processes p from.0 from.1) (few p from.0 there) in
      (small_claims (record { resources = whole.resources; processes = from.0 ∷ [] })
      (record { resources = program.resources; processes = process ∷ [] }) (alone whole program from.0 process is from.2) own).small
      0 r claim process refl within claims;
}
  where
    slice_get_same : (xs : List ProcessSyntax) (p : ℕ) (x : ProcessSyntax) → slice_get xs p ≡ Some x → get_or xs p x ≡ x
    slice_get_same xs p x at =
        let there = slice_get_within xs p x at in
        let e : Some (get_or xs p x) ≡ Some x = sym (slice_get-get_or xs p x there) ∙ at in cc

-- ---- one more text

names_from_more : (several : Bool) (n : ℕ) (trees : List ProgramSyntax) (tree : ProgramSyntax)
    → names_from several n (trees ++ tree ∷ []) ≡ names_from several n trees ++ names_in several (n + length trees) tree.processes
names_from_more several n [] tree =
    let e : n ≡ n + 0 = omega arith in
    append-nil (names_in several n tree.processes) ∙ ap (λ k. names_in several k tree.processes) e
names_from_more several n (t ∷ trees) tree =
    let e : n + 1 + length trees ≡ n + length (t ∷ trees) = omega arith in
    ap (λ l. names_in several n t.processes ++ l)
    (names_from_more several (n + 1) trees tree
    ∙ ap (λ k. names_from several (n + 1) trees ++ names_in several k tree.processes) e)
    ∙ sym (append_assoc (names_in several n t.processes) (names_from several (n + 1) trees)
    (names_in several (n + length (t ∷ trees)) tree.processes))

pub one_more_text : (several : Bool) (texts : List (List ℕ)) (trees : List ProgramSyntax) (before tree whole : ProgramSyntax)
    (text : List ℕ) (program : Option Program) (next : Program) (names names' : List FullName) (number : ℕ)
    → AreSoFar several texts trees before program names → IsProgramText text tree → Joins before tree whole → Resolves whole next
    → names' ≡ names ++ names_in several number tree.processes → number ≡ length trees + 1
    → AreSoFar several (texts ++ text ∷ []) (trees ++ tree ∷ []) whole (Some next) names'
one_more_text several texts trees before tree whole text program next names names' number so_far is joins resolves called same =
    let e : number ≡ 1 + length trees = omega (arith, same) in
    let a = ap (λ (l : List FullName). length l) called in
    let b = length-append names (names_in several number tree.processes) in
    let c = length-map {B = FullName} tree.processes (λ (process : ProcessSyntax). record { name = process.name.text; text = number_among several number }) in
    let f = ap (λ (l : List ProcessSyntax). length l) joins.processes in
    let h = length-append before.processes tree.processes in
    let many = so_far.many in
    record {
      each = all_zipped_more IsProgramText texts trees text tree so_far.each is;
      joined = one_more trees before tree whole so_far.joined joins;
      numbered = resolves;
      named = called ∙ ap (λ l. l ++ names_in several number tree.processes) so_far.named
          ∙ ap (λ k. names_from several 1 trees ++ names_in several k tree.processes) e
          ∙ sym (names_from_more several 1 trees tree);
      many = omega (arith, many, a, b, c, f, h);
    }

-- ---- all texts

-- those before a fault go together
pub go_together : (several : Bool) (texts : List (List ℕ)) (trees : List ProgramSyntax) (whole : ProgramSyntax) (program : Option Program)
    (names : List FullName) → AreSoFar several texts trees whole program names → GoTogether trees
go_together several texts trees whole None names so_far = inl so_far.numbered
go_together several texts trees whole (Some program) names so_far = inr (whole, program, so_far.joined, so_far.numbered)

pub read_as : (several : Bool) (texts : List (List ℕ)) (trees : List ProgramSyntax) (whole : ProgramSyntax) (program : Program)
    (names : List FullName) (claims : Table) → AreSoFar several texts trees whole (Some program) names
    → (HaveSmallClaims program → AreClaims program claims) → AreReadAs texts trees program claims
read_as several texts trees whole program names claims so_far claimed = record {
  each = so_far.each;
  joint = record {
    tree = whole;
    joined = so_far.joined;
    numbered = so_far.numbered;
    claimed = claimed (have_small_claims trees whole program (trees_of texts trees so_far.each) so_far.joined so_far.numbered);
  };
}

-- ---- how many

-- no text is read yet
pub nothing_yet : {X Y : Type 0} (several : Bool) (whole : ProgramSyntax) (program : Option X) (f : X → Program) (items : List Y)
    (g : Y → FullName) → whole ≡ record { resources = []; processes = [] } → program ≡ None → items ≡ []
    → AreSoFar several [] [] whole (option_map f program) (map g items)
nothing_yet {X} {Y} several whole program f items g w p i =
    subst (λ (l : List Y). AreSoFar several [] [] whole (option_map f program) (map g l)) (sym i)
    (subst (λ (o : Option X). AreSoFar several [] [] whole (option_map f o) []) (sym p)
    (subst (λ (t : ProgramSyntax). AreSoFar several [] [] t None []) (sym w)
    (record { each = tt; joined = none; numbered = refl; named = refl; many = refl })))

-- as many trees as texts
pub as_many : (all : List (List ℕ)) (index : ℕ) (trees : List ProgramSyntax) → AllZip IsProgramText (take index all) trees
    → index ≤ length all → length trees ≡ index
as_many all index trees each within = AllZip-long IsProgramText (take index all) trees each ∙ length-take-le index all within

-- if a text was read before, there is a program
pub not_none : {X : Type 0} (several : Bool) (texts : List (List ℕ)) (trees : List ProgramSyntax) (whole : ProgramSyntax)
    (program : Option X) (f : X → Program) (names : List FullName) → AreSoFar several texts trees whole (option_map f program) names
    → program ≡ None → 1 ≤ length texts → ⊥
not_none several texts trees whole None f names so_far same some =
    let long = AllZip-long IsProgramText texts trees so_far.each in
    let empty = ap (λ (l : List ProgramSyntax). length l) so_far.numbered in
    absurd (omega (arith, long, empty, some))
not_none several texts trees whole (Some p) f names so_far same some = absurd cc

-- a fault of the next text is the first
pub first_fault : (several : Bool) (all : List (List ℕ)) (index : ℕ) (trees : List ProgramSyntax) (whole : ProgramSyntax)
    (program : Option Program) (names : List FullName) (text : List ℕ) (fault : CompileFault)
    → AreSoFar several (take index all) trees whole program names → slice_get all index ≡ Some text → HasFault trees text fault
    → AreRefused all (record { index = index; fault = fault })
first_fault several all index trees whole program names text fault so_far at found = inr (record {
  trees = trees;
  before = so_far.each;
  fit = go_together several (take index all) trees whole program names so_far;
  text = text;
  at = at;
  found = found;
})

-- one more text is read
pub next_read : (several : Bool) (all : List (List ℕ)) (index : ℕ) (text : List ℕ) (trees : List ProgramSyntax) (whole : ProgramSyntax)
    (program : Option Program) (names : List FullName) → slice_get all index ≡ Some text
    → AreSoFar several (take index all ++ text ∷ []) trees whole program names
    → AreSoFar several (take (index + 1) all) trees whole program names
next_read several all index text trees whole program names at so_far =
    subst (λ (ts : List (List ℕ)). AreSoFar several ts trees whole program names) (sym (take_next all index text at)) so_far

-- a name for each process
pub named_all : (several : Bool) (texts : List (List ℕ)) (trees : List ProgramSyntax) (whole : ProgramSyntax) (program : Program)
    (names : List FullName) → AreSoFar several texts trees whole (Some program) names → length names ≡ length program.processes
named_all several texts trees whole program names so_far =
    let many = so_far.many in
    let long = AllZip-long (ResolvesProcess (resource_names program)) whole.processes program.processes so_far.numbered.processes in
    omega (arith, many, long)

-- names of as many trees as texts
pub names_of_all : (texts : List (Bor (List ℕ))) (trees : List ProgramSyntax) (names : List FullName) → length trees ≡ length texts
    → names ≡ names_from (nat_lt 1 (length texts)) 1 trees → names ≡ names_of trees
names_of_all texts trees names many are =
    are ∙ ap (λ (n : ℕ). names_from (nat_lt 1 n) 1 trees) (sym many)
