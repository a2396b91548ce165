-- What is left of one arm, against its place and stack.
use Rattle.std.proofs.Common.{◌≡◌, ℕ, zero, suc, ◌+◌, ℤ, Bool, true, false, cond, List, [], ◌∷◌, ◌++◌, length}
use Rattle.std.proofs.Common.{get_or, set, replicate, Option, Some, None, refl, sym, ap, ◌∙◌, subst, arith}
use Rattle.std.proofs.Common.{append_assoc, append-nil, length-append}
use Rattle.std.specs.Prelude.{slice_get}
use Rattle.pb_base.specs.Arithmetic.{is_zero}
use Rattle.pb_base.specs.declared.operators.FaultKind.{FaultKind}
use Rattle.pb_base.specs.Steppers.{Bundle}
use Rattle.pb_base.specs.Steppers.{Effect, Silent, Prints, Takes, Returns}
use Rattle.pb_names.specs.Program.{Expr, Number, Stmt, Assign, Print, If, While, Hold, Parbegin, Block, Skip}
use Rattle.pb_names.specs.Program.{Then, Arms, NoArm, AndArm, count}
use Rattle.pb_names.specs.Source.{step_expr, Item, GiveBack}
use Rattle.pb_names.specs.Source.{item_of, items_of, Doing, Waiting, begin, ArmStep, Goes, Breaks, Ends}
use Rattle.pb_names.specs.Source.{evaluate, step_items}
use Rattle.pb_code.specs.Code.{Instr, Push, Store, Jump, JumpIfZero, PrintTop, Take, Give, Fork, Join, End}
use Rattle.pb_code.specs.Code.{Live, Runs, Traps, Forks, Stops, act}
use Rattle.pb_code.specs.Shadows.{is_skip}
use Rattle.pb_generator.specs.Generate.{expr_code, stmt_code, block_code, arm_code}
use Rattle.pb_names.specs.HeadLines.{item_line, first_line}
use Rattle.pb_generator.specs.Lines.{block_line, stmt_lines, block_lines}
use Rattle.pb_codegen.proofs.SimulationListings.{Listing, line_at, LinesAt, lines_front, lines_back, length-stmt_lines}
use Rattle.pb_codegen.proofs.SimulationListings.{length-block_lines, length-same_lines}
use Rattle.pb_code.proofs.Chains.{after_skip}
use Rattle.pb_codegen.proofs.SimulationExpressions.{HasAt, has_front, has_back, Left, whole, Progress, finished}
use Rattle.pb_codegen.proofs.SimulationExpressions.{pushes}
use Rattle.pb_codegen.proofs.SimulationExpressions.{works, traps, progress}

abbrev pub entry : Listing → ℕ → ℕ
entry code a = get_or code.entries a 0

abbrev pub Has : Listing → ℕ → List Instr → Type 0
Has code place is = HasAt code.instrs place is

abbrev pub Lines : Listing → ℕ → List (Option ℕ) → Type 0
Lines code place ls = LinesAt code.lines place ls

-- the arms inside have their code at their entries
abbrev mutual
  pub PlacedStmt : Listing → Stmt → Type 0
  PlacedStmt code (Assign line x e) = Unit {0}
  PlacedStmt code (Print line e) = Unit {0}
  PlacedStmt code (If line e a b) = Placed code a × Placed code b
  PlacedStmt code (While line e body) = Placed code body
  PlacedStmt code (Hold line bundle body) = Placed code body
  PlacedStmt code (Parbegin line first arms) = ArmsPlaced code first arms

  pub Placed : Listing → Block → Type 0
  Placed code Skip = Unit {0}
  Placed code (Then s block) = PlacedStmt code s × Placed code block

  pub ArmsPlaced : Listing → ℕ → Arms → Type 0
  ArmsPlaced code first NoArm = Unit {0}
  ArmsPlaced code first (AndArm arm arms) =
      Has code (entry code first) (arm_code (entry code first) arm) × Lines code (entry code first) (block_lines arm
      None ++ None ∷ []) × Placed code arm × ArmsPlaced code (first + 1) arms

-- n jumps lead from one place to another, each with this line
abbrev pub Reaches : Listing → Option ℕ → ℕ → ℕ → ℕ → Type 0
Reaches code line zero p q = p ≡ q
Reaches code line (suc n) p q =
    (t : ℕ) × (slice_get code.instrs p ≡ Some (Jump t)) × (line_at code p ≡ line) × Reaches code line n t q

-- an item, the place and stack at which its work goes on, the place after it, and the line of what follows
pub data ItemAt (code : Listing) : Item → (place : ℕ) → (stack : List ℤ) → (after : ℕ) → (next : Option ℕ) → Type 0 where
  assign : (line x : ℕ) (e : Expr) (is : List Instr) (p : ℕ) (s : List ℤ) (after : ℕ) (next : Option ℕ)
      → Left e is s → Has code p (is ++ Store x ∷ []) → Lines code p (replicate (suc (length is)) (Some line))
      → p + length is + 1 ≡ after → ItemAt code (Item.Assign line x e) p s after next
  print : (line : ℕ) (e : Expr) (is : List Instr) (p : ℕ) (s : List ℤ) (after : ℕ) (next : Option ℕ)
      → Left e is s → Has code p (is ++ PrintTop ∷ [])
      → Lines code p (replicate (suc (length is)) (Some line)) → p + length is + 1 ≡ after
      → ItemAt code (Item.Print line e) p s after next
  choice : (line : ℕ) (e : Expr) (a b : Block) (is : List Instr) (p : ℕ) (s : List ℤ) (then other after : ℕ)
      (next : Option ℕ) → Left e is s → Has code p (is ++ JumpIfZero other ∷ [])
      → Lines code p (replicate (suc (length is)) (Some line)) → p + length is + 1 ≡ then
      → Has code then (block_code then a ++ Jump after ∷ [])
      → Lines code then (block_lines a next ++ next ∷ []) → Has code other (block_code other b)
      → Lines code other (block_lines b next) → other + length (block_code other b) ≡ after → Placed code a
      → Placed code b → ItemAt code (Item.If line e a b) p s after next
  loop : (line : ℕ) (test e : Expr) (body : Block) (is : List Instr) (p : ℕ) (s : List ℤ) (place after : ℕ)
      (next : Option ℕ) → Left e is s → Has code p (is ++ JumpIfZero after ∷ [])
      → Lines code p (replicate (suc (length is)) (Some line))
      → p + length is ≡ place + length (expr_code test)
      → Has code place (stmt_code place (While line test body))
      → Lines code place (stmt_lines (While line test body) next)
      → place + length (stmt_code place (While line test body)) ≡ after → Placed code body
      → ItemAt code (Item.While line test e body) p s after next
  hold : (line : ℕ) (bundle : Bundle) (body : Block) (p after : ℕ) (next : Option ℕ)
      → Has code p (stmt_code p (Hold line bundle body))
      → Lines code p (stmt_lines (Hold line bundle body) next)
      → p + length (stmt_code p (Hold line bundle body)) ≡ after → Placed code body
      → ItemAt code (Item.Hold line bundle body) p [] after next
  give : (line : ℕ) (bundle : Bundle) (p after : ℕ) (next : Option ℕ)
      → slice_get code.instrs p ≡ Some (Give bundle) → line_at code p ≡ Some line → p + 1 ≡ after
      → ItemAt code (GiveBack line bundle) p [] after next
  parallel : (line first : ℕ) (arms : Arms) (p after : ℕ) (next : Option ℕ)
      → slice_get code.instrs p ≡ Some (Fork first (count arms))
      → slice_get code.instrs (p + 1) ≡ Some (Join first (count arms))
      → Lines code p (Some line ∷ Some line ∷ []) → p + 1 + 1 ≡ after → ArmsPlaced code first arms
      → ItemAt code (Item.Parbegin line first arms) p [] after next

-- a list of items, and the place and stack at which it goes on; jumps may lead from one item to the next
pub data StandsAt (code : Listing) : List Item → (place : ℕ) → (stack : List ℤ) → Type 0 where
  at_end : (p : ℕ) → slice_get code.instrs p ≡ Some End → line_at code p ≡ None → StandsAt code [] p []
  at_item : (item : Item) (rest : List Item) (p : ℕ) (s : List ℤ) (after n q : ℕ)
      → ItemAt code item p s after (first_line rest) → Reaches code (first_line rest) n after q
      → StandsAt code rest q [] → StandsAt code (item ∷ rest) p s

-- the same, if jumps may come first
pub record StandsFrom (code : Listing) (items : List Item) (place : ℕ) (stack : List ℤ) : Type 0 where
  pub jumps : ℕ
  pub first : ℕ
  pub reaches : Reaches code (first_line items) jumps place first
  pub stands : StandsAt code items first stack

-- ---- the line there is the first item's

item_line_at : (code : Listing) (item : Item) (p : ℕ) (s : List ℤ) (after : ℕ) (next : Option ℕ)
    → ItemAt code item p s after next → line_at code p ≡ Some (item_line item)
item_line_at code item p s after next (assign line x e is p' s' after' next' left has lines len) = lines.0
item_line_at code item p s after next (print line e is p' s' after' next' left has lines len) = lines.0
item_line_at code item p s after next (choice line e a b is p' s' then other after' next' left has lines len hasa linesa hasb linesb lenb pa pb) = lines.0
item_line_at code item p s after next (loop line test e body is p' s' place after' next' left has lines len hasw linesw lenw placed) = lines.0
item_line_at code item p s after next (hold line bundle body p' after' next' has lines len placed) = lines.0
item_line_at code item p s after next (give line bundle p' after' next' has line_is len) = line_is
item_line_at code item p s after next (parallel line first arms p' after' next' hasf hasj lines len placed) =
    lines.0

at_line : (code : Listing) (items : List Item) (p : ℕ) (s : List ℤ) → StandsAt code items p s
    → line_at code p ≡ first_line items
at_line code items p s (at_end p' h line) = line
at_line code items p s (at_item item rest p' s' after n q i r st) =
    item_line_at code item p s after (first_line rest) i

pub from_line : (code : Listing) (items : List Item) (p : ℕ) (s : List ℤ) → StandsFrom code items p s
    → line_at code p ≡ first_line items
from_line code items p s from = go from.jumps from.reaches
  where
    go : (n : ℕ) → Reaches code (first_line items) n p from.first → line_at code p ≡ first_line items
    go zero e = ap (line_at code) e ∙ at_line code items from.first s from.stands
    go (suc n) r = r.2

-- ---- a block that is begun

line_of_is : (block : Block) (rest : List Item)
    → block_line block (first_line rest) ≡ first_line (items_of block ++ rest)
line_of_is Skip rest = refl
line_of_is (Then s block) rest = refl

pub item_at : (code : Listing) (s : Stmt) (p : ℕ) (next : Option ℕ) → Has code p (stmt_code p s)
    → Lines code p (stmt_lines s next) → PlacedStmt code s
    → ItemAt code (item_of s) p [] (p + length (stmt_code p s)) next
item_at code (Assign line x e) p next h ls placed =
    assign line x e (expr_code e) p [] _ next (whole e) h ls (omega (arith, length-append (expr_code e) (Store x ∷ [])))
item_at code (Print line e) p next h ls placed =
    print line e (expr_code e) p [] _ next (whole e) h ls (omega (arith, length-append (expr_code e) (PrintTop ∷ [])))
item_at code (If line e a b) p next h ls placed =
    let then = p + length (expr_code e) + 1 in
    let other = then + length (block_code then a) + 1 in
    let after = other + length (block_code other b) in
    let tail = block_code then a ++ (Jump after ∷ block_code other b) in
    let h1 : Has code p (expr_code e ++ JumpIfZero other ∷ []) = has_front code.instrs p (expr_code e ++ JumpIfZero
    other ∷ []) tail (subst (Has code p) (sym (append_assoc (expr_code e) (JumpIfZero other ∷ []) tail)) h) in
    let h2 : Has code then tail = (has_back code.instrs p (expr_code e) (JumpIfZero other ∷ tail) h).1 in
    let h3 : Has code then (block_code then a ++ Jump after ∷ []) = has_front code.instrs then (block_code then a ++
    Jump after ∷ []) (block_code other b) (subst (Has code then) (sym (append_assoc (block_code then a) (Jump
    after ∷ []) (block_code other b))) h2) in
    let h4 : Has code other (block_code other b) =
    (has_back code.instrs then (block_code then a) (Jump after ∷ block_code other b) h2).1 in
    let head = replicate (suc (length (expr_code e))) (Some line) in
    let ltail = block_lines a next ++ (next ∷ block_lines b next) in
    let n1 : p + length head ≡ then =
    omega (arith, length-same_lines (suc (length (expr_code e))) (Some line)) in
    let l2 : Lines code then ltail =
    subst (λ k. Lines code k ltail) n1 (lines_back code.lines p head ltail ls) in
    let l3 : Lines code then (block_lines a next ++ next ∷ []) = lines_front code.lines then (block_lines a next ++
    next ∷ []) (block_lines b next) (subst (Lines code then) (sym (append_assoc (block_lines a next) (next ∷ [])
    (block_lines b next))) l2) in
    let n2 : then + length (block_lines a next) + 1 ≡ other = omega (arith, length-block_lines then a next) in
    let l4 : Lines code other (block_lines b next) = subst (λ k. Lines code k (block_lines b next)) n2 (lines_back
    code.lines then (block_lines a next) (next ∷ block_lines b next) l2).1 in
    choice line e a b (expr_code e) p [] then other _ next (whole e) h1 (lines_front code.lines p head ltail ls) refl
    (subst (λ k. Has code then (block_code then a ++ Jump k ∷ [])) (omega (
      arith,
      length-append (expr_code e)
          (JumpIfZero other ∷ tail),
      length-append (block_code then a) (Jump after ∷ block_code other b),
    )) h3) l3 h4 l4
    (omega (
      arith,
      length-append (expr_code e) (JumpIfZero other ∷ tail),
      length-append (block_code then a) (Jump
          after ∷ block_code other b),
    )) placed.0 placed.1
item_at code (While line e body) p next h ls placed =
    let start = p + length (expr_code e) + 1 in
    let after = start + length (block_code start body) + 1 in
    let tail = block_code start body ++ Jump p ∷ [] in
    let len : after ≡ p + length (stmt_code p (While line e body)) = omega (
      arith,
      length-append (expr_code e)
          (JumpIfZero after ∷ tail),
      length-append (block_code start body) (Jump p ∷ []),
    ) in
    let h1 : Has code p (expr_code e ++ JumpIfZero after ∷ []) = has_front code.instrs p (expr_code e ++ JumpIfZero
    after ∷ []) tail (subst (Has code p) (sym (append_assoc (expr_code e) (JumpIfZero after ∷ []) tail)) h) in
    let head = replicate (suc (length (expr_code e))) (Some line) in
    loop line e e body (expr_code e) p [] p _ next (whole e) (subst (λ k. Has code p (expr_code e ++ JumpIfZero k ∷ [])) len h1)
    (lines_front code.lines p head (block_lines body (Some line) ++ Some line ∷ []) ls) refl h ls refl placed
item_at code (Hold line bundle body) p next h ls placed = hold line bundle body p _ next h ls refl placed
item_at code (Parbegin line first arms) p next h ls placed =
    parallel line first arms p _ next h.0 h.1.0 ls (omega arith) placed

pub block_stands : (code : Listing) (block : Block) (p : ℕ) (rest : List Item)
    → Has code p (block_code p block) → Lines code p (block_lines block (first_line rest)) → Placed code block
    → StandsFrom code rest (p + length (block_code p block)) []
    → StandsFrom code (items_of block ++ rest) p []
block_stands code Skip p rest h ls placed after =
    let e : p + 0 ≡ p = omega arith in subst (λ k. StandsFrom code rest k []) e after
block_stands code (Then s block) p rest h ls placed after =
    let mid = p + length (stmt_code p s) in
    let next = block_line block (first_line rest) in
    let len : p + length (block_code p (Then s block)) ≡ mid + length (block_code mid block) =
    omega (arith, length-append (stmt_code p s) (block_code mid block)) in
    let n : p + length (stmt_lines s next) ≡ mid = omega (arith, length-stmt_lines p s next) in
    let ls' : Lines code mid (block_lines block (first_line rest)) = subst (λ k. Lines code k (block_lines block
    (first_line rest))) n (lines_back code.lines p (stmt_lines s next) (block_lines block (first_line rest)) ls)
    in
    let later = block_stands code block mid rest (has_back code.instrs p (stmt_code p s) (block_code mid block) h) ls'
    placed.1 (subst (λ k. StandsFrom code rest k []) len after) in
    let item = item_at code s p next (has_front code.instrs p (stmt_code p s) (block_code mid block) h) (lines_front
    code.lines p (stmt_lines s next) (block_lines block (first_line rest)) ls) placed.0 in
    record {
      jumps = 0;
      first = p;
      reaches = refl;
      stands =
          at_item (item_of s) (items_of block ++ rest) p [] mid later.jumps later.first
          (subst (λ l. ItemAt code (item_of s) p [] mid l) (line_of_is block rest) item) later.reaches later.stands;
    }

-- ---- one instruction against one step of the source

pub data Follows (code : Listing) (vars : List ℤ) (items : List Item) (p : ℕ) (s : List ℤ) : Type 0 where
  skips : (i : Instr) (p' : ℕ) (s' : List ℤ) → slice_get code.instrs p ≡ Some i → is_skip i ≡ true
      → after_skip i p ≡ Some p' → act vars i p s ≡ Some (Runs vars (Live p' s') Silent)
      → StandsFrom code items p' s' → Follows code vars items p s
  goes : (i : Instr) (vars' : List ℤ) (items' : List Item) (effect : Effect) (p' : ℕ) (s' : List ℤ)
      → slice_get code.instrs p ≡ Some i → is_skip i ≡ false
      → act vars i p s ≡ Some (Runs vars' (Live p' s') effect)
      → step_items vars items ≡ Goes vars' (Doing items') effect → StandsFrom code items' p' s'
      → Follows code vars items p s
  breaks : (i : Instr) (kind : FaultKind) → slice_get code.instrs p ≡ Some i → is_skip i ≡ false
      → act vars i p s ≡ Some (Traps kind) → step_items vars items ≡ Breaks kind → Follows code vars items p s
  forks : (i : Instr) (line first : ℕ) (arms : Arms) (rest : List Item) (p' : ℕ)
      → items ≡ Item.Parbegin line first arms ∷ rest → slice_get code.instrs p ≡ Some i → is_skip i ≡ false
      → act vars i p s ≡ Some (Forks first (count arms) (Live p' []))
      → step_items vars items ≡ Goes vars (Waiting line first (begin arms) rest) Silent
      → slice_get code.instrs p' ≡ Some (Join first (count arms)) → line_at code p' ≡ Some line
      → StandsFrom code rest (p' + 1) [] → ArmsPlaced code first arms → Follows code vars items p s
  ends : (i : Instr) → slice_get code.instrs p ≡ Some i → is_skip i ≡ false → act vars i p s ≡ Some Stops
      → step_items vars items ≡ Ends → Follows code vars items p s

resume : (code : Listing) (rest : List Item) (after n q p : ℕ) → Reaches code (first_line rest) n after q
    → StandsAt code rest q [] → after ≡ p → StandsFrom code rest p []
resume code rest after n q p r st e = record { jumps = n; first = q; reaches = subst (λ k. Reaches code (first_line rest) n k q) e r; stands = st }

-- an item whose expression comes first
head_follows : (code : Listing) (vars : List ℤ) (e : Expr) (is : List Instr) (s : List ℤ) (p : ℕ) (tail : Instr)
    (label : Option ℕ) (keep : Expr → List Item) (done : ℤ → ArmStep) → Left e is s → Has code p (is ++ tail ∷ []) →
    Lines code p (replicate (suc (length is)) label) → ((e' : Expr) → step_items vars (keep e') ≡ evaluate (step_expr
    vars e') (λ e''. Goes vars (Doing (keep e'')) Silent) done) → ((e' : Expr) (is' : List Instr) (s' : List ℤ) (p' :
    ℕ) → Left e' is' s' → Has code p' (is' ++ tail ∷ []) → Lines code p' (replicate (suc (length is')) label) → p' +
    length is' ≡ p + length is → StandsFrom code (keep e') p' s') → ((v : ℤ) → slice_get code.instrs p ≡ Some tail → p
    + length is ≡ p → Follows code vars (keep (Number v)) p (v ∷ [])) → Follows code vars (keep e) p s
head_follows code vars e is s p tail label keep done left has lines step again last =
    go (progress vars e is s left)
  where
    go : Progress vars e is s → Follows code vars (keep e) p s
    go (finished v e_is is_is s_is) =
        let has' : Has code p (tail ∷ []) = subst (λ c. Has code p (c ++ tail ∷ [])) is_is has in
        let n : p + length is ≡ p = omega (arith, ap length is_is) in
        subst (λ e. Follows code vars (keep e) p s) (sym e_is) (subst (λ s. Follows code vars (keep (Number v)) p s) (sym s_is) (last v has'.0 n))
    go (pushes v rest is_is l) =
        let has' : Has code p (Push v ∷ (rest ++ tail ∷ [])) =
        subst (λ c. Has code p (c ++ tail ∷ [])) is_is has in
        let lines' : Lines code p (replicate (suc (length (Push v ∷ rest))) label) =
        subst (λ c. Lines code p (replicate (suc (length c)) label)) is_is lines in
        let n : p + 1 + length rest ≡ p + length is = omega (arith, ap length is_is) in
        skips (Push v) (p + 1) (v ∷ s) has'.0 refl refl refl (again e rest (v ∷ s) (p + 1) l has'.1 lines'.1 n)
    go (works i rest e' s' is_is skip becomes acts l) =
        let has' : Has code p (i ∷ (rest ++ tail ∷ [])) =
        subst (λ c. Has code p (c ++ tail ∷ [])) is_is has in
        let lines' : Lines code p (replicate (suc (length (i ∷ rest))) label) =
        subst (λ c. Lines code p (replicate (suc (length c)) label)) is_is lines in
        let n : p + 1 + length rest ≡ p + length is = omega (arith, ap length is_is) in
        goes i vars (keep e') Silent (p + 1) s' has'.0 skip
        (ap (act vars i p) (sym (append-nil s)) ∙ acts p [] ∙ ap (λ s. Some (Runs vars (Live (p + 1) s) Silent)) (append-nil s'))
        (step e ∙ ap (λ r. evaluate r (λ e''. Goes vars (Doing (keep e'')) Silent) done) becomes)
        (again e' rest s' (p + 1) l has'.1 lines'.1 n)
    go (traps i rest kind is_is skip fails acts) =
        let has' : Has code p (i ∷ (rest ++ tail ∷ [])) =
        subst (λ c. Has code p (c ++ tail ∷ [])) is_is has in
        breaks i kind has'.0 skip
        (ap (act vars i p) (sym (append-nil s)) ∙ acts p [])
        (step e ∙ ap (λ r. evaluate r (λ e''. Goes vars (Doing (keep e'')) Silent) done) fails)

choice_stands : (code : Listing) (z : Bool) (a b : Block) (rest : List Item) (p other : ℕ)
    → StandsFrom code (items_of a ++ rest) p [] → StandsFrom code (items_of b ++ rest) other []
    → StandsFrom code (items_of (cond z b a) ++ rest) (cond z other p) []
choice_stands code true a b rest p other sa sb = sb
choice_stands code false a b rest p other sa sb = sa

loop_stands : (code : Listing) (z : Bool) (more rest : List Item) (p after : ℕ) → StandsFrom code more p []
    → StandsFrom code rest after [] → StandsFrom code (cond z rest more) (cond z after p) []
loop_stands code true more rest p after sm sr = sr
loop_stands code false more rest p after sm sr = sm

follows_at : (code : Listing) (vars : List ℤ) (items : List Item) (p : ℕ) (s : List ℤ)
    → StandsAt code items p s → Follows code vars items p s
follows_at code vars items p s (at_end p' h line) = ends End h refl refl refl
follows_at code vars items p s (at_item item rest p' s' after n q (assign line x e is p'' s'' after' next left has lines len) r st) =
    head_follows code vars e is s p (Store x) (Some line) (λ e'. Item.Assign line x e' ∷ rest) _ left has lines (λ e'. refl)
    (λ e' is' s' p' l h ls eq. record {
      jumps = 0;
      first = p';
      reaches = refl;
      stands = at_item (Item.Assign line x e')
          rest p' s' after n q (assign line x e' is' p' s' after _ l h ls (omega arith)) r st;
    })
    (λ v h eq. goes (Store x) (set vars x v) rest Silent (p + 1) [] h refl refl refl (resume code rest after n q (p + 1) r st (omega arith)))
follows_at code vars items p s (at_item item rest p' s' after n q (print line e is p'' s'' after' next left has lines len) r st) =
    head_follows code vars e is s p PrintTop (Some line) (λ e'. Item.Print line e' ∷ rest) _ left has lines (λ e'. refl)
    (λ e' is' s' p' l h ls eq. record {
      jumps = 0;
      first = p';
      reaches = refl;
      stands = at_item (Item.Print line e') rest
          p' s' after n q (print line e' is' p' s' after _ l h ls (omega arith)) r st;
    })
    (λ v h eq. goes PrintTop vars rest (Prints v) (p + 1) [] h refl refl refl (resume code rest after n q (p + 1) r st (omega arith)))
follows_at code vars items p s (at_item item rest p' s' after n q (choice line e a b is p'' s'' then other after' next
    left has lines len hasa linesa hasb linesb lenb pa pb) r st) =
    head_follows code vars e is s p (JumpIfZero other) (Some line) (λ e'. Item.If line e' a b ∷ rest) _ left has lines (λ e'. refl)
    (λ e' is' s' p' l h ls eq. record {
      jumps = 0;
      first = p';
      reaches = refl;
      stands = at_item (Item.If line e' a b)
          rest p' s' after n q (choice line e' a b is' p' s' then other after _ l h ls (omega arith) hasa linesa hasb
          linesb lenb pa pb) r st;
    })
    (λ v h eq.
    let thenp : then ≡ p + 1 = omega arith in
    let ja : slice_get code.instrs (then + length (block_code then a)) ≡ Some (Jump after) =
    (has_back code.instrs then (block_code then a) (Jump after ∷ []) hasa).0 in
    let la : line_at code (then + length (block_code then a)) ≡ first_line rest =
    subst (λ k. line_at code (then + k) ≡ first_line rest) (length-block_lines then a (first_line rest)) (lines_back
    code.lines then (block_lines a (first_line rest)) (first_line rest ∷ []) linesa).0 in
    let sa = block_stands code a then rest (has_front code.instrs then (block_code then a) (Jump after ∷ []) hasa)
    (lines_front code.lines then (block_lines a (first_line rest)) (first_line rest ∷ []) linesa) pa (record {
      jumps = suc n;
      first = q;
      reaches = (after, ja, la, r);
      stands = st;
    }) in
    let sb = block_stands code b other rest hasb linesb pb (resume code rest after n q _ r st (sym lenb)) in
    goes (JumpIfZero other) vars (items_of (cond (is_zero v) b a) ++ rest) Silent (cond (is_zero v) other (p + 1)) [] h refl refl refl
    (choice_stands code (is_zero v) a b rest (p + 1) other (subst (λ k. StandsFrom code (items_of a ++ rest) k []) thenp sa) sb))
follows_at code vars items p s (at_item item rest p' s' after n q (loop line test e body is p'' s'' place after' next
    left has lines len hasw linesw lenw placed) r st) =
    let start = place + length (expr_code test) + 1 in
    let exit = start + length (block_code start body) + 1 in
    let body_code = block_code start body in
    let hasb : Has code start (body_code ++ Jump place ∷ []) = (has_back code.instrs place (expr_code test)
    (JumpIfZero exit ∷ (body_code ++ Jump place ∷ [])) hasw).1 in
    let exit_is : exit ≡ after = omega (
      arith,
      length-append (expr_code test) (JumpIfZero exit ∷ (body_code ++ Jump
          place ∷ [])),
      length-append body_code (Jump place ∷ []),
    ) in
    let hast : Has code place (expr_code test ++ JumpIfZero after ∷ []) =
    subst (λ k. Has code place (expr_code test ++ JumpIfZero k ∷ [])) exit_is
    (has_front code.instrs place (expr_code test ++ JumpIfZero exit ∷ []) (body_code ++ Jump place ∷ []) (subst (Has
    code place) (sym (append_assoc (expr_code test) (JumpIfZero exit ∷ []) (body_code ++ Jump place ∷ []))) hasw))
    in
    let head = replicate (suc (length (expr_code test))) (Some line) in
    let body_lines = block_lines body (Some line) in
    let linest : Lines code place head =
    lines_front code.lines place head (body_lines ++ Some line ∷ []) linesw in
    let n1 : place + length head ≡ start =
    omega (arith, length-same_lines (suc (length (expr_code test))) (Some line)) in
    let linesb : Lines code start (body_lines ++ Some line ∷ []) = subst (λ k. Lines code k (body_lines ++ Some line ∷
    [])) n1 (lines_back code.lines place head (body_lines ++ Some line ∷ []) linesw) in
    head_follows code vars e is s p (JumpIfZero after) (Some line) (λ e'. Item.While line test e' body ∷ rest) _ left has lines (λ e'. refl)
    (λ e' is' s' p' l h ls eq. record {
      jumps = 0;
      first = p';
      reaches = refl;
      stands = at_item (Item.While line test e'
          body) rest p' s' after n q (loop line test e' body is' p' s' place after _ l h ls (omega arith) hasw linesw
          lenw placed) r st;
    })
    (λ v h eq.
    let startp : start ≡ p + 1 = omega arith in
    let jb : slice_get code.instrs (start + length body_code) ≡ Some (Jump place) =
    (has_back code.instrs start body_code (Jump place ∷ []) hasb).0 in
    let lb : line_at code (start + length body_code) ≡ Some line = subst (λ k. line_at code (start + k) ≡ Some line)
    (length-block_lines start body (Some line)) (lines_back code.lines start body_lines (Some line ∷ []) linesb).0
    in
    let again = at_item (Item.While line test test body) rest place [] after n q (loop line test test body (expr_code test)
    place [] place after _ (whole test) hast linest refl hasw linesw lenw placed) r st in
    let sb = block_stands code body start (Item.While line test test body ∷ rest) (has_front code.instrs start body_code
    (Jump place ∷ []) hasb) (lines_front code.lines start body_lines (Some line ∷ []) linesb) placed (record {
      jumps = 1;
      first = place;
      reaches = (place, jb, lb, refl);
      stands = again;
    }) in
    goes (JumpIfZero after) vars (cond (is_zero v) rest (items_of body ++ Item.While line test test body ∷ rest)) Silent
    (cond (is_zero v) after (p + 1)) [] h refl refl refl
    (loop_stands code (is_zero v) (items_of body ++ Item.While line test test body ∷ rest) rest (p + 1) after
    (subst (λ k. StandsFrom code (items_of body ++ Item.While line test test body ∷ rest) k []) startp sb)
    (record { jumps = n; first = q; reaches = r; stands = st })))
follows_at code vars items p s (at_item item rest p' s' after n q (hold line bundle body p'' after' next has lines len placed) r st) =
    let body_code = block_code (p + 1) body in
    let body_lines = block_lines body (Some line) in
    let hasb : Has code (p + 1) (body_code ++ Give bundle ∷ []) = has.1 in
    let hasg : slice_get code.instrs (p + 1 + length body_code) ≡ Some (Give bundle) =
    (has_back code.instrs (p + 1) body_code (Give bundle ∷ []) hasb).0 in
    let lineg : line_at code (p + 1 + length body_code) ≡ Some line = subst (λ k. line_at code (p + 1 + k) ≡ Some
    line) (length-block_lines (p + 1) body (Some line)) (lines_back code.lines (p + 1) body_lines (Some line ∷ [])
    lines.1).0 in
    let sg = at_item (GiveBack line bundle) rest (p + 1 + length body_code) [] after n q (give line bundle _ after _
    hasg lineg (omega (arith, length-append body_code (Give bundle ∷ [])))) r st in
    goes (Take bundle) vars (items_of body ++ GiveBack line bundle ∷ rest) (Takes bundle) (p + 1) [] has.0 refl refl refl
    (block_stands code body (p + 1) (GiveBack line bundle ∷ rest) (has_front code.instrs (p + 1) body_code (Give
    bundle ∷ []) hasb) (lines_front code.lines (p + 1) body_lines (Some line ∷ []) lines.1) placed (record {
      jumps
          = 0;
      first = _;
      reaches = refl;
      stands = sg;
    }))
follows_at code vars items p s (at_item item rest p' s' after n q (give line bundle p'' after' next has line_is len) r st) =
    goes (Give bundle) vars rest (Returns bundle) (p + 1) [] has refl refl refl (resume code rest after n q (p + 1) r st (sym len))
follows_at code vars items p s (at_item item rest p' s' after n q (parallel line first arms p'' after' next hasf hasj lines len placed) r st) =
    forks (Fork first (count arms)) line first arms rest (p + 1) refl hasf refl refl refl hasj lines.1.0 (resume code
    rest after n q (p + 1 + 1) r st (sym len)) placed

pub follows : (code : Listing) (vars : List ℤ) (items : List Item) (p : ℕ) (s : List ℤ)
    → StandsFrom code items p s → Follows code vars items p s
follows code vars items p s from = go from.jumps from.reaches
  where
    go : (n : ℕ) → Reaches code (first_line items) n p from.first → Follows code vars items p s
    go zero e =
        subst (λ k. Follows code vars items k s) (sym e) (follows_at code vars items from.first s from.stands)
    go (suc n) r = skips (Jump r.0) r.0 s r.1 refl refl refl (record { jumps = n; first = from.first; reaches = r.3; stands = from.stands })
