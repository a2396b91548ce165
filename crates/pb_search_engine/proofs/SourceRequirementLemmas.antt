-- The code of a program meets a requirement exactly if the program does.
use Rattle.std.proofs.Common.{◌≡◌, ◌+◌, ◌<◌, ℕ, Bool, true, false, ◌||◌, List, [], ◌∷◌, ◌++◌, get_or, length, map, refl, sym, ap, subst, ◌∙◌}
use Rattle.std.specs.List.{list_any}
use Rattle.std.proofs.lemmas.List.{length-map}
use Rattle.std.proofs.lemmas.List.Folds.{list_any-append}
use Rattle.pb_base.specs.Steppers.{Table}
use Rattle.pb_code.specs.Code.{Compute1, Compute2, End, Give, Instr, Jump, JumpIfZero, PrintTop, Store}
use Rattle.pb_generator.specs.Generate.{arm_code, arms_code, block_code, expr_code, process_code, program_code, stmt_code}
use Rattle.pb_names.specs.Program.{AndArm, Arms, Assign, Binary, Block, Expr, Hold, If, NoArm, Number, Parbegin, Print, Process, Program, Skip, Stmt, Then, Unary, Variable, While}
use Rattle.pb_names.specs.Program.{arms_in, arms_in_arms, arms_in_stmt, arms_list, arms_of}
use Rattle.pb_search_engine.specs.Requirements.{AreMet, IsMet, has_part, is_hold, is_of, is_parbegin}
use Rattle.pb_search_engine.specs.SourceRequirements.{AreMetBy, IsMetBy, arms_have, block_has, process_has, stmt_has}
use Rattle.pb_search_engine.specs.declared.requirements.Part.{Part}
use Rattle.pb_search_engine.specs.declared.requirements.Requirement.{Requirement}
use Rattle.pb_search_engine.specs.declared.requirements.Requirement.TheVariants.{Claims, Has}

or_false : (a : Bool) → (a || false) ≡ a
or_false true = refl
or_false false = refl

or_assoc : (a b c : Bool) → ((a || b) || c) ≡ (a || (b || c))
or_assoc true b c = refl
or_assoc false b c = refl

-- parts in pairs, first by first and second by second
or_pairs : (a b c d : Bool) → ((a || b) || (c || d)) ≡ ((a || c) || (b || d))
or_pairs true b c d = refl
or_pairs false true true d = refl
or_pairs false true false d = refl
or_pairs false false c d = refl

or_both : (a b c d : Bool) → a ≡ c → b ≡ d → (a || b) ≡ (c || d)
or_both a b c d e f = ap (λ (x : Bool). x || b) e ∙ ap (λ (x : Bool). c || x) f

-- what a statement has outside of its arms
abbrev mutual
  own_stmt : Part → Stmt → Bool
  own_stmt part (Assign line x e) = false
  own_stmt part (Print line e) = false
  own_stmt part (If line e a b) = own part a || own part b
  own_stmt part (While line e body) = own part body
  own_stmt part (Hold line bundle body) = is_hold part || own part body
  own_stmt part (Parbegin line first arms) = is_parbegin part

  own : Part → Block → Bool
  own part Skip = false
  own part (Then s block) = own_stmt part s || own part block

module _ (part : Part) where
  -- no instruction of an expression is one of the part
  in_expr : (e : Expr) → list_any (is_of part) (expr_code e) ≡ false
  in_expr (Number v) = refl
  in_expr (Variable x) = refl
  in_expr (Unary op a) =
      list_any-append (is_of part) (expr_code a) (Compute1 op ∷ [])
      ∙ or_both (list_any (is_of part) (expr_code a)) false false false (in_expr a) refl
  in_expr (Binary op a b) =
      let right = list_any-append (is_of part) (expr_code b) (Compute2 op ∷ [])
      ∙ or_both (list_any (is_of part) (expr_code b)) false false false (in_expr b) refl in
      list_any-append (is_of part) (expr_code a) (expr_code b ++ (Compute2 op ∷ []))
      ∙ or_both (list_any (is_of part) (expr_code a)) (list_any (is_of part) (expr_code b ++ (Compute2 op ∷ []))) false false (in_expr a) right

  -- after an expression
  behind : (e : Expr) (is : List Instr) → list_any (is_of part) (expr_code e ++ is) ≡ list_any (is_of part) is
  behind e is =
      list_any-append (is_of part) (expr_code e) is
      ∙ or_both (list_any (is_of part) (expr_code e)) (list_any (is_of part) is) false (list_any (is_of part) is) (in_expr e) refl

  mutual
    in_stmt : (p : ℕ) (s : Stmt) → list_any (is_of part) (stmt_code p s) ≡ own_stmt part s
    in_stmt p (Assign line x e) = behind e (Store x ∷ [])
    in_stmt p (Print line e) = behind e (PrintTop ∷ [])
    in_stmt p (If line e a b) =
        let then = p + length (expr_code e) + 1 in
        let other = then + length (block_code then a) + 1 in
        let after = other + length (block_code other b) in
        behind e (JumpIfZero other ∷ (block_code then a ++ (Jump after ∷ block_code other b)))
        ∙ (list_any-append (is_of part) (block_code then a) (Jump after ∷ block_code other b)
        ∙ or_both (list_any (is_of part) (block_code then a)) (list_any (is_of part) (block_code other b)) (own part a) (own part b)
        (in_block then a) (in_block other b))
    in_stmt p (While line e body) =
        let start = p + length (expr_code e) + 1 in
        let after = start + length (block_code start body) + 1 in
        behind e (JumpIfZero after ∷ (block_code start body ++ (Jump p ∷ [])))
        ∙ (list_any-append (is_of part) (block_code start body) (Jump p ∷ [])
        ∙ (or_both (list_any (is_of part) (block_code start body)) false (own part body) false (in_block start body) refl
        ∙ or_false (own part body)))
    in_stmt p (Hold line bundle body) =
        let inside = block_code (p + 1) body in
        or_both (is_hold part) (list_any (is_of part) (inside ++ (Give bundle ∷ []))) (is_hold part) (own part body) refl
        (list_any-append (is_of part) inside (Give bundle ∷ [])
        ∙ (or_both (list_any (is_of part) inside) false (own part body) false (in_block (p + 1) body) refl ∙ or_false (own part body)))
    in_stmt p (Parbegin line first arms) = or_false (is_parbegin part)

    in_block : (p : ℕ) (block : Block) → list_any (is_of part) (block_code p block) ≡ own part block
    in_block p Skip = refl
    in_block p (Then s block) =
        let next = p + length (stmt_code p s) in
        list_any-append (is_of part) (stmt_code p s) (block_code next block)
        ∙ or_both (list_any (is_of part) (stmt_code p s)) (list_any (is_of part) (block_code next block)) (own_stmt part s) (own part block)
        (in_stmt p s) (in_block next block)

  in_arms : (p : ℕ) (arms : List Block) → list_any (is_of part) (arms_code p arms) ≡ list_any (own part) arms
  in_arms p [] = refl
  in_arms p (arm ∷ arms) =
      let next = p + length (arm_code p arm) in
      list_any-append (is_of part) (arm_code p arm) (arms_code next arms)
      ∙ or_both (list_any (is_of part) (arm_code p arm)) (list_any (is_of part) (arms_code next arms)) (own part arm) (list_any (own part) arms)
      (list_any-append (is_of part) (block_code p arm) (End ∷ [])
      ∙ (or_both (list_any (is_of part) (block_code p arm)) false (own part arm) false (in_block p arm) refl ∙ or_false (own part arm)))
      (in_arms next arms)

  -- what a statement has, in its arms or not
  mutual
    whole_stmt : (s : Stmt) → (own_stmt part s || list_any (own part) (arms_in_stmt s)) ≡ stmt_has part s
    whole_stmt (Assign line x e) = refl
    whole_stmt (Print line e) = refl
    whole_stmt (If line e a b) =
        let left = list_any (own part) (arms_in a) in
        let right = list_any (own part) (arms_in b) in
        ap (λ (x : Bool). (own part a || own part b) || x) (list_any-append (own part) (arms_in a) (arms_in b))
        ∙ (or_pairs (own part a) (own part b) left right
        ∙ or_both (own part a || left) (own part b || right) (block_has part a) (block_has part b) (whole a) (whole b))
    whole_stmt (While line e body) = whole body
    whole_stmt (Hold line bundle body) =
        or_assoc (is_hold part) (own part body) (list_any (own part) (arms_in body)) ∙ ap (λ (x : Bool). is_hold part || x) (whole body)
    whole_stmt (Parbegin line first arms) = ap (λ (x : Bool). is_parbegin part || x) (whole_arms arms)

    whole : (block : Block) → (own part block || list_any (own part) (arms_in block)) ≡ block_has part block
    whole Skip = refl
    whole (Then s block) =
        let left = list_any (own part) (arms_in_stmt s) in
        let right = list_any (own part) (arms_in block) in
        ap (λ (x : Bool). (own_stmt part s || own part block) || x) (list_any-append (own part) (arms_in_stmt s) (arms_in block))
        ∙ (or_pairs (own_stmt part s) (own part block) left right
        ∙ or_both (own_stmt part s || left) (own part block || right) (stmt_has part s) (block_has part block) (whole_stmt s) (whole block))

    whole_arms : (arms : Arms) → list_any (own part) (arms_list arms ++ arms_in_arms arms) ≡ arms_have part arms
    whole_arms NoArm = refl
    whole_arms (AndArm arm arms) =
        let inside = list_any (own part) (arms_in arm) in
        let heads = list_any (own part) (arms_list arms) in
        let deep = list_any (own part) (arms_in_arms arms) in
        list_any-append (own part) (arm ∷ arms_list arms) (arms_in arm ++ arms_in_arms arms)
        ∙ (ap (λ (x : Bool). (own part arm || heads) || x) (list_any-append (own part) (arms_in arm) (arms_in_arms arms))
        ∙ (or_pairs (own part arm) heads inside deep
        ∙ or_both (own part arm || inside) (heads || deep) (block_has part arm) (arms_have part arms) (whole arm)
        (sym (list_any-append (own part) (arms_list arms) (arms_in_arms arms)) ∙ whole_arms arms)))

  -- the code of a process has what the process has
  of_process : (process : Process) → has_part part (process_code process) ≡ process_has part process
  of_process process = in_arms 0 (arms_of process) ∙ whole process.body

  of_processes : (processes : List Process) → list_any (has_part part) (map process_code processes) ≡ list_any (process_has part) processes
  of_processes [] = refl
  of_processes (process ∷ processes) =
      or_both (has_part part (process_code process)) (list_any (has_part part) (map process_code processes)) (process_has part process)
      (list_any (process_has part) processes) (of_process process) (of_processes processes)

module _ (program : Program) (claims : Table) where
  met_too : (r : Requirement) → IsMet (program_code program claims) r → IsMetBy program claims r
  met_too (Claims amount name) (r, named, some) =
      let size = length-map program.processes process_code in (r, named, (some.0, subst (λ (n : ℕ). some.0 < n) size some.1, some.2))
  met_too (Has part) is = sym (of_processes part program.processes) ∙ is

  met_back : (r : Requirement) → IsMetBy program claims r → IsMet (program_code program claims) r
  met_back (Claims amount name) (r, named, some) =
      let size = length-map program.processes process_code in (r, named, (some.0, subst (λ (n : ℕ). some.0 < n) (sym size) some.1, some.2))
  met_back (Has part) is = of_processes part program.processes ∙ is

  -- so it is with all requirements
  pub all_met_too : (requirements : List Requirement) → AreMet (program_code program claims) requirements → AreMetBy program claims requirements
  all_met_too requirements all = λ i d there. met_too (get_or requirements i d) (all i d there)

  pub all_met_back : (requirements : List Requirement) → AreMetBy program claims requirements → AreMet (program_code program claims) requirements
  all_met_back requirements all = λ i d there. met_back (get_or requirements i d) (all i d there)
