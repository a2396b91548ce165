-- If the source can step, the code's arm skips only finitely often before it executes anything else.
use Rattle.std.proofs.Common.{◌≡◌, ◌⊎◌, inl, inr, ⊎_elim, ℕ, zero, suc, ◌+◌, ◌<◌, ◌≤◌, ℤ, Bool, true, false}
use Rattle.std.proofs.Common.{List, [], ◌∷◌, ◌++◌, length, Option, Some, None, option_map, option_and_then}
use Rattle.std.proofs.Common.{refl, sym, ap, ◌∙◌, subst, arith}
use Rattle.std.specs.Prelude.{slice_get}
use Rattle.std.proofs.lemmas.Bool.{cases_lt}
use Rattle.pb_base.specs.Steppers.{Effect}
use Rattle.pb_names.specs.Program.{Expr, Number, Variable, Unary, Binary}
use Rattle.pb_names.specs.Source.{Item, Arm, Doing, Waiting, Ended, find, step_arm, settle, step_run}
use Rattle.pb_names.specs.Source.{SourceProcess}
use Rattle.pb_code.specs.Code.{Instr, Push, Store, Jump, JumpIfZero, PrintTop, Take, Give, End, Idle, Live}
use Rattle.pb_code.specs.Code.{CodeProcess, Thread, thread}
use Rattle.pb_generator.specs.Generate.{expr_code}
use Rattle.pb_codegen.proofs.SimulationExpressions.{Left, unpushed, pushed, unloaded, under, on_left, on_right}
use Rattle.pb_names.specs.HeadLines.{first_line}
use Rattle.pb_names.proofs.ArmNumbers.{Mine}
use Rattle.pb_verifier.proofs.Threads.{thread_past}
use Rattle.pb_codegen.proofs.SimulationListings.{Listing}
use Rattle.pb_code.proofs.Chains.{after_skip, Stops, Skips, Chain}
use Rattle.pb_codegen.proofs.SimulationArms.{Has, Reaches, ItemAt, assign, print, choice, loop, hold, give}
use Rattle.pb_codegen.proofs.SimulationArms.{parallel, StandsAt, at_end, at_item}
use Rattle.pb_codegen.proofs.SimulationTrees.{Shows, outside, locate}
use Rattle.pb_codegen.proofs.SimulationProcesses.{Alike, RunAlike}

abbrev Pause : Listing → ℕ → Type 0
Pause code p = (k : ℕ) × (q : ℕ) × Skips code.code k p q × Stops code.code q

-- ---- an expression's code has no jump

abbrev is_jump : Instr → Bool
is_jump (Jump target) = true
is_jump i = false

abbrev NoJump : List Instr → Type 0
NoJump [] = Unit {0}
NoJump (i ∷ is) = (is_jump i ≡ false) × NoJump is

no_jump_both : (is js : List Instr) → NoJump is → NoJump js → NoJump (is ++ js)
no_jump_both [] js h g = g
no_jump_both (i ∷ is) js h g = (h.0, no_jump_both is js h.1 g)

expr_no_jump : (e : Expr) → NoJump (expr_code e)
expr_no_jump (Number v) = (refl, tt)
expr_no_jump (Variable x) = (refl, tt)
expr_no_jump (Unary op a) = no_jump_both (expr_code a) _ (expr_no_jump a) (refl, tt)
expr_no_jump (Binary op a b) =
    no_jump_both (expr_code a) _ (expr_no_jump a) (no_jump_both (expr_code b) _ (expr_no_jump b) (refl, tt))

left_no_jump : (e : Expr) (is : List Instr) (s : List ℤ) → Left e is s → NoJump is
left_no_jump e is s (unpushed v) = (refl, tt)
left_no_jump e is s (pushed v) = tt
left_no_jump e is s (unloaded x) = (refl, tt)
left_no_jump e is s (under op a code s' l) = no_jump_both code _ (left_no_jump a code s' l) (refl, tt)
left_no_jump e is s (on_left op a b code s' l) =
    no_jump_both code _ (left_no_jump a code s' l) (no_jump_both (expr_code b) _ (expr_no_jump b) (refl, tt))
left_no_jump e is s (on_right op v b code s' l) = no_jump_both code _ (left_no_jump b code s' l) (refl, tt)

stop_at : (code : Listing) (p : ℕ) (i : Instr) → slice_get code.instrs p ≡ Some i → after_skip i p ≡ None
    → Pause code p
stop_at code p i at none = (0, p, refl, ap (option_and_then (λ i. after_skip i p)) at ∙ none)

lead : (code : Listing) (is : List Instr) (tail : Instr) (p : ℕ) → Has code p (is ++ tail ∷ []) → NoJump is
    → ((q : ℕ) → after_skip tail q ≡ None) → Pause code p
lead code [] tail p h free stop = stop_at code p tail h.0 (stop p)
lead code (Push v ∷ is) tail p h free stop =
    let r = lead code is tail (p + 1) h.1 free.1 stop in
    (suc r.0, r.1, (p + 1, ap (option_and_then (λ i. after_skip i p)) h.0, r.2), r.3)
lead code (Jump target ∷ is) tail p h free stop = let w : true ≡ false = free.0 in cc
lead code (i ∷ is) tail p h free stop = stop_at code p i h.0 refl

item_pause : (code : Listing) (item : Item) (p : ℕ) (s : List ℤ) (after : ℕ) (next : Option ℕ)
    → ItemAt code item p s after next → Pause code p
item_pause code item p s after next (assign line x e is p' s' after' next' left has lines len) =
    lead code is (Store x) p has (left_no_jump e is s left) (λ q. refl)
item_pause code item p s after next (print line e is p' s' after' next' left has lines len) =
    lead code is PrintTop p has (left_no_jump e is s left) (λ q. refl)
item_pause code item p s after next (choice line e a b is p' s' then other after' next' left has lines len hasa linesa
    hasb linesb lenb pa pb) = lead code is (JumpIfZero other) p has (left_no_jump e is s left) (λ q. refl)
item_pause code item p s after next (loop line test e body is p' s' place after' next' left has lines len hasw linesw
    lenw placed) = lead code is (JumpIfZero after) p has (left_no_jump e is s left) (λ q. refl)
item_pause code item p s after next (hold line bundle body p' after' next' has lines len placed) =
    stop_at code p (Take bundle) has.0 refl
item_pause code item p s after next (give line bundle p' after' next' has line_is len) =
    stop_at code p (Give bundle) has refl
item_pause code item p s after next (parallel line first arms p' after' next' hasf hasj lines len placed) =
    stop_at code p _ hasf refl

at_pause : (code : Listing) (items : List Item) (p : ℕ) (s : List ℤ) → StandsAt code items p s → Pause code p
at_pause code items p s (at_end p' h line) = stop_at code p End h refl
at_pause code items p s (at_item item rest p' s' after n q i r st) =
    item_pause code item p s after (first_line rest) i

jumps_pause : (code : Listing) (line : Option ℕ) (n p q : ℕ) → Reaches code line n p q → Pause code q
    → Pause code p
jumps_pause code line zero p q r c = subst (Pause code) (sym r) c
jumps_pause code line (suc n) p q r c =
    let c' = jumps_pause code line n r.0 q r.3 c in
    (suc c'.0, c'.1, (r.0, ap (option_and_then (λ i. after_skip i p)) r.1, c'.2), c'.3)

-- ---- the arm of a process

module _ (code : Listing) (cp : CodeProcess) (a : ℕ) where
  from_pause : (p : ℕ) (s : List ℤ) → thread cp.threads a ≡ Live p s → Pause code p
      → (k : ℕ) × Chain code.code cp a k
  from_pause p s live c = (c.0, (p, s, c.1, live, c.2, c.3))

  live_found : (p : ℕ) (s : List ℤ) (found : Arm) (low high : ℕ) → thread cp.threads a ≡ Live p s
      → Shows code cp.threads a low high found → (k : ℕ) × Chain code.code cp a k
  live_found p s (Doing items) low high live h = from_pause h.0 h.1 h.2 (jumps_pause code (first_line
      items) h.3.jumps h.0 h.3.first h.3.reaches (at_pause code items h.3.first h.1 h.3.stands))
  live_found p s (Waiting line first arms rest) low high live h = from_pause h.0 [] h.1 (stop_at code h.0 _ h.2 refl)
  live_found p s Ended low high live h = let w : Thread.Ended ≡ Live p s = sym h.0 ∙ live in cc

  found_chain : (vars : List ℤ) (root found : Arm) (low high : ℕ) (r : SourceProcess × Effect)
      → find a 0 root ≡ Some found → step_run vars a root ≡ Some r → Shows code cp.threads a low high found
      → (k : ℕ) × Chain code.code cp a k
  found_chain vars root (Doing items) low high r f steps h = live_found h.0 h.1 (Doing items) low high h.2 h
  found_chain vars root (Waiting line first arms rest) low high r f steps h =
      live_found h.0 [] (Waiting line first arms rest) low high h.1 h
  found_chain vars root Ended low high r f steps h =
      let none : step_run vars a root ≡ None =
      ap (option_and_then (λ arm. option_map (settle vars root a) (step_arm vars arm))) f in
      let w : None ≡ Some r = sym none ∙ steps in cc

  live_run : (p : ℕ) (s : List ℤ) (run : Option Arm) → thread cp.threads a ≡ Live p s
      → RunAlike code cp.threads cp.faulted run → (k : ℕ) × Chain code.code cp a k
  live_run p s None live h = let w : Idle ≡ Live p s = sym (h.1 a) ∙ live in cc
  live_run p s (Some root) live h = go (cases_lt a (length cp.threads))
    where
      mine : a < length cp.threads → (0 < a) ⊎ (a ≤ 0) → Mine 0 1 (length cp.threads) a
      mine u (inl q) = inr (omega arith)
      mine u (inr q) = inl (omega arith)

      go : (a < length cp.threads) ⊎ (length cp.threads ≤ a) → (k : ℕ) × Chain code.code cp a k
      go (inl u) =
          ⊎_elim (λ l. live_found p s l.found l.low l.high live l.shows)
          (λ none. let w : Idle ≡ Live p s = sym none.1 ∙ live in cc)
          (locate code cp.threads 0 1 (length cp.threads) root a h.2 (omega arith) (mine u (cases_lt 0 a)))
      go (inr u) = let w : Idle ≡ Live p s = sym (thread_past cp.threads a u) ∙ live in cc

  -- a live arm skips some number of times, and then no more
  pub live_chain : (p : ℕ) (s : List ℤ) (sp : SourceProcess) → Alike code cp sp → thread cp.threads a ≡ Live p s
      → (k : ℕ) × Chain code.code cp a k
  live_chain p s sp h live = live_run p s sp.run live h.run

  pub nowhere : (vars : List ℤ) (root : Arm) (r : SourceProcess × Effect) → find a 0 root ≡ None
      → step_run vars a root ≡ Some r → ⊥
  nowhere vars root r f steps =
      let none : step_run vars a root ≡ None =
      ap (option_and_then (λ arm. option_map (settle vars root a) (step_arm vars arm))) f in
      let w : None ≡ Some r = sym none ∙ steps in cc

  run_chain : (vars : List ℤ) (run : Option Arm) (r : SourceProcess × Effect)
      → RunAlike code cp.threads cp.faulted run → option_and_then (step_run vars a) run ≡ Some r
      → (k : ℕ) × Chain code.code cp a k
  run_chain vars None r h steps = let w : None ≡ Some r = steps in cc
  run_chain vars (Some root) r h steps = go (cases_lt a (length cp.threads))
    where
      mine : a < length cp.threads → (0 < a) ⊎ (a ≤ 0) → Mine 0 1 (length cp.threads) a
      mine u (inl q) = inr (omega arith)
      mine u (inr q) = inl (omega arith)

      go : (a < length cp.threads) ⊎ (length cp.threads ≤ a) → (k : ℕ) × Chain code.code cp a k
      go (inl u) =
          ⊎_elim (λ l. found_chain vars root l.found l.low l.high r l.is_found steps l.shows) (λ none. elim (nowhere vars root r none.0 steps) [ ])
          (locate code cp.threads 0 1 (length cp.threads) root a h.2 (omega arith) (mine u (cases_lt 0 a)))
      go (inr u) =
          let some : 1 ≤ length cp.threads = h.1 in
          elim (nowhere vars root r (outside code cp.threads 0 1 (length cp.threads) root a h.2 (elim [
            | inl m ↦ (omega
                arith)
            | inr m ↦ (omega arith)
          ])).0 steps) [ ]

  pub chain : (sp : SourceProcess) (r : SourceProcess × Effect) → Alike code cp sp
      → option_and_then (step_run sp.vars a) sp.run ≡ Some r → (k : ℕ) × Chain code.code cp a k
  chain sp r h steps = run_chain sp.vars sp.run r h.run steps
