-- Some free run holds as much as the one pass finds: each list has a free run to its end, so the run can go
-- on to where the most is held.
use Rattle.std.proofs.Common.{◌≡◌, ◌⊎◌, inl, inr, ℕ, ◌+◌, ◌<◌, ◌≤◌, max, true, List, [], ◌∷◌, ◌++◌, refl, subst}
use Rattle.std.proofs.Common.{arith, append-nil}
use Rattle.std.proofs.lemmas.Bool.{cases_lt}
use Rattle.pb_names.specs.Program.{Expr, Stmt, Assign, Print, If, While, Hold, Parbegin, Block, Skip, Then}
use Rattle.pb_names.specs.Program.{Arms, NoArm, AndArm}
use Rattle.pb_names.specs.Source.{Item, GiveBack, item_of, items_of}
use Rattle.pb_names.specs.Source.{Arm, Doing, Waiting, Ended, Running, Nothing, Beside, begin, all_ended}
use Rattle.pb_names.specs.Claims.{to_end, past_assign, past_print, to_then, to_else, past_loop}
use Rattle.pb_names.specs.Claims.{into_loop, into_hold, past_give, into_arms, FreeStep, in_list, join, in_arms}
use Rattle.pb_names.specs.Claims.{FreeStepAmong, in_first, in_later, FreeRun, at_start, and_then}
use Rattle.pb_names.specs.Claims.{held_in_list, held, held_among, stmt_peak, peak, arms_peak}
use Rattle.pb_names.proofs.Holdings.{block_held}

-- ---- runs one after another, and of arms side by side

run_both : (x y z : Arm) → FreeRun x y → FreeRun y z → FreeRun x z
run_both x y z f at_start = f
run_both x y z f (and_then arm next g step) = and_then arm next (run_both x y arm f g) step

step_then : (x y z : Arm) → FreeStep x y → FreeRun y z → FreeRun x z
step_then x y z s f = run_both x y z (and_then x y at_start s) f

-- free steps of running arms
data RunAmong (start : Running) : Running → Type 0 where
  among_start : RunAmong start start
  among_then : (arms next : Running) → RunAmong start arms → FreeStepAmong arms next → RunAmong start next

among_both : (x y z : Running) → RunAmong x y → RunAmong y z → RunAmong x z
among_both x y z f among_start = f
among_both x y z f (among_then arm next g step) = among_then arm next (among_both x y arm f g) step

lift_first : (x y : Arm) (arms : Running) → FreeRun x y → RunAmong (Beside x arms) (Beside y arms)
lift_first x y arms at_start = among_start
lift_first x y arms (and_then arm next f step) =
    among_then (Beside arm arms) (Beside next arms)
    (lift_first x arm arms f) (in_first arm next arms step)

lift_later : (arm : Arm) (xs ys : Running) → RunAmong xs ys → RunAmong (Beside arm xs) (Beside arm ys)
lift_later arm xs ys among_start = among_start
lift_later arm xs ys (among_then arms next f step) =
    among_then (Beside arm arms) (Beside arm next)
    (lift_later arm xs arms f) (in_later arm arms next step)

-- one arm runs, and then those after it
arms_both : (x y : Arm) (xs ys : Running) → FreeRun x y → RunAmong xs ys → RunAmong (Beside x xs) (Beside y ys)
arms_both x y xs ys f g =
    among_both (Beside x xs) (Beside y xs) (Beside y ys) (lift_first x y xs f) (lift_later y xs ys g)

lift_all : (line first : ℕ) (xs ys : Running) (rest : List Item) → RunAmong xs ys
    → FreeRun (Waiting line first xs rest) (Waiting line first ys rest)
lift_all line first xs ys rest among_start = at_start
lift_all line first xs ys rest (among_then arms next f step) =
    and_then (Waiting line first arms rest) (Waiting line first next rest)
    (lift_all line first xs arms rest f) (in_arms line first arms next rest step)

-- a list with nothing after it
alone : (block : Block) (arm : Arm) → FreeRun (Doing (items_of block ++ [])) arm → FreeRun (Doing (items_of block)) arm
alone block arm f = subst (λ items. FreeRun (Doing items) arm) (append-nil (items_of block)) f

-- ---- every list has a free run to its end

mutual
  finish_stmt : (s : Stmt) (rest : List Item) → FreeRun (Doing (item_of s ∷ rest)) (Doing rest)
  finish_stmt (Assign line x e) rest = and_then _ _ at_start (in_list _ _ (past_assign line x e rest))
  finish_stmt (Print line e) rest = and_then _ _ at_start (in_list _ _ (past_print line e rest))
  finish_stmt (If line e a b) rest = step_then _ _ _ (in_list _ _ (to_then line e a b rest)) (finish a rest)
  finish_stmt (While line e body) rest = and_then _ _ at_start (in_list _ _ (past_loop line e e body rest))
  finish_stmt (Hold line bundle body) rest =
      step_then _ _ _ (in_list _ _ (into_hold line bundle body rest))
      (and_then _ _ (finish body (GiveBack line bundle ∷ rest)) (in_list _ _ (past_give line bundle rest)))
  finish_stmt (Parbegin line first arms) rest =
      let f = finish_arms arms in
      step_then _ _ _ (in_list _ _ (into_arms line first arms rest))
      (and_then _ _ (lift_all line first (begin arms) f.0 rest f.1) (join line first f.0 rest f.2))

  finish : (block : Block) (rest : List Item) → FreeRun (Doing (items_of block ++ rest)) (Doing rest)
  finish Skip rest = at_start
  finish (Then s block) rest = run_both _ _ _ (finish_stmt s (items_of block ++ rest)) (finish block rest)

  finish_arms : (arms : Arms) → (ended : Running) × RunAmong (begin arms) ended × (all_ended ended ≡ true)
  finish_arms NoArm = (Nothing, among_start, refl)
  finish_arms (AndArm arm arms) =
      let f = finish_arms arms in
      let whole = alone arm (Doing []) (finish arm []) in
      let one : FreeRun (Doing (items_of arm)) Ended = and_then _ _ whole (in_list _ _ to_end) in
      (Beside Ended f.0, arms_both _ _ (begin arms) f.0 one f.1, f.2)

-- ---- and one to where it holds the most

-- a free run of a list leads to where this amount is held
pub record Reaches (r : ℕ) (items : List Item) (amount : ℕ) : Type 0 where
  pub arm : Arm
  pub run : FreeRun (Doing items) arm
  pub holds : held r arm ≡ amount

-- if one step leads to a list from which as much is reached
step_reaches : (r : ℕ) (items next : List Item) (a b : ℕ) → FreeStep (Doing items) (Doing next) → a ≡ b
    → Reaches r next a → Reaches r items b
step_reaches r items next a b step same g = record {
  arm = g.arm;
  run = step_then _ _ _ step g.run;
  holds = (let h = g.holds in omega (arith, h, same));
}

pick_side : (r line : ℕ) (e : Expr) (a b : Block) (rest : List Item)
    → Reaches r (items_of a ++ rest) (peak r a + held_in_list r rest)
    → Reaches r (items_of b ++ rest) (peak r b + held_in_list r rest)
    → Reaches r (Item.If line e a b ∷ rest) (max (peak r a) (peak r b) + held_in_list r rest)
pick_side r line e a b rest f g = go (cases_lt (peak r a) (peak r b))
  where
    go : (peak r a < peak r b) ⊎ (peak r b ≤ peak r a)
        → Reaches r (Item.If line e a b ∷ rest) (max (peak r a) (peak r b) + held_in_list r rest)
    go (inl u) = step_reaches r _ _ _ _ (in_list _ _ (to_else line e a b rest)) (omega arith) g
    go (inr u) = step_reaches r _ _ _ _ (in_list _ _ (to_then line e a b rest)) (omega arith) f

now_or_later : (r : ℕ) (s : Stmt) (block : Block) (rest : List Item)
    → Reaches r (item_of s ∷ (items_of block ++ rest)) (stmt_peak r s + held_in_list r (items_of block ++ rest))
    → Reaches r (items_of block ++ rest) (peak r block + held_in_list r rest)
    → Reaches r (item_of s ∷ (items_of block ++ rest)) (max (stmt_peak r s) (peak r block) + held_in_list r rest)
now_or_later r s block rest f g = go (cases_lt (stmt_peak r s) (peak r block))
  where
    go : (stmt_peak r s < peak r block) ⊎ (peak r block ≤ stmt_peak r s)
        → Reaches r (item_of s ∷ (items_of block ++ rest)) (max (stmt_peak r s) (peak r block) + held_in_list r rest)
    go (inl u) = record {
      arm = g.arm;
      run = run_both _ _ _ (finish_stmt s (items_of block ++ rest)) g.run;
      holds = (let h = g.holds in omega (arith, h));
    }
    go (inr u) = record {
      arm = f.arm;
      run = f.run;
      holds = (let h = f.holds in let b = block_held r block rest in omega (arith, h, b));
    }

mutual
  reach_stmt : (r : ℕ) (s : Stmt) (rest : List Item) → Reaches r (item_of s ∷ rest) (stmt_peak r s + held_in_list r rest)
  reach_stmt r (Assign line x e) rest = record { arm = _; run = at_start; holds = omega arith }
  reach_stmt r (Print line e) rest = record { arm = _; run = at_start; holds = omega arith }
  reach_stmt r (If line e a b) rest = pick_side r line e a b rest (reach r a rest) (reach r b rest)
  reach_stmt r (While line e body) rest =
      step_reaches r _ _ _ _ (in_list _ _ (into_loop line e e body rest)) (omega arith)
      (reach r body (Item.While line e e body ∷ rest))
  reach_stmt r (Hold line bundle body) rest =
      step_reaches r _ _ _ _ (in_list _ _ (into_hold line bundle body rest)) (omega arith)
      (reach r body (GiveBack line bundle ∷ rest))
  reach_stmt r (Parbegin line first arms) rest =
      let f = reach_arms r arms in
      record {
        arm = Waiting line first f.0 rest;
        run = step_then _ _ _ (in_list _ _ (into_arms line first arms rest))
            (lift_all line first (begin arms) f.0 rest f.1);
        holds = (let h = f.2 in omega (arith, h));
      }

  pub reach : (r : ℕ) (block : Block) (rest : List Item)
      → Reaches r (items_of block ++ rest) (peak r block + held_in_list r rest)
  reach r Skip rest = record { arm = _; run = at_start; holds = omega arith }
  reach r (Then s block) rest =
      now_or_later r s block rest (reach_stmt r s (items_of block ++ rest)) (reach r block rest)

  reach_arms : (r : ℕ) (arms : Arms)
      → (running : Running) × RunAmong (begin arms) running × (held_among r running ≡ arms_peak r arms)
  reach_arms r NoArm = (Nothing, among_start, refl)
  reach_arms r (AndArm arm arms) =
      let f = reach_arms r arms in
      let g = reach r arm [] in
      let one = alone arm g.arm g.run in (
        Beside g.arm f.0,
        arms_both _ _ (begin arms) f.0 one f.1,
        (let h = f.2 in let k = g.holds in omega (arith, h, k)),
      )
