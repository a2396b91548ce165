-- The code of a process is where it says, and its start shows the program's.
use Rattle.std.proofs.Common.{◌≡◌, ℕ, zero, suc, ◌+◌, ◌<◌, ◌≤◌, List, [], ◌∷◌, ◌++◌, length, get_or, map}
use Rattle.std.proofs.Common.{Option, Some, None, refl, sym, ap, ◌∙◌, subst, arith, append_assoc, append-nil}
use Rattle.std.proofs.Common.{length-append}
use Rattle.std.specs.Prelude.{slice_get}
use Rattle.std.proofs.Math.ListN.{get_or-map}
use Rattle.std.proofs.lemmas.List.{length-map}
use Rattle.pb_base.proofs.Lists.{get_left}
use Rattle.pb_names.specs.Program.{Stmt, Assign, Print, If, While, Hold, Parbegin, Block, Skip, Then, Arms}
use Rattle.pb_names.specs.Program.{NoArm, AndArm, count, arms_list, arms_in, arms_in_stmt, arms_in_arms}
use Rattle.pb_names.specs.Program.{IsNumbered, IsNumberedStmt, AreNumbered, Process, arms_of, IsWellNumbered}
use Rattle.pb_names.specs.Source.{items_of, source_process}
use Rattle.pb_code.specs.Code.{Instr, End, Idle, Live, thread, code_process}
use Rattle.pb_generator.specs.Generate.{block_code, arm_code, arms_code, arms_entries, process_code}
use Rattle.pb_generator.specs.Lines.{block_lines, arms_lines, process_lines}
use Rattle.pb_generator.proofs.Parts.{get_back}
use Rattle.pb_codegen.proofs.SimulationListings.{Listing, LinesAt, lines_front, lines_back, length-block_lines}
use Rattle.pb_codegen.proofs.SimulationExpressions.{HasAt, has_front, has_back}
use Rattle.pb_codegen.proofs.SimulationArms.{entry, Has, Lines, PlacedStmt, Placed, ArmsPlaced}
use Rattle.pb_codegen.proofs.SimulationTrees.{Owns}
use Rattle.pb_names.proofs.NumberedLists.{length-arms_list}
use Rattle.pb_codegen.proofs.SimulationNumbers.{owns_block}
use Rattle.pb_codegen.proofs.SimulationProcesses.{Alike, arm_stands}

-- ---- lists

has_all : (pre is : List Instr) → HasAt (pre ++ is) (length pre) is
has_all pre [] = tt
has_all pre (i ∷ is) =
    let e : length pre + 0 ≡ length pre = omega arith in
    let n : length (pre ++ i ∷ []) ≡ length pre + 1 = omega (arith, length-append pre (i ∷ [])) in
    let rest = subst (λ l. HasAt l (length (pre ++ i ∷ [])) is) (append_assoc pre (i ∷ []) is) (has_all (pre ++ i ∷ []) is) in
    (ap (slice_get (pre ++ i ∷ is)) (sym e) ∙ get_back pre (i ∷ is) 0, subst (λ m. HasAt (pre ++ i ∷ is) m is) n rest)

get_or_past_front : (pre ls : List (Option ℕ)) (i : ℕ)
    → get_or (pre ++ ls) (length pre + i) None ≡ get_or ls i None
get_or_past_front [] ls i = ap (λ k. get_or ls k None) (omega arith)
get_or_past_front (y ∷ pre) ls i =
    let e : length (y ∷ pre) + i ≡ suc (length pre + i) = omega arith in
    ap (λ k. get_or (y ∷ pre ++ ls) k None) e ∙ get_or_past_front pre ls i

has_all_lines : (pre ls : List (Option ℕ)) → LinesAt (pre ++ ls) (length pre) ls
has_all_lines pre [] = tt
has_all_lines pre (i ∷ ls) =
    let e : length pre + 0 ≡ length pre = omega arith in
    let n : length (pre ++ i ∷ []) ≡ length pre + 1 = omega (arith, length-append pre (i ∷ [])) in
    let rest = subst (λ l. LinesAt l (length (pre ++ i ∷ [])) ls) (append_assoc pre (i ∷ []) ls) (has_all_lines (pre ++ i ∷ []) ls) in
    (ap (λ k. get_or (pre ++ i ∷ ls) k None) (sym e) ∙ get_or_past_front pre (i ∷ ls) 0, subst (λ m. LinesAt (pre ++ i ∷ ls) m ls) n rest)

-- ---- each arm at its entry

laid_out : (is : List Instr) (place : ℕ) (arms : List Block) → HasAt is place (arms_code place arms)
    → (a : ℕ) (arm : Block) → slice_get arms a ≡ Some arm
    → HasAt is (get_or (arms_entries place arms) a 0) (arm_code (get_or (arms_entries place arms) a 0) arm)
laid_out is place [] h a arm e = cc
laid_out is place (b ∷ arms) h zero arm e =
    let same : Some b ≡ Some arm = e in
    let same' : b ≡ arm = cc in
    subst (λ x. HasAt is place (arm_code place x)) same' (has_front is place (arm_code place b) _ h)
laid_out is place (b ∷ arms) h (suc a) arm e =
    laid_out is (place + length (arm_code place b)) arms (has_back is place (arm_code place b) _ h) a arm e

arm_lines_length : (place : ℕ) (arm : Block)
    → place + length (block_lines arm None ++ None ∷ []) ≡ place + length (arm_code place arm)
arm_lines_length place arm = omega (
  arith,
  length-append (block_lines arm None) (None ∷ []),
  length-append (block_code
      place arm) (End ∷ []),
  length-block_lines place arm None,
)

lined_out : (lines : List (Option ℕ)) (place : ℕ) (arms : List Block) → LinesAt lines place (arms_lines arms)
    → (a : ℕ) (arm : Block) → slice_get arms a ≡ Some arm
    → LinesAt lines (get_or (arms_entries place arms) a 0) (block_lines arm None ++ None ∷ [])
lined_out lines place [] h a arm e = cc
lined_out lines place (b ∷ arms) h zero arm e =
    let same : Some b ≡ Some arm = e in
    let same' : b ≡ arm = cc in
    subst (λ x. LinesAt lines place (block_lines x None ++ None ∷ [])) same' (lines_front lines place (block_lines b None ++ None ∷ []) (arms_lines arms) h)
lined_out lines place (b ∷ arms) h (suc a) arm e =
    lined_out lines (place + length (arm_code place b)) arms
    (subst (λ k. LinesAt lines k (arms_lines arms)) (arm_lines_length place b) (lines_back lines place (block_lines b
    None ++ None ∷ []) (arms_lines arms) h)) a arm e

pub length-entries : (place : ℕ) (arms : List Block) → length (arms_entries place arms) ≡ length arms
length-entries place [] = refl
length-entries place (arm ∷ arms) = ap suc (length-entries (place + length (arm_code place arm)) arms)

-- an arm has its code and lines at the entry with this number
abbrev At : Listing → ℕ → Block → Type 0
At code a arm =
    Has code (entry code a) (arm_code (entry code a) arm)
    × Lines code (entry code a) (block_lines arm None ++ None ∷ [])

-- these arms have them at the entries from n on
abbrev Segment : Listing → ℕ → List Block → Type 0
Segment code n arms = (i : ℕ) (arm : Block) → slice_get arms i ≡ Some arm → At code (n + i) arm

segment_front : (code : Listing) (n : ℕ) (xs ys : List Block) → Segment code n (xs ++ ys) → Segment code n xs
segment_front code n xs ys s i arm e = s i arm (get_left xs ys i arm e)

segment_back : (code : Listing) (n : ℕ) (xs ys : List Block) → Segment code n (xs ++ ys)
    → Segment code (n + length xs) ys
segment_back code n xs ys s i arm e =
    let k : n + (length xs + i) ≡ n + length xs + i = omega arith in
    subst (λ m. At code m arm) k (s (length xs + i) arm (get_back xs ys i ∙ e))

mutual
  placed_stmt : (code : Listing) (m : ℕ) (s : Stmt) → IsNumberedStmt m s → Segment code m (arms_in_stmt s)
      → PlacedStmt code s
  placed_stmt code m (Assign line x e) n s = tt
  placed_stmt code m (Print line e) n s = tt
  placed_stmt code m (If line e a b) n s = (
    placed code m a n.0 (segment_front code m (arms_in a) (arms_in b) s),
    placed code (m + length (arms_in a)) b
        n.1 (segment_back code m (arms_in a) (arms_in b) s),
  )
  placed_stmt code m (While line e body) n s = placed code m body n s
  placed_stmt code m (Hold line bundle body) n s = placed code m body n s
  placed_stmt code m (Parbegin line first arms) n s =
      let inner = segment_back code m (arms_list arms) (arms_in_arms arms) s in
      subst (λ k. ArmsPlaced code k arms) (sym n.0)
      (placed_arms code m (m + count arms) arms n.1 (segment_front code m (arms_list arms) (arms_in_arms arms) s)
      (subst (λ k. Segment code (m + k) (arms_in_arms arms)) (length-arms_list arms) inner))

  placed : (code : Listing) (m : ℕ) (block : Block) → IsNumbered m block → Segment code m (arms_in block)
      → Placed code block
  placed code m Skip n s = tt
  placed code m (Then stmt block) n s = (
    placed_stmt code m stmt n.0 (segment_front code m (arms_in_stmt stmt) (arms_in block) s),
    placed code (m + length (arms_in_stmt stmt)) block n.1 (segment_back code m (arms_in_stmt stmt) (arms_in block) s),
  )

  placed_arms : (code : Listing) (first m : ℕ) (arms : Arms) → AreNumbered m arms
      → Segment code first (arms_list arms) → Segment code m (arms_in_arms arms) → ArmsPlaced code first arms
  placed_arms code first m NoArm n own inner = tt
  placed_arms code first m (AndArm arm arms) n own inner =
      let e : first + 0 ≡ first = omega arith in
      let here = subst (λ k. At code k arm) e (own 0 arm refl) in (
        here.0,
        here.1,
        placed code m arm n.0 (segment_front code m (arms_in arm) (arms_in_arms arms) inner),
        placed_arms code (first + 1) (m + length (arms_in arm)) arms n.1
            (λ i b h. let k : first + suc i ≡ first + 1 + i = omega arith in subst (λ j. At code j b) k (own (suc i) b h))
            (segment_back code m (arms_in arm) (arms_in_arms arms) inner),
      )

-- ---- the start

-- the code of a process beside its lines
abbrev pub listing_of : Process → Listing
listing_of process = record { code = process_code process; lines = process_lines process }

pub starts_alike : (process : Process) → IsWellNumbered process
    → Alike (listing_of process) (code_process (process_code process)) (source_process process)
starts_alike process numbered =
    let code = listing_of process in
    let body = process.body in
    let arms = arms_of process in
    let whole : Has code 0 (arms_code 0 arms) = has_all [] (arms_code 0 arms) in
    let whole_lines : Lines code 0 (arms_lines arms) = has_all_lines [] (arms_lines arms) in
    let all : Segment code 0 arms = λ i arm e. let k : i ≡ 0 + i = omega arith in subst (λ j. At code j arm) k
    (laid_out code.instrs 0 arms whole i arm e, lined_out code.lines 0 arms whole_lines i arm e) in
    let own_lines = lines_front code.lines 0 (block_lines body None ++ None ∷ []) (arms_lines (arms_in body)) whole_lines in
    let k : 0 + length (body ∷ []) ≡ 1 = omega arith in
    let inner : Segment code 1 (arms_in body) =
    subst (λ j. Segment code j (arms_in body)) k (segment_back code 0 (body ∷ []) (arms_in body) all) in
    let is_placed = placed code 1 body numbered inner in
    let own = has_front code.instrs 0 (arm_code 0 body) (arms_code (0 + length (arm_code 0 body)) (arms_in body)) whole in
    let rest = arms_entries (0 + length (arm_code 0 body)) (arms_in body) in
    let len : length (map (λ (a : ℕ). Idle) rest) ≡ length (arms_in body) =
    length-map rest (λ (a : ℕ). Idle) ∙ length-entries (0 + length (arm_code 0 body)) (arms_in body) in
    let threads = Live 0 [] ∷ map (λ (a : ℕ). Idle) rest in
    let idle : (a : ℕ) → 1 ≤ a → a < length threads → thread threads a ≡ Idle =
    elim [ zero ↦ λ l u. elim (let w : ⊥ = omega arith in w) [ ] | suc a ↦ λ l u. get_or-map (λ (a : ℕ). Idle) rest a 0 ] in
    record {
      vars = refl;
      run = (
        refl,
        omega arith,
        (
          0,
          [],
          refl,
          arm_stands code 0 body own own_lines is_placed,
          subst (Owns 1 (length threads)) (append-nil (items_of body)) (owns_block 1 (length threads) body [] (
            1,
            omega arith,
            numbered,
            omega arith,
          ) (omega arith)),
          omega arith,
          idle,
        ),
      );
    }
