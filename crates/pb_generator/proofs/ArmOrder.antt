-- The arms of a process as they are written one after another.
use Rattle.std.proofs.Common.{◌≡◌, ℕ, zero, suc, ◌+◌, ◌<◌, ◌≤◌, List, [], ◌∷◌, ◌++◌, length, map, take}
use Rattle.std.proofs.Common.{get_or, None, arith, ap, subst, sym, refl, ◌∙◌, append_assoc, length-append, All}
use Rattle.std.proofs.lemmas.List.{append-nil, map_more}
use Rattle.std.proofs.lemmas.List.Elements.{All-nil, All-cons, All-append, All-weaker}
use Rattle.pb_code.specs.Bundles.{NamesBelow}
use Rattle.pb_code.specs.View.{instr_view}
use Rattle.pb_generator.specs.Emitted.{seen, place, IsSound, HasRoom, Adds}
use Rattle.pb_generator.specs.Generate.{arm_code, arms_code, arms_entries}
use Rattle.pb_generator.specs.Lines.{block_lines, arms_lines}
use Rattle.pb_generator.specs.declared.writer.Writer.{Writer}
use Rattle.pb_generator.proofs.Parts.{length-seen}
use Rattle.pb_names.specs.Program.{Stmt, Assign, Print, If, While, Hold, Parbegin, Block, Skip, Then, Arms}
use Rattle.pb_names.specs.Program.{NoArm, AndArm, Process, arms_list, arms_in, arms_in_stmt, arms_in_arms}
use Rattle.pb_names.specs.Program.{arms_of}

-- ---- one more arm

code_more : (p : ℕ) (front : List Block) (arm : Block)
    → arms_code p (front ++ arm ∷ []) ≡ arms_code p front ++ arm_code (p + length (arms_code p front)) arm
code_more p [] arm =
    let e : p ≡ p + 0 = omega arith in
    append-nil (arm_code p arm) ∙ ap (λ (q : ℕ). arm_code q arm) e
code_more p (a ∷ front) arm =
    let q = p + length (arm_code p a) in
    let C = arms_code q front in
    let e : q + length C ≡ p + length (arm_code p a ++ C) = omega (arith, length-append (arm_code p a) C) in
    ap (λ code. arm_code p a ++ code) (code_more q front arm)
    ∙ sym (append_assoc (arm_code p a) C (arm_code (q + length C) arm))
    ∙ ap (λ (k : ℕ). (arm_code p a ++ C) ++ arm_code k arm) e

entries_more : (p : ℕ) (front : List Block) (arm : Block)
    → arms_entries p (front ++ arm ∷ []) ≡ arms_entries p front ++ (p + length (arms_code p front)) ∷ []
entries_more p [] arm = let e : p ≡ p + 0 = omega arith in ap (λ (q : ℕ). q ∷ []) e
entries_more p (a ∷ front) arm =
    let q = p + length (arm_code p a) in
    let C = arms_code q front in
    let e : q + length C ≡ p + length (arm_code p a ++ C) = omega (arith, length-append (arm_code p a) C) in
    ap (λ es. p ∷ es) (entries_more q front arm) ∙ ap (λ (k : ℕ). p ∷ (arms_entries q front ++ k ∷ [])) e

lines_more : (front : List Block) (arm : Block)
    → arms_lines (front ++ arm ∷ []) ≡ arms_lines front ++ (block_lines arm None ++ None ∷ [])
lines_more [] arm = append-nil (block_lines arm None ++ None ∷ [])
lines_more (a ∷ front) arm =
    ap (λ ls. (block_lines a None ++ None ∷ []) ++ ls) (lines_more front arm)
    ∙ sym (append_assoc (block_lines a None ++ None ∷ []) (arms_lines front) (block_lines arm None ++ None ∷ []))

front_within : (p : ℕ) (arms : List Block) (i : ℕ)
    → length (arms_code p (take i arms)) ≤ length (arms_code p arms)
front_within p [] zero = omega arith
front_within p [] (suc i) = omega arith
front_within p (a ∷ arms) zero = omega arith
front_within p (a ∷ arms) (suc i) =
    let q = p + length (arm_code p a) in
    omega (
      arith,
      front_within q arms i,
      length-append (arm_code p a) (arms_code q (take i arms)),
      length-append (arm_code p a) (arms_code q arms),
    )

-- ---- what has been written of arms

pub record HasWritten (w : Writer) (entries : List ℕ) (arms : List Block) : Type 0 where
  pub coded : seen w ≡ arms_code 0 arms
  pub lined : w.lines.items ≡ arms_lines arms
  pub begun : entries ≡ arms_entries 0 arms
  pub sound : IsSound w

pub wrote_none : (w : Writer) (entries : List ℕ) → w.instrs.items ≡ [] → w.lines.items ≡ [] → w.bundles.items ≡ []
    → entries ≡ [] → HasWritten w entries []
wrote_none w entries instrs lines bundles begun = record {
  coded = ap (map (instr_view w.bundles.items)) instrs;
  lined = lines;
  begun = begun;
  sound = record {
    named =
        subst (All (NamesBelow (length w.bundles.items))) (sym instrs) (All-nil (NamesBelow (length w.bundles.items)));
    few = omega (arith, ap length bundles);
  };
}

pub written-place : {w : Writer} {entries : List ℕ} {arms : List Block} → HasWritten w entries arms
    → place w ≡ length (arms_code 0 arms)
written-place {w} h = sym (length-seen w) ∙ ap length h.coded

-- the arms up to one that was read, and that one; they are seen by f
arms_more : {X : Type 0} (f : X → Block) (xs : List X) (i : ℕ) (x : X) → x ≡ get_or xs i x → i < length xs
    → map f (take (i + 1) xs) ≡ map f (take i xs) ++ f x ∷ []
arms_more f xs i x here l = map_more f xs i x l ∙ ap (λ y. map f (take i xs) ++ f y ∷ []) (sym here)

pub wrote_arm : {X : Type 0} {w u : Writer} (f : X → Block) (xs : List X) (i : ℕ) (x : X)
    (entries entries' : List ℕ) (at : ℕ)
    → x ≡ get_or xs i x → i < length xs → HasWritten w entries (map f (take i xs))
    → at ≡ place w → entries' ≡ entries ++ at ∷ []
    → Adds w u (arm_code (place w) (f x)) (block_lines (f x) None ++ None ∷ [])
    → HasWritten u entries' (map f (take (i + 1) xs))
wrote_arm {X} {w} {u} f xs i x entries entries' at here l h is_at pushed k =
    let front = map f (take i xs) in
    let all = sym (arms_more f xs i x here l) in
    let q : place w ≡ 0 + length (arms_code 0 front) = omega (arith, written-place h) in
    record {
      coded =
          k.coded ∙ ap (λ is. is ++ arm_code (place w) (f x)) h.coded
          ∙ ap (λ (p : ℕ). arms_code 0 front ++ arm_code p (f x)) q ∙ sym (code_more 0 front (f x)) ∙ ap (arms_code 0) all;
      lined =
          k.lined ∙ ap (λ ls. ls ++ (block_lines (f x) None ++ None ∷ [])) h.lined ∙ sym (lines_more front (f x))
          ∙ ap arms_lines all;
      begun =
          pushed ∙ ap (λ es. es ++ at ∷ []) h.begun ∙ ap (λ (p : ℕ). arms_entries 0 front ++ p ∷ []) (is_at ∙ q)
          ∙ sym (entries_more 0 front (f x)) ∙ ap (arms_entries 0) all;
      sound = k.sound;
    }

pub room_for_arm : {X : Type 0} {w : Writer} (f : X → Block) (all xs : List X) (i : ℕ) (x : X)
    (entries : List ℕ)
    → xs ≡ all → x ≡ get_or xs i x → i < length xs → length (arms_code 0 (map f all)) ≤ 40000
    → HasWritten w entries (map f (take i xs)) → HasRoom w (arm_code (place w) (f x))
room_for_arm {X} {w} f all xs i x entries same here l small h =
    let front = map f (take i xs) in
    let q : place w ≡ 0 + length (arms_code 0 front) = omega (arith, written-place h) in
    let more = ap (λ bs. length (arms_code 0 bs)) (arms_more f xs i x here l) in
    let split = ap length (code_more 0 front (f x)) in
    let one : length (arm_code (place w) (f x)) ≡ length (arm_code (0 + length (arms_code 0 front)) (f x)) =
    ap (λ (n : ℕ). length (arm_code n (f x))) q in
    let fewer = front_within 0 (map f xs) (i + 1) in
    let taken = ap (λ bs. length (arms_code 0 bs)) (map-take f (i + 1) xs) in
    let given = ap (λ ys. length (arms_code 0 (map f ys))) same in
    record {
      sound = h.sound;
      small =
          omega (
            arith,
            q,
            more,
            split,
            one,
            fewer,
            taken,
            given,
            small,
            length-append (arms_code 0 front) (arm_code (0 + length (arms_code 0 front)) (f x)),
          );
    }
  where
    map-take : {X Y : Type 0} (f : X → Y) (n : ℕ) (xs : List X) → map f (take n xs) ≡ take n (map f xs)
    map-take f zero [] = refl
    map-take f zero (x ∷ xs) = refl
    map-take f (suc n) [] = refl
    map-take f (suc n) (x ∷ xs) = ap (λ ys. f x ∷ ys) (map-take f n xs)

-- ---- an arm has no more arms inside than the process

abbrev HasFew : ℕ → Block → Type 0
HasFew n arm = length (arms_in arm) ≤ n

more_room : (n m : ℕ) → n ≤ m → (arms : List Block) → All (HasFew n) arms → All (HasFew m) arms
more_room n m le arms h = All-weaker (HasFew n) (HasFew m) (λ arm k. omega (arith, k)) arms h

mutual
  few_in_stmt : (s : Stmt) → All (HasFew (length (arms_in_stmt s))) (arms_in_stmt s)
  few_in_stmt (Assign line x e) = All-nil (HasFew 0)
  few_in_stmt (Print line e) = All-nil (HasFew 0)
  few_in_stmt (If line e a b) =
      let n = length (arms_in a ++ arms_in b) in
      let all = length-append (arms_in a) (arms_in b) in
      All-append (HasFew n) (arms_in a) (arms_in b)
      (more_room (length (arms_in a)) n (omega (arith, all)) (arms_in a) (few_in a))
      (more_room (length (arms_in b)) n (omega (arith, all)) (arms_in b) (few_in b))
  few_in_stmt (While line e body) = few_in body
  few_in_stmt (Hold line bundle body) = few_in body
  few_in_stmt (Parbegin line first arms) =
      let n = length (arms_list arms ++ arms_in_arms arms) in
      let all = length-append (arms_list arms) (arms_in_arms arms) in
      All-append (HasFew n) (arms_list arms) (arms_in_arms arms)
      (more_room (length (arms_in_arms arms)) n (omega (arith, all)) (arms_list arms) (few_in_own arms))
      (more_room (length (arms_in_arms arms)) n (omega (arith, all)) (arms_in_arms arms) (few_in_arms arms))

  few_in : (block : Block) → All (HasFew (length (arms_in block))) (arms_in block)
  few_in Skip = All-nil (HasFew 0)
  few_in (Then s block) =
      let n = length (arms_in_stmt s ++ arms_in block) in
      let all = length-append (arms_in_stmt s) (arms_in block) in
      All-append (HasFew n) (arms_in_stmt s) (arms_in block)
      (more_room (length (arms_in_stmt s)) n (omega (arith, all)) (arms_in_stmt s) (few_in_stmt s))
      (more_room (length (arms_in block)) n (omega (arith, all)) (arms_in block) (few_in block))

  few_in_arms : (arms : Arms) → All (HasFew (length (arms_in_arms arms))) (arms_in_arms arms)
  few_in_arms NoArm = All-nil (HasFew 0)
  few_in_arms (AndArm arm arms) =
      let n = length (arms_in arm ++ arms_in_arms arms) in
      let all = length-append (arms_in arm) (arms_in_arms arms) in
      All-append (HasFew n) (arms_in arm) (arms_in_arms arms)
      (more_room (length (arms_in arm)) n (omega (arith, all)) (arms_in arm) (few_in arm))
      (more_room (length (arms_in_arms arms)) n (omega (arith, all)) (arms_in_arms arms) (few_in_arms arms))

  few_in_own : (arms : Arms) → All (HasFew (length (arms_in_arms arms))) (arms_list arms)
  few_in_own NoArm = All-nil (HasFew 0)
  few_in_own (AndArm arm arms) =
      let n = length (arms_in arm ++ arms_in_arms arms) in
      let all = length-append (arms_in arm) (arms_in_arms arms) in
      All-cons (HasFew n) arm (arms_list arms) (omega (arith, all))
      (more_room (length (arms_in_arms arms)) n (omega (arith, all)) (arms_list arms) (few_in_own arms))

-- so each arm of a process that can be generated has few
pub few_arms_in_each : (process : Process) → length (arms_of process) ≤ 64
    → All (λ arm. length (arms_in arm) ≤ 64) (arms_of process)
few_arms_in_each process few =
    let inside = arms_in process.body in
    All-cons (HasFew 64) process.body inside (omega (arith, few))
    (more_room (length inside) 64 (omega (arith, few)) inside (few_in process.body))
