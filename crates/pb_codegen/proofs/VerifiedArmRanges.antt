-- The arms of generated code follow one another.
use Rattle.std.proofs.Common.{◌≡◌, inl, ℕ, zero, suc, ◌+◌, ◌-◌, ◌<◌, List, [], ◌∷◌, length, get_or, Some}
use Rattle.std.proofs.Common.{refl, sym, ap, ◌∙◌, arith, length-append}
use Rattle.std.specs.Prelude.{slice_get}
use Rattle.std.proofs.lemmas.Option.{slice_get_within}
use Rattle.pb_names.specs.Program.{Block, Skip, Process, arms_of}
use Rattle.pb_code.specs.Code.{Instr, Join, End}
use Rattle.pb_verifier.specs.Places.{InstrAt, JumpsTo, arm_end, arms, IsInArm}
use Rattle.pb_verifier.specs.Faults.{HasArms}
use Rattle.pb_verifier.proofs.ArmPlaces.{any_default}
use Rattle.pb_generator.specs.Generate.{block_code, arm_code, arms_code, arms_entries, process_code}
use Rattle.pb_codegen.proofs.VerifiedNotes.{In, in_front, in_back, in_all}
use Rattle.pb_codegen.proofs.VerifiedInstructions.{each_instr_at}
use Rattle.pb_codegen.proofs.VerifiedJumps.{JumpsWell, arm_jumps}
use Rattle.pb_codegen.proofs.SimulationPlaces.{length-entries}

abbrev pub block_at : List Block → ℕ → Block
block_at all a = get_or all a Skip

pub in_at : {X : Type 0} (xs : List X) (p : ℕ) (ys : List X) (k : ℕ) (x : X) → In xs p ys → k < length ys
    → slice_get xs (p + k) ≡ Some x → slice_get ys k ≡ Some x
in_at xs p [] k x h u at = elim (let w : ⊥ = omega (arith, u) in w) [ ]
in_at xs p (y ∷ ys) zero x h u at =
    let e : p + 0 ≡ p = omega arith in
    let here : slice_get xs p ≡ Some x = ap (slice_get xs) (sym e) ∙ at in
    sym h.0 ∙ here
in_at xs p (y ∷ ys) (suc k) x h u at =
    let e : p + suc k ≡ p + 1 + k = omega arith in
    in_at xs (p + 1) ys k x h.1 (omega (arith, u)) (ap (slice_get xs) (sym e) ∙ at)

length-arm : (p : ℕ) (arm : Block) → length (arm_code p arm) ≡ length (block_code p arm) + 1
length-arm p arm = let n = length-append (block_code p arm) (End ∷ []) in omega (arith, n)

-- where an arm is in the code
pub record Lies (is : List Instr) (p : ℕ) (arms : List Block) (a : ℕ) : Type 0 where
  pub start : ℕ
  pub entry : get_or (arms_entries p arms) a 0 ≡ start
  pub end : get_or (arms_entries p arms) (a + 1) (p + length (arms_code p arms))
      ≡ start + length (arm_code start (block_at arms a))
  pub code : In is start (arm_code start (block_at arms a))

lies_at : (is : List Instr) (p : ℕ) (arms : List Block) (a : ℕ) → a < length arms → In is p (arms_code p arms)
    → Lies is p arms a
lies_at is p [] a u h = elim (let w : ⊥ = omega (arith, u) in w) [ ]
lies_at is p (arm ∷ arms) zero u h = record {
  start = p;
  entry = refl;
  end = ends arms;
  code = in_front is p (arm_code p arm) (arms_code (p + length (arm_code p arm)) arms) h;
}
  where
    ends : (arms : List Block)
        → get_or (arms_entries p (arm ∷ arms)) 1 (p + length (arms_code p (arm ∷ arms))) ≡ p + length (arm_code p arm)
    ends [] = let n = length-append (arm_code p arm) [] in omega (arith, n)
    ends (b ∷ arms) = refl
lies_at is p (arm ∷ arms) (suc a) u h =
    let next = p + length (arm_code p arm) in
    let rest =
    lies_at is next arms a (omega (arith, u)) (in_back is p (arm_code p arm) (arms_code next arms) h) in
    let one : suc a + 1 ≡ suc (a + 1) = omega arith in
    let len : p + length (arms_code p (arm ∷ arms)) ≡ next + length (arms_code next arms) =
    omega (arith, length-append (arm_code p arm) (arms_code next arms))
    in
    record {
      start = rest.start;
      entry = rest.entry;
      end = ap (λ j. get_or (arms_entries p (arm ∷ arms)) j (p + length (arms_code p (arm ∷ arms)))) one
          ∙ (ap (λ d. get_or (arms_entries p (arm ∷ arms)) (suc (a + 1)) d) len ∙ rest.end);
      code = rest.code;
    }

module _ (process : Process) where
  abbrev all : List Block
  all = arms_of process

  abbrev instrs : List Instr
  instrs = arms_code 0 all

  pub within : (a : ℕ) → a < arms (process_code process) → a < length (arms_of process)
  within a u = let n = length-entries 0 all in omega (arith, n, u)

  -- where each arm of a process is
  pub lies : (a : ℕ) → a < arms (process_code process)
      → Lies (process_code process).instrs 0 (arms_of process) a
  lies a u = lies_at instrs 0 all a (within a u) (in_all [] instrs)

  ends_at : (a : ℕ)
      → arm_end (process_code process) a ≡ get_or (arms_entries 0 all) (a + 1) (0 + length instrs)
  ends_at a =
      let e : length instrs ≡ 0 + length instrs = omega arith in
      ap (λ d. get_or (arms_entries 0 all) (a + 1) d) e

  -- a place of an arm is one of its code
  pub in_code : (a place : ℕ) (here : IsInArm (process_code process) a place)
      → (k : ℕ) × (place ≡ (lies a here.0).start + k)
      × (k < length (arm_code (lies a here.0).start (block_at (arms_of process) a)))
  in_code a place here =
      let w = lies a here.0 in
      let e = w.entry in
      let f = w.end in
      let l = here.1 in
      let u = here.2 in
      let z = ends_at a in
      (place - w.start, omega (arith, e, l), omega (arith, e, f, u, l, z))

  -- an instruction of an arm is one of the code of its block
  pub instr_in_arm : (a place : ℕ) (i : Instr) (here : IsInArm (process_code process) a place)
      → InstrAt (process_code process) place i
      → slice_get (arm_code (lies a here.0).start (block_at (arms_of process) a)) (in_code a place here).0 ≡ Some i
  instr_in_arm a place i here at =
      let w = lies a here.0 in
      let k = in_code a place here in
      in_at instrs w.start (arm_code w.start (block_at all a)) k.0 i w.code k.2 (ap (slice_get instrs) (sym k.1) ∙ at)

  -- where it may jump to
  pub jumps_well : (a place target : ℕ) (i : Instr) → IsInArm (process_code process) a place
      → InstrAt (process_code process) place i → JumpsTo i target
      → IsInArm (process_code process) a target
      × ((first n : ℕ) → InstrAt (process_code process) target (Join first n) → ⊥)
  jumps_well a place target i here at jump =
      let w = lies a here.0 in
      let e = w.entry in
      let f = w.end in
      let z = ends_at a in
      let code = arm_code w.start (block_at all a) in
      let s =
      each_instr_at (JumpsWell instrs w.start (w.start + length code)) code (in_code a place here).0 i
      (arm_jumps instrs w.start (block_at all a) w.code) (instr_in_arm a place i here at) target jump
      in
      let s0 = s.0 in
      let s1 = s.1 in
      ((here.0, omega (arith, e, s0), omega (arith, f, s1, z)), s.2)

  pub has_arms : HasArms (process_code process)
  has_arms = record {
    first = refl;
    rise = λ a u.
        let w = lies a (omega (arith, u)) in
        let e = w.entry in
        let f = w.end in
        let n = length-arm w.start (block_at all a) in
        let d = any_default (arms_entries 0 all) (a + 1) (0 + length instrs) 0 u in
        omega (arith, e, f, n, d);
    inside = λ a u.
        let w = lies a u in
        let e = w.entry in
        let n = length-arm w.start (block_at all a) in
        let v = starts_within w.start (arm_code w.start (block_at all a)) (omega (arith, n)) w.code in
        omega (arith, e, v);
    jumps_stay = λ a place target i here at jump. (jumps_well a place target i here at jump).0;
    closes = λ a place u last.
        let w = lies a u in
        let f = w.end in
        let block = block_code w.start (block_at all a) in
        let n = length-arm w.start (block_at all a) in
        let z = ends_at a in
        let p : w.start + length block ≡ place = omega (arith, f, n, last, z) in
        inl (ap (slice_get instrs) (sym p) ∙ (in_back instrs w.start block (End ∷ []) w.code).0);
  }
    where
      starts_within : (p : ℕ) (ys : List Instr) → 0 < length ys → In instrs p ys → p < length instrs
      starts_within p [] u h = elim (let w : ⊥ = omega (arith, u) in w) [ ]
      starts_within p (y ∷ ys) u h = slice_get_within instrs p y h.0
