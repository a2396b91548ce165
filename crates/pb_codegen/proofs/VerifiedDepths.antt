-- Generated code has depths, holdings, clear ends and peaks.
use Rattle.std.proofs.Common.{◌≡◌, ℕ, zero, suc, ◌+◌, ◌<◌, ◌≤◌, List, [], ◌∷◌, ◌++◌, length, get_or, Some}
use Rattle.std.proofs.Common.{sym, ap, ◌∙◌, subst, arith, length-append}
use Rattle.std.specs.Prelude.{slice_get}
use Rattle.pb_base.specs.Steppers.{Bundle}
use Rattle.pb_names.specs.Program.{Block, Process, arms_of, IsWellNumbered}
use Rattle.pb_names.specs.Claims.{peak}
use Rattle.pb_code.specs.Code.{Instr, End, ProcessCode}
use Rattle.pb_verifier.specs.Places.{InstrAt, IsInArm}
use Rattle.pb_verifier.specs.Faults.{AreDepths, AreHoldings, EndsClear, PeakFits, TurnsHoldings, in_holdings}
use Rattle.pb_verifier.proofs.UniqueFacts.{one_holdings, spread_once}
use Rattle.pb_generator.specs.Generate.{block_code, arm_code, arms_entries, process_code}
use Rattle.pb_codegen.proofs.VerifiedNotes.{shape, block_shapes, arms_shapes, length-block_shapes, In, in_front}
use Rattle.pb_codegen.proofs.VerifiedNotes.{in_back, in_all, process_notes, notes_fit}
use Rattle.pb_codegen.proofs.VerifiedBounds.{Under, each_at, arm_each}
use Rattle.pb_codegen.proofs.VerifiedFacts.{noted, depths, holdings, clear, held, held_here, depth}
use Rattle.pb_codegen.proofs.VerifiedForks.{arm_with}
use Rattle.pb_codegen.proofs.VerifiedHeights.{height}
use Rattle.pb_codegen.proofs.VerifiedNotedCode.{Shape, Leads}
use Rattle.pb_codegen.proofs.VerifiedArmRanges.{block_at, within, in_at, lies, in_code, instr_in_arm}
use Rattle.pb_codegen.proofs.VerifiedPeaks.{most, all_known, known_at}

abbrev arm_shapes : Block → List Shape
arm_shapes arm = block_shapes [] arm ++ (shape 0 [] ∷ [])

length-arm_shapes : (p : ℕ) (arm : Block) → length (arm_shapes arm) ≡ length (arm_code p arm)
length-arm_shapes p arm =
    let a = length-block_shapes p [] arm in
    omega (arith, a, length-append (block_shapes [] arm) (shape 0 [] ∷ []), length-append (block_code p arm) (End ∷ []))

-- the shapes of an arm are where its code does
shapes_lie : (shapes : List Shape) (p : ℕ) (arms : List Block) (a : ℕ) → a < length arms
    → In shapes p (arms_shapes arms) → In shapes (get_or (arms_entries p arms) a 0) (arm_shapes (block_at arms a))
shapes_lie shapes p [] a u h = absurd (omega (arith, u))
shapes_lie shapes p (arm ∷ arms) zero u h = in_front shapes p (arm_shapes arm) (arms_shapes arms) h
shapes_lie shapes p (arm ∷ arms) (suc a) u h =
    let next : p + length (arm_shapes arm) ≡ p + length (arm_code p arm) =
    ap (λ n. p + n) (length-arm_shapes p arm) in
    shapes_lie shapes (p + length (arm_code p arm)) arms a (omega (arith, u))
    (subst (λ k. In shapes k (arms_shapes arms)) next (in_back shapes p (arm_shapes arm) (arms_shapes arms) h))

module _ (process : Process) (numbered : IsWellNumbered process) (low : height process.body ≤ 255) where
  abbrev all : List Block
  all = arms_of process

  abbrev code : ProcessCode
  code = process_code process

  -- what an arm holds and needs at a place is within its peak
  under_at : (r a place : ℕ) (i : Instr) (d : ℕ) (hs : List Bundle) → IsInArm code a place
      → InstrAt code place i
      → Leads (process_notes process) place d hs → Under r (most r all) (most r all a) i (shape d hs)
  under_at r a place i d hs here at leads =
      let shapes = arms_shapes all in
      let w = lies process a here.0 in
      let k = in_code process a place here in
      let arm = block_at all a in
      let n = length-arm_shapes w.start arm in
      let inside = k.2 in
      let there : In shapes w.start (arm_shapes arm) =
      subst (λ p. In shapes p (arm_shapes arm)) w.entry
      (shapes_lie shapes 0 all a (within process a here.0) (in_all [] shapes))
      in
      let x_at : slice_get (arm_shapes arm) k.0 ≡ Some (shape d hs) =
      in_at shapes w.start (arm_shapes arm) k.0 (shape d hs) there (omega (arith, n, inside))
      (ap (slice_get shapes) (sym k.1) ∙ leads)
      in
      let known = known_at r all all a (within process a here.0) (all_known r process.body numbered low) in
      each_at (Under r (most r all) (most r all a)) (arm_code w.start arm) (arm_shapes arm) k.0 i (shape d hs)
      (arm_each r (most r all) (most r all a) w.start arm known.1 (omega arith) known.0)
      (instr_in_arm process a place i here at) x_at

  shallow : (place d : ℕ) (hs : List Bundle) → Leads (process_notes process) place d hs
      → (d ≤ 256) × (length hs ≤ 256)
  shallow place d hs leads =
      let f = (notes_fit process).flows place d hs leads in
      let w = arm_with process numbered place f.0 f.1 in
      let b = under_at 0 w.0 place f.0 d hs w.1 f.1 leads in
      (b.0, b.1)

  pub has_depths : (depth : ℕ → ℕ) × AreDepths (process_code process) depth
  has_depths = (
    depth code (process_notes process) (notes_fit process) shallow,
    depths code (process_notes process) (notes_fit process) shallow,
  )

  pub has_holdings : (held : ℕ → List Bundle) × AreHoldings (process_code process) held
  has_holdings = (
    held code (process_notes process) (notes_fit process) shallow,
    holdings code (process_notes process) (notes_fit process) shallow,
  )

  pub ends_clear : EndsClear (process_code process)
  ends_clear = clear code (process_notes process) (notes_fit process) shallow

  pub peak_fits : (r claim : ℕ) → peak r process.body ≤ claim → PeakFits (process_code process) r claim
  peak_fits r claim fits held' holdings' =
      let notes = process_notes process in
      let fit = notes_fit process in (
        most r all,
        λ a place i here reached at.
            let w = noted code notes fit shallow place reached in
            let same : held' place ≡ w.1 =
            spread_once code TurnsHoldings [] held' (held code notes fit shallow) one_holdings holdings'
            (holdings code notes fit shallow) place reached ∙ held_here code notes fit shallow place w.0 w.1 w.2
            in
            let b = (under_at r a place i w.0 w.1 here at w.2).2 in
            let e = ap (in_holdings r) same in
            omega (arith, b, e),
        fits,
      )
