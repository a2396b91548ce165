-- Machines that walk along a trace.
use Rattle.std.proofs.Common.{◌≡◌, inl, inr, ℕ, zero, suc, ◌+◌, ◌-◌, ◌*◌, ◌<◌, ◌≤◌, List, [], ◌∷◌, ◌++◌, Option, Some, None}
use Rattle.std.proofs.Common.{take, drop, length, replicate, refl, sym, ap, ◌∙◌, subst, append_assoc, length-append, arith}
use Rattle.std.specs.Prelude.{slice_get}
use Rattle.std.proofs.lemmas.List.{length-map, length-replicate, take-append-le}
use Rattle.std.proofs.lemmas.Option.{slice_get_within}
use Rattle.pb_base.specs.declared.event.Event.{Event}
use Rattle.pb_base.specs.declared.lending.Lending.{Lending}
use Rattle.pb_base.specs.declared.pick.Pick.{Pick}
use Rattle.pb_base.specs.declared.step.Step.{Step}
use Rattle.pb_base.specs.declared.step.Step.TheVariants as answer
use Rattle.pb_base.specs.Steppers.{Move, State, IsGranted}
use Rattle.pb_code.specs.Code.{CodeProcess, code_step}
use Rattle.pb_code.specs.Whole.{Code, bank_by, code_opening}
use Rattle.pb_code.specs.Reached.{CodeMovesBy}
use Rattle.pb_history.specs.Entries.{Entry, picks_of}
use Rattle.pb_history.specs.Leads.{LeadsBy}
use Rattle.pb_history.specs.Positions.{AreEnabledBy, after, state_after, IsAfterBy}
use Rattle.pb_history.specs.Replays.{spread}
use Rattle.pb_history.specs.declared.counted.CountedPick.{CountedPick}
use Rattle.pb_history.proofs.SpanEvents.{replicate_append}
use Rattle.pb_history.proofs.CountedPicks.{spread_take, spread_whole}
use Rattle.pb_history.proofs.Positions.{enabled_at, leads_to, moved_more, not_refused, stands_next}
use Rattle.pb_machine.proofs.BuiltLists.{at_push}
use Rattle.pb_machine.specs.Steps.{IsStepBy, MovesSilentlyBy}
use Rattle.pb_machine.specs.Views.{machine_view, IsMachineBy}
use Rattle.pb_machine.specs.declared.machine.Machine.{Machine}
use Rattle.pb_verifier.specs.Verified.{VerifiedCode}
use Rattle.pb_debug_positions.specs.Intervals.{IsInterval}
use Rattle.pb_debug_positions.specs.Searches.{LeadsOn, StepsAt}
use Rattle.pb_debug_positions.specs.Walks.{AreCheckpoints, IsCheckpoint, Repeat, ReplaysBy}
use Rattle.pb_debug_positions.specs.declared.checkpoints.Replaying.{Replaying}

-- silent picks lead from one position to another
silent_from : (lending : Lending) (code : Code) (picks : List Pick) (i : ℕ) (pick : Pick) (most made : ℕ) (s t : State CodeProcess)
    → Repeat picks i pick most → made ≤ most → s ≡ state_after code picks i → MovesSilentlyBy lending code pick made s t
    → t ≡ state_after code picks (i + made)
silent_from lending code picks i pick most zero s t same le at h =
    h ∙ (at ∙ ap (state_after code picks) (let e : i ≡ i + 0 = omega arith in e))
silent_from lending code picks i pick most (suc made) s t same le at h =
    let mid = silent_from lending code picks i pick most made s h.0 same (omega (arith, le)) at h.1 in
    let moves = subst (λ (x : State CodeProcess). CodeMovesBy lending code x pick None t) mid h.2 in
    moved_more code picks lending (i + made) pick None t (same made (omega (arith, le))) moves
    ∙ ap (state_after code picks) (let e : i + made + 1 ≡ i + suc made = omega arith in e)

module _ {lending : Lending} (v : VerifiedCode) (picks : List Pick) (i : ℕ) (pick : Pick) (most : ℕ)
    (same : Repeat picks i pick most) where
  pub stands_silent : (made : ℕ) (m m' : Machine) → made ≤ most → IsAfterBy lending v picks i m
      → MovesSilentlyBy lending v.code pick made (machine_view m) (machine_view m') → IsMachineBy lending v m' → IsAfterBy lending v picks (i + made) m'
  stands_silent made m m' le at h of = record {
    machine = of;
    state = silent_from lending v.code picks i pick most made (machine_view m) (machine_view m') same le at.state h;
  }

  -- and one more of them, which is enabled
  pub stands_one : (made : ℕ) (m m' : Machine) (result : Step) → AreEnabledBy lending v.code picks → made < most → IsAfterBy lending v picks (i + made) m
      → IsStepBy lending v.code (machine_view m) pick result (machine_view m') → IsMachineBy lending v m' → IsAfterBy lending v picks (i + (made + 1)) m'
  stands_one made m m' result all lt at h of =
      let next = stands_next v picks (i + made) pick m m' result all (same made lt) at h of in
      record {
        machine = of;
        state = next.state ∙ ap (state_after v.code picks) (let e : i + made + 1 ≡ i + (made + 1) = omega arith in e);
      }

-- ---- what the picks show

module _ {lending : Lending} (v : VerifiedCode) (picks : List Pick) (i : ℕ) where
  -- a pick that was made leads to the next position
  leads_on : (pick : Pick) (shown : Option Event) (m m' : Machine) → slice_get picks i ≡ Some pick → IsAfterBy lending v picks i m
      → machine_view m' ≡ state_after v.code picks (i + 1) → CodeMovesBy lending v.code (machine_view m) pick shown (machine_view m')
      → LeadsOn v.code picks i shown
  leads_on pick shown m m' there at next h =
      let moved = subst (λ (s : State CodeProcess). CodeMovesBy lending v.code s pick shown (state_after v.code picks (i + 1))) at.state
      (subst (λ (s : State CodeProcess). CodeMovesBy lending v.code (machine_view m) pick shown s) next h) in
      record {
        pick = pick;
        there = there;
        effect = moved.0;
        steps = moved.1;
        shows = moved.3;
      }

  -- so what it came to is that of the position
  pub steps_at : (pick : Pick) (result : Step) (m m' : Machine) → AreEnabledBy lending v.code picks → slice_get picks i ≡ Some pick
      → IsAfterBy lending v picks i m → machine_view m' ≡ state_after v.code picks (i + 1)
      → IsStepBy lending v.code (machine_view m) pick result (machine_view m') → StepsAt v.code picks i result
  steps_at pick answer.Silent m m' all there at next h = leads_on pick None m m' there at next h
  steps_at pick (answer.Did event) m m' all there at next h = leads_on pick (Some event) m m' there at next h
  steps_at pick answer.NotEnabled m m' all there at next h =
      not_refused v.code picks all i pick answer.NotEnabled (machine_view m') there
      (subst (λ (s : State CodeProcess). IsStepBy lending v.code s pick answer.NotEnabled (machine_view m')) at.state h) refl

-- a pick of an enabled list is enabled where it leads on
pub moves_at : {lending : Lending} (code : Code) (picks : List Pick) (i : ℕ) (shown : Option Event) → AreEnabledBy lending code picks
    → (on : LeadsOn code picks i shown) → CodeMovesBy lending code (state_after code picks i) on.pick shown (state_after code picks (i + 1))
moves_at {lending = lending} code picks i shown all on =
    let bank = bank_by lending code in
    let s = state_after code picks i in
    let e = enabled_at bank (code_step code.processes) (code_opening code) all.end picks all.events i on.pick all.makes on.there in
    let both : Some e.move ≡ Some (record { next = state_after code picks (i + 1); effect = on.effect }) = sym e.moves ∙ on.steps in
    let same : e.move ≡ record { next = state_after code picks (i + 1); effect = on.effect } = cc in (
      on.effect,
      on.steps,
      subst (λ (m : Move CodeProcess). IsGranted bank s.loans on.pick.process m.effect) same e.granted,
      on.shows,
    )

-- ---- checkpoints

-- a checkpoint is one whatever picks follow
checkpoint_before : {lending : Lending} (v : VerifiedCode) (xs ys : List Pick) (i : ℕ) (m : Machine) → IsCheckpoint lending v xs i m → IsCheckpoint lending v (xs ++ ys) i m
checkpoint_before {lending = lending} v xs ys i m h =
    let same : take i (xs ++ ys) ≡ take i xs = take-append-le i xs ys h.within in
    let more = length-append xs ys in
    let within = h.within in
    record {
      stands = record {
        machine = h.stands.machine;
        state = h.stands.state ∙ ap (after (code_step v.code.processes) (code_opening v.code)) (sym same);
      };
      within = omega (arith, within, more);
    }

pub checkpoints_before : {lending : Lending} (v : VerifiedCode) (xs ys zs : List Pick) (interval : ℕ) (ms : List Machine) → zs ≡ xs ++ ys
    → AreCheckpoints lending v xs interval ms → AreCheckpoints lending v zs interval ms
checkpoints_before {lending = lending} v xs ys zs interval ms same h =
    subst (λ (ps : List Pick). AreCheckpoints lending v ps interval ms) (sym same) (λ k m there. checkpoint_before v xs ys (k * interval) m (h k m there))

-- a machine to which entries led is a checkpoint after them
pub checkpoint_here : {lending : Lending} (v : VerifiedCode) (entries : List Entry) (i : ℕ) (m : Machine) → IsMachineBy lending v m
    → LeadsBy lending v.code (code_opening v.code) entries (machine_view m) → i ≡ length entries → IsCheckpoint lending v (picks_of entries) i m
checkpoint_here {lending = lending} v entries i m of leads at =
    let many : length (picks_of entries) ≡ length entries = length-map entries (λ (e : Entry). e.pick) in
    let here : length (picks_of entries) ≡ i = many ∙ sym at in
    record {
      stands = record {
        machine = of;
        state = leads_to lending v.code entries (machine_view m) leads ∙ ap (state_after v.code (picks_of entries)) here;
      };
      within = omega (arith, here);
    }

pub one_checkpoint_more : {lending : Lending} (v : VerifiedCode) (picks : List Pick) (interval n : ℕ) (ms : List Machine) (m : Machine) → AreCheckpoints lending v picks interval ms
    → length ms ≡ n → IsCheckpoint lending v picks (n * interval) m → AreCheckpoints lending v picks interval (ms ++ m ∷ [])
one_checkpoint_more {lending = lending} v picks interval n ms m before many at k m' there =
    elim (at_push ms m m' k there) [
      | inl earlier ↦ before k m' earlier
      | inr last ↦
          let here : n * interval ≡ k * interval = ap (λ j. j * interval) (sym many ∙ sym last.0) in
          subst (λ (x : Machine). IsCheckpoint lending v picks (k * interval) x) last.1
          (subst (λ (j : ℕ). IsCheckpoint lending v picks j m) here at)
    ]

-- ---- counted picks that are made in parts

-- what was made, some more of it, and the rest are all of it
pub all_made : (old here : List Entry) (pick : Pick) (count left n : ℕ) → picks_of here ≡ picks_of old ++ replicate (count - left) pick
    → n ≤ left → left ≤ count
    → (picks_of here ++ replicate n pick) ++ replicate (left - n) pick ≡ picks_of old ++ replicate count pick
all_made old here pick count left n picks le fewer =
    append_assoc (picks_of here) (replicate n pick) (replicate (left - n) pick)
    ∙ (ap (λ (ps : List Pick). picks_of here ++ ps) (replicate_append n (left - n) pick)
    ∙ (ap (λ (k : ℕ). picks_of here ++ replicate k pick) (let e : n + (left - n) ≡ left = omega (arith, le) in e)
    ∙ (ap (λ (ps : List Pick). ps ++ replicate left pick) picks
    ∙ (append_assoc (picks_of old) (replicate (count - left) pick) (replicate left pick)
    ∙ (ap (λ (ps : List Pick). picks_of old ++ ps) (replicate_append (count - left) left pick)
    ∙ ap (λ (k : ℕ). picks_of old ++ replicate k pick) (let e : count - left + left ≡ count = omega (arith, fewer) in e))))))

pub more_made : (old here : List Entry) (pick : Pick) (count left n : ℕ) → picks_of here ≡ picks_of old ++ replicate (count - left) pick
    → n ≤ left → left ≤ count → picks_of here ++ replicate n pick ≡ picks_of old ++ replicate (count - (left - n)) pick
more_made old here pick count left n picks le fewer =
    ap (λ (ps : List Pick). ps ++ replicate n pick) picks
    ∙ (append_assoc (picks_of old) (replicate (count - left) pick) (replicate n pick)
    ∙ (ap (λ (ps : List Pick). picks_of old ++ ps) (replicate_append (count - left) n pick)
    ∙ ap (λ (k : ℕ). picks_of old ++ replicate k pick) (let e : count - left + n ≡ count - (left - n) = omega (arith, le, fewer) in e)))

-- how many counted picks are, with one more of them
pub count_more : (picks : List CountedPick) (i : ℕ) (x : CountedPick) → slice_get picks i ≡ Some x
    → length (spread (take (i + 1) picks)) ≡ length (spread (take i picks)) + x.count
count_more picks i x there =
    let a = ap (λ (ps : List Pick). length ps) (spread_take picks i x there) in
    let b = length-append (spread (take i picks)) (replicate x.count x.pick) in
    let c : length (replicate x.count x.pick) ≡ x.count = length-replicate x.count x.pick in
    omega (arith, a, b, c)

pub count_within : (picks : List CountedPick) (i : ℕ) → length (spread (take i picks)) ≤ length (spread picks)
count_within picks i =
    let a = ap (λ (ps : List Pick). length ps) (spread_whole picks i) in
    let b = length-append (spread (take i picks)) (spread (drop i picks)) in
    omega (arith, a, b)

-- checkpoints are some way apart
pub interval_some : (n interval : ℕ) → IsInterval n interval → 0 < interval
interval_some n interval h = let e = h.2 in omega (arith, e)

pub interval_small : (n interval : ℕ) → n ≤ 10000000 → IsInterval n interval → interval ≤ 10000000
interval_small n interval few h = let le = h.1 in let e = h.2 in omega (arith, few, le, e)

-- a replay of no picks, with a checkpoint before the first
pub replays_none : {lending : Lending} (v : VerifiedCode) (r : Replaying) → r.trace.entries ≡ [] → IsMachineBy lending v r.machine
    → machine_view r.machine ≡ code_opening v.code → AreCheckpoints lending v [] r.interval r.checkpoints.items
    → 0 < length r.checkpoints.items * r.interval → length r.checkpoints.items * r.interval ≤ 0 + r.interval → ReplaysBy lending v r
replays_none {lending = lending} v r none machine opening checkpoints some least =
    let n = ap (λ (es : List Entry). length es) none in
    record {
      machine = machine;
      leads = subst (λ (es : List Entry). LeadsBy lending v.code (code_opening v.code) es (machine_view r.machine)) (sym none) opening;
      checkpoints = subst (λ (es : List Entry). AreCheckpoints lending v (picks_of es) r.interval r.checkpoints.items) (sym none) checkpoints;
      before = omega (arith, n, some);
      after = omega (arith, n, least);
    }

pub no_checkpoints : {lending : Lending} (v : VerifiedCode) (interval : ℕ) → AreCheckpoints lending v [] interval []
no_checkpoints {lending = lending} v interval k m there = let lt = slice_get_within [] k m there in absurd (omega (arith, lt))
