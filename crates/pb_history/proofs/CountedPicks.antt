-- Counted picks, and picks that stop.
use Rattle.std.proofs.Common.{◌≡◌, ℕ, zero, suc, ◌+◌, ◌<◌, ◌≤◌, List, [], ◌∷◌, ◌++◌, length, map, take, drop}
use Rattle.std.proofs.Common.{replicate, Some, refl, sym, ap, ◌∙◌, subst, append_assoc, append-nil, length-append}
use Rattle.std.proofs.Common.{arith}
use Rattle.std.specs.Prelude.{Option, None, slice_get, option_to_list}
use Rattle.std.proofs.lemmas.List.{length-map, length-replicate, map-append, take-append-le}
use Rattle.std.proofs.lemmas.Option.{slice_get_within}
use Rattle.pb_base.specs.declared.event.Event.{Event}
use Rattle.pb_base.specs.declared.lending.Lending.{Lending}
use Rattle.pb_base.specs.declared.pick.Pick.{Pick}
use Rattle.pb_base.specs.declared.step.Step.{Step}
use Rattle.pb_base.specs.declared.step.Step.TheVariants as answer
use Rattle.pb_base.specs.Steppers.{State}
use Rattle.pb_base.proofs.Lists.{take_next}
use Rattle.pb_code.specs.Code.{CodeProcess}
use Rattle.pb_code.specs.Reached.{CodeMovesBy, CodeStaysBy}
use Rattle.pb_code.specs.Whole.{Code, code_opening}
use Rattle.pb_machine.specs.Steps.{IsStepBy}
use Rattle.pb_history.specs.Entries.{Entry, picks_of, run_of, shown, silent_picks}
use Rattle.pb_history.specs.Leads.{LeadsBy}
use Rattle.pb_history.specs.Replays.{EndsRun, IsReplayBy, IsRun, IsStoppedBy, StopsAt, spread}
use Rattle.pb_history.specs.declared.counted.CountedPick.{CountedPick}
use Rattle.pb_history.specs.declared.fault.ReplayFault.{ReplayFault}
use Rattle.pb_history.specs.declared.fault.ReplayFault.TheVariants.{NotEnabled, NoMemory}
use Rattle.pb_history.proofs.SpanEvents.{picks_shown, picks_silent, replicate_append, take_drop}
use Rattle.pb_history.proofs.TraceSteps.{leads_append, leads_more, replicate_more}

-- ---- picks that stop

-- picks that stop do so whatever follows
stops_more : {lending : Lending} (code : Code) (xs ys : List Pick) (i : ℕ) → StopsAt lending code xs i → StopsAt lending code (xs ++ ys) i
stops_more {lending = lending} code xs ys i h =
    let within : i < length xs = slice_get_within xs i h.pick h.there in
    record {
      entries = h.entries;
      end = h.end;
      pick = h.pick;
      replay = subst (λ (ps : List Pick). IsReplayBy lending code ps h.entries h.end) (sym (take-append-le i xs ys (omega (arith, within)))) h.replay;
      there = early xs ys i within ∙ h.there;
      stays = h.stays;
    }
  where
    early : {X : Type 0} (xs ys : List X) (i : ℕ) → i < length xs → slice_get (xs ++ ys) i ≡ slice_get xs i
    early [] ys i lt = absurd (omega arith)
    early (x ∷ xs) ys zero lt = refl
    early (x ∷ xs) ys (suc i) lt = early xs ys i (omega arith)

pub stopped_more : (lending : Lending) (code : Code) (xs ys : List Pick) (fault : ReplayFault) → IsStoppedBy lending code xs fault → IsStoppedBy lending code (xs ++ ys) fault
stopped_more lending code xs ys (NotEnabled i) h = stops_more code xs ys i h
stopped_more lending code xs ys NoMemory h = h

-- ---- picks of one arm

take_replicate : (k n : ℕ) (x : Pick) → k ≤ n → take k (replicate n x) ≡ replicate k x
take_replicate zero n x le = refl
take_replicate (suc k) zero x le = absurd (omega arith)
take_replicate (suc k) (suc n) x le = ap (λ xs. x ∷ xs) (take_replicate k n x (omega arith))

take_past : (xs ys : List Pick) (k : ℕ) → take (length xs + k) (xs ++ ys) ≡ xs ++ take k ys
take_past [] ys k = ap (λ (n : ℕ). take n ys) (let e : 0 + k ≡ k = omega arith in e)
take_past (x ∷ xs) ys k =
    ap (λ (n : ℕ). take n (x ∷ (xs ++ ys))) (let e : suc (length xs) + k ≡ suc (length xs + k) = omega arith in e)
    ∙ ap (λ zs. x ∷ zs) (take_past xs ys k)

get_past : (xs : List Pick) (n k : ℕ) (x : Pick) → k < n → slice_get (xs ++ replicate n x) (length xs + k) ≡ Some x
get_past [] zero k x lt = absurd (omega arith)
get_past [] (suc n) zero x lt = refl
get_past [] (suc n) (suc k) x lt =
    ap (slice_get (replicate (suc n) x)) (let e : 0 + suc k ≡ suc (0 + k) = omega arith in e) ∙ get_past [] n k x (omega arith)
get_past (y ∷ xs) n k x lt =
    ap (slice_get (y ∷ (xs ++ replicate n x))) (let e : suc (length xs) + k ≡ suc (length xs + k) = omega arith in e)
    ∙ get_past xs n k x lt

-- the picks of a run
pub picks_run : (pick : Pick) (n : ℕ) (event : Option Event) → picks_of (run_of pick n event) ≡ replicate (n + length (option_to_list event)) pick
picks_run pick n event =
    map-append (λ (e : Entry). e.pick) (silent_picks pick n) _
    ∙ (ap (λ (ps : List Pick). ps ++ picks_of (map (shown pick) (option_to_list event))) (picks_silent pick n)
    ∙ (ap (λ (ps : List Pick). replicate n pick ++ ps) (picks_shown pick (option_to_list event))
    ∙ replicate_append n (length (option_to_list event)) pick))

-- some of the picks of one arm were made before, and `n` more now, the last of which may show an event
pub picks_on : (before entries : List Entry) (pick : Pick) (done n : ℕ) (event : Option Event) → picks_of entries ≡ picks_of before ++ replicate done pick
    → picks_of (entries ++ run_of pick n event) ≡ picks_of before ++ replicate (done + (n + length (option_to_list event))) pick
picks_on before entries pick done n event h =
    let m = n + length (option_to_list event) in
    map-append (λ (e : Entry). e.pick) entries (run_of pick n event)
    ∙ (ap (λ (ps : List Pick). ps ++ picks_of (run_of pick n event)) h
    ∙ (ap (λ (ps : List Pick). picks_of before ++ replicate done pick ++ ps) (picks_run pick n event)
    ∙ (append_assoc (picks_of before) (replicate done pick) (replicate m pick)
    ∙ ap (λ (ps : List Pick). picks_of before ++ ps) (replicate_append done m pick))))

pub length_on : (before entries : List Entry) (pick : Pick) (done : ℕ) → picks_of entries ≡ picks_of before ++ replicate done pick
    → length entries ≡ length before + done
length_on before entries pick done picks =
    let a = length-map entries (λ (e : Entry). e.pick) in
    let b = ap (λ (ps : List Pick). length ps) picks in
    let c = length-append (picks_of before) (replicate done pick) in
    let d : length (replicate done pick) ≡ done = length-replicate done pick in
    let e = length-map before (λ (e : Entry). e.pick) in
    omega (arith, a, b, c, d, e)

pub length_run : (entries : List Entry) (pick : Pick) (n : ℕ) → length (entries ++ run_of pick n None) ≡ length entries + n
length_run entries pick n =
    let a = length-append entries (run_of pick n None) in
    let b : length (silent_picks pick n ++ []) ≡ length (silent_picks pick n) = ap (λ (es : List Entry). length es) (append-nil (silent_picks pick n)) in
    let c : length (silent_picks pick n) ≡ n = length-replicate n (record { pick = pick; event = None }) in
    omega (arith, a, b, c)

-- the pick after those made and `n` silent ones is not enabled
pub stops_here : {lending : Lending} (code : Code) (before entries : List Entry) (pick : Pick) (count done n : ℕ) (here end : State CodeProcess)
    → picks_of entries ≡ picks_of before ++ replicate done pick → LeadsBy lending code (code_opening code) entries here → LeadsBy lending code here (silent_picks pick n) end
    → done + n < count → CodeStaysBy lending code end pick
    → StopsAt lending code (picks_of before ++ replicate count pick) (length entries + n)
stops_here {lending = lending} code before entries pick count done n here end picks to_here on lt stays =
    let all = entries ++ silent_picks pick n in
    let len = length_on before entries pick done picks in
    let same = length-map before (λ (e : Entry). e.pick) in
    let place : length (picks_of before) + (done + n) ≡ length entries + n = omega (arith, len, same) in
    let made : picks_of all ≡ picks_of before ++ replicate (done + n) pick =
    map-append (λ (e : Entry). e.pick) entries (silent_picks pick n)
    ∙ (ap (λ (ps : List Pick). ps ++ picks_of (silent_picks pick n)) picks
    ∙ (ap (λ (ps : List Pick). picks_of before ++ replicate done pick ++ ps) (picks_silent pick n)
    ∙ (append_assoc (picks_of before) (replicate done pick) (replicate n pick)
    ∙ ap (λ (ps : List Pick). picks_of before ++ ps) (replicate_append done n pick)))) in
    let taken : take (length entries + n) (picks_of before ++ replicate count pick) ≡ picks_of before ++ replicate (done + n) pick =
    ap (λ (k : ℕ). take k (picks_of before ++ replicate count pick)) (sym place)
    ∙ (take_past (picks_of before) (replicate count pick) (done + n)
    ∙ ap (λ (ps : List Pick). picks_of before ++ ps) (take_replicate (done + n) count pick (omega (arith, lt)))) in
    record {
      entries = all;
      end = end;
      pick = pick;
      replay = record { made = made ∙ sym taken; leads = leads_append lending code (code_opening code) here end entries (silent_picks pick n) to_here on };
      there = ap (slice_get (picks_of before ++ replicate count pick)) (sym place) ∙ get_past (picks_of before) count (done + n) pick lt;
      stays = stays;
    }

-- ---- one silent pick more, and what ends a run

pub silent_more : (lending : Lending) (code : Code) (a b c : State CodeProcess) (pick : Pick) (n : ℕ) → LeadsBy lending code a (silent_picks pick n) b → CodeMovesBy lending code b pick None c
    → LeadsBy lending code a (silent_picks pick (n + 1)) c
silent_more lending code a b c pick n h m =
    subst (λ (es : List Entry). LeadsBy lending code a es c) (sym (more n)) (leads_more lending code a b c (silent_picks pick n) pick None h m)
  where
    more : (k : ℕ) → silent_picks pick (k + 1) ≡ silent_picks pick k ++ record { pick = pick; event = None } ∷ []
    more k = ap (silent_picks pick) (let e : k + 1 ≡ suc k = omega arith in e) ∙ replicate_more k (record { pick = pick; event = None })

pub ends_run : (lending : Lending) (code : Code) (between after : State CodeProcess) (pick : Pick) (max made : ℕ) (step : Step) → (step ≡ answer.Silent → ⊥) → made < max
    → IsStepBy lending code between pick step after → EndsRun lending code between pick max made step after
ends_run lending code between after pick max made answer.Silent other lt h = absurd (other refl)
ends_run lending code between after pick max made (answer.Did event) other lt h = (lt, h)
ends_run lending code between after pick max made answer.NotEnabled other lt h = (lt, h.0, h.1)

-- what leads on after a run of silent picks
module _ {lending : Lending} (code : Code) (here after : State CodeProcess) (entries : List Entry) (pick : Pick) (max made : ℕ) (step : Step)
    (to_here : LeadsBy lending code (code_opening code) entries here) (run : IsRun lending code here pick max made step after) where
  pub silent_run : step ≡ answer.Silent → LeadsBy lending code (code_opening code) (entries ++ run_of pick made None) after × (made ≡ max)
  silent_run is =
      let ends : EndsRun lending code run.between pick max made answer.Silent after =
      subst (λ (x : Step). EndsRun lending code run.between pick max made x after) is run.ends in
      let on : LeadsBy lending code here (silent_picks pick made ++ []) run.between =
      subst (λ (es : List Entry). LeadsBy lending code here es run.between) (sym (append-nil (silent_picks pick made))) run.leads in (
        leads_append lending code (code_opening code) here after entries (run_of pick made None) to_here
            (subst (LeadsBy lending code here (run_of pick made None)) (sym ends.1) on),
        ends.0,
      )

  pub shown_run : (event : Event) → step ≡ answer.Did event → LeadsBy lending code (code_opening code) (entries ++ run_of pick made (Some event)) after × (made < max)
  shown_run event is =
      let ends : EndsRun lending code run.between pick max made (answer.Did event) after =
      subst (λ (x : Step). EndsRun lending code run.between pick max made x after) is run.ends in (
        leads_append lending code (code_opening code) here after entries (run_of pick made (Some event)) to_here
            (leads_more lending code here run.between after (silent_picks pick made) pick (Some event) run.leads ends.1),
        ends.0,
      )

  pub stopped_run : step ≡ answer.NotEnabled → (made < max) × CodeStaysBy lending code run.between pick × (after ≡ run.between)
  stopped_run is = subst (λ (x : Step). EndsRun lending code run.between pick max made x after) is run.ends

  -- the silent picks lead to a state at which the next one is not enabled
  pub halted_run : step ≡ answer.NotEnabled → LeadsBy lending code (code_opening code) (entries ++ run_of pick made None) after
  halted_run is =
      let on : LeadsBy lending code here (silent_picks pick made ++ []) run.between =
      subst (λ (es : List Entry). LeadsBy lending code here es run.between) (sym (append-nil (silent_picks pick made))) run.leads in
      leads_append lending code (code_opening code) here after entries (run_of pick made None) to_here
      (subst (LeadsBy lending code here (run_of pick made None)) (sym (stopped_run is).2) on)

-- ---- counted picks

pub spread_append : (xs ys : List CountedPick) → spread (xs ++ ys) ≡ spread xs ++ spread ys
spread_append [] ys = refl
spread_append (c ∷ xs) ys =
    ap (λ (ps : List Pick). replicate c.count c.pick ++ ps) (spread_append xs ys)
    ∙ sym (append_assoc (replicate c.count c.pick) (spread xs) (spread ys))

-- one counted pick more
pub spread_take : (xs : List CountedPick) (i : ℕ) (c : CountedPick) → slice_get xs i ≡ Some c
    → spread (take (i + 1) xs) ≡ spread (take i xs) ++ replicate c.count c.pick
spread_take xs i c h =
    ap spread (take_next xs i c h)
    ∙ (spread_append (take i xs) (c ∷ []) ∙ ap (λ (ps : List Pick). spread (take i xs) ++ ps) (append-nil (replicate c.count c.pick)))

-- and those after it
pub spread_whole : (xs : List CountedPick) (i : ℕ) → spread xs ≡ spread (take i xs) ++ spread (drop i xs)
spread_whole xs i = ap spread (sym (take_drop i xs)) ∙ spread_append (take i xs) (drop i xs)
