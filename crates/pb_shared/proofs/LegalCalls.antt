-- What each call of a book does keeps it legal.
use Rattle.std.proofs.Common.{◌≡◌, ◌≢◌, ⊎_elim, ℕ, zero, suc, ◌+◌, ◌-◌, ◌<◌, ◌≤◌, ◌*◌, Bool, true, false, cond, List}
use Rattle.std.proofs.Common.{[], ◌∷◌, ◌++◌, length, map, replicate, set, Option, Some, None, refl, sym, ap, ◌∙◌}
use Rattle.std.proofs.Common.{subst, slice_get, slice_set, slice_index_or, length-set, length-append, arith}
use Rattle.std.specs.Prelude.{All}
use Rattle.std.specs.List.{sum_by}
use Rattle.std.proofs.lemmas.Bool.{cases_eq}
use Rattle.std.proofs.lemmas.List.{get_or-set_other, length-map, length-replicate}
use Rattle.std.proofs.lemmas.List.Sums.{sum_by-set}
use Rattle.std.proofs.lemmas.Option.{slice_get_within, get_or_from_slice_get}
use Rattle.pb_banker.specs.Lenders.{lender_state}
use Rattle.pb_base.specs.declared.lending.Lending.TheVariants.{ByBanker}
use Rattle.pb_base.specs.declared.event.Event.{Event}
use Rattle.pb_base.specs.declared.pick.Pick.{Pick}
use Rattle.pb_base.specs.Steppers.{State, Move, IsFinished}
use Rattle.pb_code.specs.Code.{CodeProcess, code_over, code_process}
use Rattle.pb_code.specs.Reached.{CodeReaches, CodeMoves}
use Rattle.pb_code.specs.Whole.{Code, code_opening}
use Rattle.pb_machine.specs.Steps.{ComesSilently, ComesFrom, MovesSilently, with_process}
use Rattle.pb_machine.specs.Views.{proc_view, rooms_of, machine_view, row, HaveRoom, IsMachineOf}
use Rattle.pb_machine.specs.declared.machine.Machine.{Machine}
use Rattle.pb_machine.specs.declared.process.Proc.{Proc}
use Rattle.pb_machine.proofs.NeverStuck.{goes_on}
use Rattle.pb_machine.proofs.OneMorePick.{reaches_on}
use Rattle.pb_machine.proofs.SilentRuns.{makes_comes}
use Rattle.pb_history.specs.Entries.{Entry, silent_picks}
use Rattle.pb_history.specs.Leads.{Leads}
use Rattle.pb_history.proofs.TraceSteps.{leads_append, leads_more, leads_reaches, replicate_more, silent_lead}
use Rattle.pb_verifier.specs.Requests.{IsDenied, frees}
use Rattle.pb_verifier.specs.Verified.{IsFaultless, IsVerified, VerifiedCode}
use Rattle.pb_verifier.proofs.States.{code_move}
use Rattle.pb_verifier.proofs.Requests.{refused_stays, refused_stops, same_pick}
use Rattle.pb_shared.specs.Ledgers.{Ledger, IsLegal, IsLentBy, Tries, after_pick, all_home, allowance_of, given_back}
use Rattle.pb_shared.specs.Ledgers.{home, is_marked, mark_place, new_ledger}
use Rattle.pb_shared.specs.Lending.{Lent, IsSilentRun}
use Rattle.pb_shared.specs.Taking.{NoneReady}
use Rattle.pb_shared.specs.Trying.{TriesOn}
use Rattle.pb_shared.specs.Turning.{went_on}
use Rattle.pb_shared.specs.declared.answer.Answer.{Answer}
use Rattle.pb_shared.specs.declared.answer.Answer.TheVariants as answer
use Rattle.pb_shared.specs.declared.slip.Slip.{Slip}
use Rattle.pb_shared.proofs.ArmLooks.{moves_arm, moves_look}

-- ---- what stays

-- the machine of a legal book is reached
pub legal_reached : (code : VerifiedCode) (s : Ledger) → IsLegal code s → CodeReaches code.code s.machine
legal_reached code s legal = leads_reaches ByBanker code.code s.machine s.entries legal.leads

pub annotated_of : (code : VerifiedCode) (s : Ledger) → IsLegal code s → IsFaultless code.code
annotated_of code s legal = legal.verified.faultless

-- the allowances that are out, once one slip is changed
slips_change : (slips : List (Option Slip)) (p : ℕ) (a b : Option Slip) → slice_get slips p ≡ Some a
    → sum_by allowance_of (slice_set slips p b) + allowance_of a ≡ sum_by allowance_of slips + allowance_of b
slips_change slips p a b at =
    ap (λ (x : Option Slip). sum_by allowance_of (slice_set slips p b) + allowance_of x) (sym (get_or_from_slice_get slips p a a at))
    ∙ sum_by-set allowance_of slips p b a (slice_get_within slips p a at)

-- the slip that a stretch must have
abbrev pub slip_of : Lent → Slip
slip_of lent = record { arm = lent.pick.arm; allowance = lent.allowance }

-- a request that was refused stays so over picks that free nothing
refused_lasts : (code : Code) → IsFaultless code → (a b : State CodeProcess) (es : List Entry) (mark : Pick) → CodeReaches code a → Leads code a es b
    → All (λ e. frees e.event ≡ false) es → IsDenied code a mark → IsDenied code b mark
refused_lasts code faultless a b [] mark reached h f r = subst (λ (s : State CodeProcess). IsDenied code s mark) (sym h) r
refused_lasts code faultless a b (e ∷ es) mark reached h f r =
    refused_lasts code faultless h.0 b es mark (reaches_on ByBanker code a h.0 e.pick e.event reached h.1) h.2 (λ k d lt. f (suc k) d (omega arith))
    (refused_stays code faultless a h.0 e.pick mark e.event reached h.1 (f 0 e (omega arith)) r)

silent_frees : (n : ℕ) (pick : Pick) → All (λ e. frees e.event ≡ false) (silent_picks pick n)
silent_frees n pick = λ k d lt. at n k d lt
  where
    at : (n k : ℕ) (d : Entry) → k < length (silent_picks pick n) → frees (slice_index_or (silent_picks pick n) k d).event ≡ false
    at zero k d lt = absurd (omega arith)
    at (suc n) zero d lt = refl
    at (suc n) (suc k) d lt = at n k d (omega arith)

-- ---- a stretch comes home

module _ (code : VerifiedCode) (s : Ledger) (lent : Lent) (legal : IsLegal code s) (by : IsLentBy s lent) where
  -- what is unused of an allowance that was lent is no more than the limit leaves
  pub back_fits : length s.entries + s.left + lent.allowance ≤ s.limit
  back_fits = omega (arith, legal.counted, slips_change s.slips lent.pick.process (Some (slip_of lent)) None by.slip)

  pub process_within : lent.pick.process < length s.machine.processes
  process_within = slice_get_within s.machine.processes lent.pick.process lent.base by.base

  pub slip_within : lent.pick.process < length s.slips
  slip_within = slice_get_within s.slips lent.pick.process _ by.slip

  pub given_back_legal : IsLegal code (given_back s lent)
  given_back_legal = record {
    leads = legal.leads;
    counted = omega (arith, legal.counted, slips_change s.slips lent.pick.process (Some (slip_of lent)) None by.slip);
    limited = legal.limited;
    slots = length-set s.slips lent.pick.process None ∙ legal.slots;
    marks = legal.marks;
    verified = legal.verified;
  }

  module _ (run : IsSilentRun code.code lent) where
    abbrev after : State CodeProcess
    after = with_process s.machine lent.pick.process lent.state

    home_leads : Leads code.code s.machine (silent_picks lent.pick lent.made) after
    home_leads = silent_lead ByBanker code.code s.machine lent.pick lent.made lent.base lent.state by.base run.runs

    pub home_legal : IsLegal code (home s lent)
    home_legal = record {
      leads = leads_append ByBanker code.code (code_opening code.code) s.machine after s.entries (silent_picks lent.pick lent.made) legal.leads home_leads;
      counted =
          let made : length (s.entries ++ silent_picks lent.pick lent.made) ≡ length s.entries + lent.made =
          length-append s.entries (silent_picks lent.pick lent.made) ∙ ap (λ (n : ℕ). length s.entries + n) (length-replicate lent.made _) in
          let out = slips_change s.slips lent.pick.process (Some (slip_of lent)) None by.slip in
          let counted = legal.counted in
          let within = run.within in
          omega (arith, made, out, counted, within);
      limited = legal.limited;
      slots = length-set s.slips lent.pick.process None ∙ (legal.slots ∙ sym (length-set s.machine.processes lent.pick.process lent.state));
      marks = λ pick lt marked. refused_lasts code.code (annotated_of code s legal) s.machine after (silent_picks lent.pick lent.made) pick
          (legal_reached code s legal) home_leads (silent_frees lent.made lent.pick) (legal.marks pick lt marked);
      verified = legal.verified;
    }

    -- its process may be put into the machine
    pub comes_home : (m : Machine) (process : Proc) → machine_view m ≡ s.machine → proc_view process ≡ lent.state
        → HaveRoom (row code.depths lent.pick.process) (rooms_of process) → ComesFrom code m lent.pick.process process
    comes_home m process view state rooms = record {
      before = lent.base;
      there = ap (λ (x : State CodeProcess). slice_get x.processes lent.pick.process) view ∙ by.base;
      comes = subst (ComesSilently code.code lent.pick.process lent.base) (sym state) (makes_comes code.code
          lent.pick.process lent.pick.arm lent.made lent.base lent.state run.runs);
      rooms = rooms;
    }

-- ---- a visible pick

-- nothing is marked if all marks are taken away
none_marked : (marks : List Bool) (i : ℕ) → slice_index_or (map (λ (b : Bool). false) marks) i false ≡ true → ⊥
none_marked [] i h = cc
none_marked (b ∷ marks) zero h = cc
none_marked (b ∷ marks) (suc i) h = none_marked marks i h

-- marks stay right after a pick, or are taken away
marks_after : (code : VerifiedCode) (s : Ledger) (next : State CodeProcess) (pick : Pick) (event : Event) (b : Bool) → frees (Some event) ≡ b → IsLegal code s
    → CodeMoves code.code s.machine pick (Some event) next
    → (mark : Pick) → mark.arm < 64 → is_marked (cond b (map (λ (m : Bool). false) s.refused) s.refused) mark ≡ true → IsDenied code.code next mark
marks_after code s next pick event true is legal moves mark lt marked = elim (none_marked s.refused (mark_place mark) marked) [ ]
marks_after code s next pick event false is legal moves mark lt marked =
    refused_stays code.code (annotated_of code s legal) s.machine next pick mark (Some event) (legal_reached code s legal) moves is (legal.marks mark lt marked)

leads_length : (code : Code) (a b : State CodeProcess) (pick : Pick) (event : Option Event) → CodeMoves code a pick
    event b → length b.processes ≡ length a.processes
leads_length code a b pick event moves =
    let m = code_move code.processes a pick _ moves.1 in
    ap (λ (x : Move CodeProcess). length x.next.processes) (sym m.is) ∙ length-set a.processes pick.process m.after

pub after_pick_legal : (code : VerifiedCode) (s : Ledger) (next : State CodeProcess) (pick : Pick) (event : Event) → IsLegal code s → 0 < s.left
    → CodeMoves code.code s.machine pick (Some event) next → IsLegal code (after_pick s next pick event)
after_pick_legal code s next pick event legal some moves = record {
  leads = leads_more ByBanker code.code (code_opening code.code) s.machine next s.entries pick (Some event) legal.leads moves;
  counted =
      let one : Entry = record { pick = pick; event = Some event } in
      let made = length-append s.entries (one ∷ []) in
      let counted = legal.counted in
      omega (arith, made, counted, some);
  limited = legal.limited;
  slots = legal.slots ∙ sym (leads_length code.code s.machine next pick (Some event) moves);
  marks = marks_after code s next pick event (frees (Some event)) refl legal moves;
  verified = legal.verified;
}

-- two arms that share a place are the same
places_apart : (a b : Pick) → a.arm < 64 → b.arm < 64 → mark_place a ≡ mark_place b → a ≡ b
places_apart a b lt lt' same = same_pick a b (omega (arith, lt, lt', same)) (omega (arith, lt, lt', same))

-- an arm that is at a request is one of the 64 of its process
refused_arm : (code : VerifiedCode) (s : Ledger) (pick : Pick) → IsLegal code s → IsDenied code.code s.machine pick → pick.arm < 64
refused_arm code s pick legal refused = moves_arm code.code (annotated_of code s legal) s.machine (legal_reached code s legal) pick refused.move refused.asks

pub refused_legal : (code : VerifiedCode) (s : Ledger) (pick : Pick) → IsLegal code s → IsDenied code.code s.machine pick
    → IsLegal code (record s { refused = slice_set s.refused (mark_place pick) true })
refused_legal code s pick legal refused = record {
  leads = legal.leads;
  counted = legal.counted;
  limited = legal.limited;
  slots = legal.slots;
  marks = λ mark lt marked.
      ⊎_elim (λ same. subst (IsDenied code.code s.machine) (sym (places_apart mark pick lt (refused_arm code s pick legal refused) same)) refused)
      (λ other. legal.marks mark lt (sym (get_or-set_other s.refused (mark_place pick) (mark_place mark) true false other) ∙ marked))
      (cases_eq (mark_place mark) (mark_place pick));
  verified = legal.verified;
}

pub tries_legal : (code : VerifiedCode) (h after : Ledger) (pick : Pick) (a : Answer) → IsLegal code h → 0 < h.left →
    Tries code.code h pick a after → IsLegal code after
tries_legal code h end pick answer.Did legal some t = subst (IsLegal code) (sym t.3) (after_pick_legal code h t.0 pick t.1 legal some t.2)
tries_legal code h end pick answer.Refused legal some t = subst (IsLegal code) (sym t.1) (refused_legal code h pick legal t.0)
tries_legal code h end pick answer.Silent legal some t = subst (IsLegal code) (sym t.1) legal

pub same_ledger : (a b : Ledger) → a.machine ≡ b.machine → a.entries ≡ b.entries → a.limit ≡ b.limit → a.left ≡ b.left
    → a.slips ≡ b.slips → a.refused ≡ b.refused → a ≡ b
same_ledger a b machine entries limit left slips refused =
    λ i. record { machine = machine i; entries = entries i; limit = limit i; left = left i; slips = slips i; refused = refused i }

pub legal_as : (code : VerifiedCode) (a b : Ledger) → IsLegal code a → a.machine ≡ b.machine → a.entries ≡ b.entries → a.limit ≡ b.limit → a.left ≡ b.left
    → a.slips ≡ b.slips → a.refused ≡ b.refused → IsLegal code b
legal_as code a b legal machine entries limit left slips refused = subst (IsLegal code) (same_ledger a b machine entries limit left slips refused) legal

-- trying a visible pick on the fields of a book
pub tries_on : (code : Code) (h after : Ledger) (pick : Pick) (a : Answer) → TriesOn code h.machine h.entries h.left
    h.refused pick a after.machine after.entries after.left after.refused
    → after.limit ≡ h.limit → after.slips ≡ h.slips → Tries code h pick a after
tries_on code h end pick answer.Did t limit slips = (end.machine, t.0, t.1, same_ledger _ _ refl t.2 limit t.3 slips t.4)
tries_on code h end pick answer.Refused t limit slips = (t.0, same_ledger _ _ t.1 t.2 limit t.3 slips t.4)
tries_on code h end pick answer.Silent t limit slips = (t.0, same_ledger _ _ t.1 t.2 limit t.3 slips t.4)

-- the same of the code that the book's reference shows
pub tries_there : (v code : VerifiedCode) (h after : Ledger) (pick : Pick) (a : Answer) → v ≡ code
    → TriesOn v.code h.machine h.entries h.left h.refused pick a after.machine after.entries after.left after.refused
    → after.limit ≡ h.limit → after.slips ≡ h.slips → Tries code.code h pick a after
tries_there v code h end pick a same t limit slips =
    tries_on code.code h end pick a
    (subst (λ (x : VerifiedCode). TriesOn x.code h.machine h.entries h.left h.refused pick a end.machine end.entries end.left end.refused) same t) limit slips

pub machine_there : (v code : VerifiedCode) (m : Machine) → v ≡ code → IsMachineOf v m → IsMachineOf code m
machine_there v code m same h = subst (λ (x : VerifiedCode). IsMachineOf x m) same h

-- ---- an arm goes on in the book

-- there are as many processes after picks as before
leads_processes : (code : Code) (a b : State CodeProcess) (es : List Entry) → Leads code a es b → length b.processes ≡ length a.processes
leads_processes code a b [] h = ap (λ (s : State CodeProcess). length s.processes) h
leads_processes code a b (e ∷ es) h =
    leads_processes code h.0 b es h.2 ∙ leads_length code a h.0 e.pick e.event h.1

-- silent picks lead as their entries say
leads_silently : (code : Code) (before later : State CodeProcess) (pick : Pick) (made : ℕ) → MovesSilently code pick made before later
    → Leads code before (silent_picks pick made) later
leads_silently code before later pick zero same = same
leads_silently code before later pick (suc made) (between, moves, last) =
    subst (λ (es : List Entry). Leads code before es later) (sym (replicate_more made (record { pick = pick; event = None })))
    (leads_more ByBanker code before between later (silent_picks pick made) pick None (leads_silently code before between pick made moves) last)

-- silent picks of an arm keep a book legal
pub went_on_legal : (code : VerifiedCode) (s : Ledger) (pick : Pick) (made : ℕ) (next : State CodeProcess) → IsLegal code s → made ≤ s.left
    → MovesSilently code.code pick made s.machine next → IsLegal code (went_on s pick made next)
went_on_legal code s pick made next legal within moves =
    let leads = leads_silently code.code s.machine next pick made moves in
    record {
      leads = leads_append ByBanker code.code (code_opening code.code) s.machine next s.entries (silent_picks pick made) legal.leads leads;
      counted =
          let many : length (s.entries ++ silent_picks pick made) ≡ length s.entries + made =
          length-append s.entries (silent_picks pick made) ∙ ap (λ (n : ℕ). length s.entries + n) (length-replicate made _) in
          let counted = legal.counted in
          omega (arith, many, counted, within);
      limited = legal.limited;
      slots = legal.slots ∙ sym (leads_processes code.code s.machine next (silent_picks pick made) leads);
      marks = λ mark lt marked. refused_lasts code.code (annotated_of code s legal) s.machine next (silent_picks pick made) mark
          (legal_reached code s legal) leads (silent_frees made pick) (legal.marks mark lt marked);
      verified = legal.verified;
    }

-- ---- lending

-- the book after a process at home was lent
pub lent_legal : (code : VerifiedCode) (s : Ledger) (p : ℕ) (slip : Slip) → IsLegal code s → slice_get s.slips p ≡ Some None → slip.allowance ≤ s.left
    → IsLegal code (record s { left = s.left - slip.allowance; slips = slice_set s.slips p (Some slip) })
lent_legal code s p slip legal at_home within = record {
  leads = legal.leads;
  counted = omega (arith, legal.counted, slips_change s.slips p None (Some slip) at_home, within);
  limited = legal.limited;
  slots = length-set s.slips p (Some slip) ∙ legal.slots;
  marks = legal.marks;
  verified = legal.verified;
}

-- nothing is out if all are at home
none_out : (n : ℕ) → sum_by allowance_of (replicate n None) ≡ 0
none_out zero = refl
none_out (suc n) = none_out n

-- nothing is marked at the start
none_yet : (n i : ℕ) → slice_index_or (replicate n false) i false ≡ true → ⊥
none_yet zero i h = cc
none_yet (suc n) zero h = cc
none_yet (suc n) (suc i) h = none_yet n i h

pub new_legal : (code : VerifiedCode) (limit : ℕ) → IsVerified code → limit ≤ 10000000 → IsLegal code (new_ledger code limit)
new_legal code limit verified limited = record {
  leads = refl;
  counted = (let none = none_out (length code.code.processes) in omega (arith, none));
  limited = limited;
  slots = length-replicate (length code.code.processes) None ∙ sym (length-map code.code.processes code_process);
  marks = λ pick lt marked. elim (none_yet (64 * length code.code.processes) (mark_place pick) marked) [ ];
  verified = verified;
}

pub nothing_out : (slips : List (Option Slip)) → all_home slips ≡ true → sum_by allowance_of slips ≡ 0
nothing_out [] all = refl
nothing_out (None ∷ xs) all = nothing_out xs all
nothing_out (Some slip ∷ xs) all = cc

-- at the limit just as many picks were made as the limit says
pub at_limit : (code : VerifiedCode) (s : Ledger) → IsLegal code s → s.left ≡ 0 → all_home s.slips ≡ true → length s.entries ≡ s.limit
at_limit code s legal none_left all = omega (arith, legal.counted, nothing_out s.slips all)

-- ---- some arm is ready if all are at home

home_at : (slips : List (Option Slip)) (p : ℕ) → all_home slips ≡ true → p < length slips → slice_get slips p ≡ Some None
home_at [] p all lt = absurd (omega arith)
home_at (None ∷ xs) zero all lt = refl
home_at (None ∷ xs) (suc p) all lt = home_at xs p all (omega arith)
home_at (Some slip ∷ xs) p all lt = cc

false_unless : (b : Bool) → b ≢ true → b ≡ false
false_unless true h = absurd (h refl)
false_unless false h = refl

pub none_ready_out : (code : VerifiedCode) (s : Ledger) → IsLegal code s → (IsFinished code_over s.machine → ⊥) →
    NoneReady code.code s → all_home s.slips ≢ true
none_ready_out code s legal going none all = ⊎_elim (λ over. going over) (λ w.
    let m = code_move code.code.processes s.machine w.0 w.1 w.2 in
    let there = slice_get_within s.machine.processes w.0.process m.before m.here in
    let slots = legal.slots in
    let faultless = annotated_of code s legal in
    let reached = legal_reached code s legal in
    let unmarked : is_marked s.refused w.0 ≢ true = λ marked.
    refused_stops code.code faultless s.machine w.1.next w.0 _ (legal.marks w.0 (moves_arm code.code faultless
    s.machine reached w.0 w.1 w.2) marked) (w.1.effect, w.2, w.3, refl) in
    none w.0 (record {
      at_home = home_at s.slips w.0.process all (omega (arith, there, slots));
      steps = moves_look code.code s.machine w.0 w.1 w.2;
      unmarked = false_unless (is_marked s.refused w.0) unmarked;
    }))
    (goes_on code legal.verified s.machine (legal_reached code s legal))

-- ---- whether a stretch was lent

pub slip_there : (slips : List (Option Slip)) (p : ℕ) (slip : Slip) → Some slip ≡ slice_index_or slips p None → slice_get slips p ≡ Some (Some slip)
slip_there [] p slip h = cc
slip_there (x ∷ slips) zero slip h = ap Some (sym h)
slip_there (x ∷ slips) (suc p) slip h = slip_there slips p slip h

pub same_slip : (a b : Slip) → a.arm ≡ b.arm → a.allowance ≡ b.allowance → a ≡ b
same_slip a b p q = λ i. record { arm = p i; allowance = q i }

-- ---- the machine with a process put in

pub set_view : (m after : Machine) (p q : ℕ) (process : CodeProcess) → p ≡ q → (machine_view after).processes ≡ set
    (machine_view m).processes p process → after.bank ≡ m.bank
    → machine_view after ≡ with_process (machine_view m) q process
set_view m after p q process e list bank =
    let state : List CodeProcess → List (List ℕ) → State CodeProcess = λ ps ls. record { processes = ps; loans = ls } in
    ap (λ ps. state ps (lender_state after.bank).loans) list
    ∙ (ap (λ b. state (set (machine_view m).processes p process) (lender_state b).loans) bank
    ∙ ap (λ (k : ℕ). state (set (machine_view m).processes k process) (lender_state m.bank).loans) e)
