-- The book of a machine: what it says, when that is right, and what its calls do to it.
use Rattle.std.specs.Prelude.{◌≡◌, ◌≢◌, ◌⊎◌, ℕ, ◌+◌, ◌-◌, ◌*◌, ◌<◌, ◌≤◌, List, [], ◌∷◌, ◌++◌, length, map, replicate}
use Rattle.std.specs.Prelude.{Option, Some, None, Bool, true, false, cond, is_none, slice_get, slice_index_or}
use Rattle.std.specs.Prelude.{slice_set}
use Rattle.std.specs.List.{sum_by, list_all}
use Rattle.pb_base.specs.declared.limits.TheConstants.{MAX_ARMS, MAX_PICKS}
use Rattle.pb_base.specs.declared.event.Event.{Event}
use Rattle.pb_base.specs.declared.pick.Pick.{Pick}
use Rattle.pb_base.specs.Steppers.{State, IsFinished}
use Rattle.pb_code.specs.Code.{CodeProcess, code_over}
use Rattle.pb_code.specs.Reached.{CodeMoves}
use Rattle.pb_code.specs.Whole.{Code, code_opening}
use Rattle.pb_history.specs.Entries.{Entry, silent_picks}
use Rattle.pb_history.specs.Leads.{Leads}
use Rattle.pb_machine.specs.Looks.{look_at}
use Rattle.pb_machine.specs.declared.look.Look.TheVariants.{Visible, Stays}
use Rattle.pb_verifier.specs.Requests.{IsDenied, frees}
use Rattle.pb_verifier.specs.Verified.{VerifiedCode, IsVerified}
use Rattle.pb_shared.specs.Lending.{Lent}
use Rattle.pb_shared.specs.declared.answer.Answer.{Answer}
use Rattle.pb_shared.specs.declared.answer.Answer.TheVariants as answer
use Rattle.pb_shared.specs.declared.outcome.Outcome.{Outcome}
use Rattle.pb_shared.specs.declared.outcome.Outcome.TheVariants.{Done, Limit}
use Rattle.pb_shared.specs.declared.slip.Slip.{Slip}
use Rattle.pb_machine.specs.Steps.{with_process}

-- what contracts see of a book: the state of the machine; the picks that were made; the limit, and how many
-- picks are left; a slip for each process that is out; and which arms are marked refused, 64 for each process
pub record Ledger : Type 0 where
  pub machine : State CodeProcess
  pub entries : List Entry
  pub limit : ℕ
  pub left : ℕ
  pub slips : List (Option Slip)
  pub refused : List Bool

-- the place of an arm among the marks, and whether it is marked
abbrev pub mark_place : Pick → ℕ
mark_place pick = MAX_ARMS * pick.process + pick.arm

abbrev pub is_marked : List Bool → Pick → Bool
is_marked marks pick = slice_index_or marks (mark_place pick) false

-- what a slip allows
abbrev pub allowance_of : Option Slip → ℕ
allowance_of (Some slip) = slip.allowance
allowance_of None = 0

-- the picks lead from the start to the machine, and each made just what is beside it; picks made,
-- allowances out and picks left add up to the limit; each arm marked refused is at a request that is not
-- allowed now; and the code is verified
pub record IsLegal (code : VerifiedCode) (s : Ledger) : Type 0 where
  pub leads : Leads code.code (code_opening code.code) s.entries s.machine
  pub counted : length s.entries + sum_by allowance_of s.slips + s.left ≡ s.limit
  pub limited : s.limit ≤ MAX_PICKS
  pub slots : length s.slips ≡ length s.machine.processes
  pub marks : (pick : Pick) → pick.arm < MAX_ARMS → is_marked s.refused pick ≡ true → IsDenied code.code s.machine pick
  pub verified : IsVerified code

-- nothing was picked yet
abbrev pub new_ledger : VerifiedCode → ℕ → Ledger
new_ledger code limit = record {
  machine = code_opening code.code;
  entries = [];
  limit = limit;
  left = limit;
  slips = replicate (length code.code.processes) None;
  refused = replicate (MAX_ARMS * length code.code.processes) false;
}

-- every process is at home
abbrev pub all_home : List (Option Slip) → Bool
all_home slips = list_all is_none slips

-- the outcome: done if every process is over, else the limit if no pick is left and no process is out
abbrev pub HasOutcome : Ledger → Option Outcome → Type 0
HasOutcome s (Some Done) = IsFinished code_over s.machine
HasOutcome s (Some Limit) = (IsFinished code_over s.machine → ⊥) × (s.left ≡ 0) × (all_home s.slips ≡ true)
HasOutcome s None = (IsFinished code_over s.machine → ⊥) × (s.left ≡ 0 → all_home s.slips ≢ true)

-- ---- a stretch comes back

-- the book lent this: its process is out for this arm with this allowance, from this state
pub record IsLentBy (s : Ledger) (lent : Lent) : Type 0 where
  pub slip : slice_get s.slips lent.pick.process ≡ Some (Some (record { arm = lent.pick.arm; allowance = lent.allowance }))
  pub base : slice_get s.machine.processes lent.pick.process ≡ Some lent.base

-- the book after the silent picks of a stretch: its process is at home, and what is unused of its allowance
-- is left
abbrev pub home : Ledger → Lent → Ledger
home s lent = record s {
  machine = with_process s.machine lent.pick.process lent.state;
  entries = s.entries ++ silent_picks lent.pick lent.made;
  left = s.left + (lent.allowance - lent.made);
  slips = slice_set s.slips lent.pick.process None;
}

-- the book after its process came back as it was lent
abbrev pub given_back : Ledger → Lent → Ledger
given_back s lent = record s { left = s.left + lent.allowance; slips = slice_set s.slips lent.pick.process None }

-- the book after a visible pick: its event is in the trace, and the marks go where loans came back
abbrev pub after_pick : Ledger → State CodeProcess → Pick → Event → Ledger
after_pick s next pick event = record s {
  machine = next;
  entries = s.entries ++ record { pick = pick; event = Some event } ∷ [];
  left = s.left - 1;
  refused = cond (frees (Some event)) (map (λ _. false) s.refused) s.refused;
}

-- the visible pick of an arm is tried: it was made; or it is refused, and the arm is marked; or there is none
abbrev pub Tries : Code → Ledger → Pick → Answer → Ledger → Type 0
Tries code s pick answer.Did after =
    (next : State CodeProcess) × (event : Event) × CodeMoves code s.machine pick (Some event) next
    × (after ≡ after_pick s next pick event)
Tries code s pick answer.Refused after =
    IsDenied code s.machine pick × (after ≡ record s { refused = slice_set s.refused (mark_place pick) true })
Tries code s pick answer.Silent after = (look_at code s.machine pick ≢ Visible) × (after ≡ s)

-- a commit: the silent picks are in the trace, and if some of the allowance is left the visible pick is
-- tried
abbrev pub Commits : Code → Ledger → Lent → Answer → Ledger → Type 0
Commits code s lent a after =
    ((lent.made < lent.allowance) × Tries code (home s lent) lent.pick a after)
    ⊎ ((lent.made ≡ lent.allowance) × (a ≡ answer.Silent) × (after ≡ home s lent))

-- ---- an arm is lent

-- an arm that may be lent: its process is at home, it is not marked refused, and it can step, the banker left
-- aside: it is live, and does not wait for arms that have not all ended
pub record IsReady (code : Code) (s : Ledger) (pick : Pick) : Type 0 where
  pub at_home : slice_get s.slips pick.process ≡ Some None
  pub steps : look_at code s.machine pick ≢ Stays
  pub unmarked : is_marked s.refused pick ≡ false
