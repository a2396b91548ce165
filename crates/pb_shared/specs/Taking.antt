-- What a take returns.
use Rattle.std.specs.Prelude.{◌≡◌, ◌≢◌, ◌⊎◌, ℕ, ◌-◌, ◌<◌, ◌≤◌, min, Some, None, Result, Ok, Err, true, slice_get}
use Rattle.std.specs.Prelude.{slice_set, ⊤}
use Rattle.pb_base.specs.declared.pick.Pick.{Pick}
use Rattle.pb_code.specs.Whole.{Code}
use Rattle.pb_verifier.specs.Verified.{VerifiedCode}
use Rattle.pb_base.specs.declared.memory.NoMemory.{NoMemory}
use Rattle.pb_shared.specs.Ledgers.{Ledger, Commits, IsReady, HasOutcome, IsLentBy, all_home, given_back}
use Rattle.pb_shared.specs.Lending.{Lent}
use Rattle.pb_shared.specs.declared.answer.Answer.{Answer}
use Rattle.pb_shared.specs.declared.fault.HomeFault.{HomeFault}
use Rattle.pb_shared.specs.declared.fault.HomeFault.TheVariants as away
use Rattle.pb_shared.specs.declared.taken.Taken.{Taken}
use Rattle.pb_shared.specs.declared.taken.Taken.TheVariants.{Work, Idle, Over}

-- the book after it lent this
abbrev pub lent_out : Ledger → Lent → Ledger
lent_out s lent = record s {
  left = s.left - lent.allowance;
  slips = slice_set s.slips lent.pick.process (Some (record { arm = lent.pick.arm; allowance = lent.allowance }));
}

-- the stretch has this arm of the process as the machine has it, with nothing made
pub record StartsAt (s : Ledger) (pick : Pick) (allowance : ℕ) (lent : Lent) : Type 0 where
  pub pick_is : lent.pick ≡ pick
  pub allowance_is : lent.allowance ≡ allowance
  pub base : slice_get s.machine.processes pick.process ≡ Some lent.base
  pub state : lent.state ≡ lent.base
  pub made : lent.made ≡ 0

-- the arm is ready, and may make the lesser of quantum and picks left
pub record IsFresh (code : Code) (s : Ledger) (quantum : ℕ) (lent : Lent) : Type 0 where
  pub ready : IsReady code s lent.pick
  pub some_left : 0 < s.left
  pub starts : StartsAt s lent.pick (min quantum s.left) lent

-- no arm can be lent
abbrev pub NoneReady : Code → Ledger → Type 0
NoneReady code s = (pick : Pick) → IsReady code s pick → ⊥

-- what a take returns, and the book afterwards: a ready arm is lent; or none can be lent, and then some
-- process is out; or there is an outcome
abbrev pub Takes : {C : Type 0} → VerifiedCode → Ledger → ℕ → Taken C → Ledger → Type 0
Takes code s quantum (Work lent) after = HasOutcome s None × IsFresh code.code s quantum lent × (after ≡ lent_out s lent)
Takes code s quantum Idle after =
    HasOutcome s None × ((s.left ≡ 0) ⊎ NoneReady code.code s) × (all_home s.slips ≢ true) × (after ≡ s)
Takes code s quantum (Over outcome) after = HasOutcome s (Some outcome) × (after ≡ s)

-- the same of a take that may be out of memory, which leaves the book as it was
abbrev pub TakesIfRoom : {C : Type 0} → VerifiedCode → Ledger → ℕ → Result (Taken C) NoMemory → Ledger → Type 0
TakesIfRoom code s quantum (Ok taken) after = Takes code s quantum taken after
TakesIfRoom code s quantum (Err fault) after = after ≡ s

-- a commit, and then a take
abbrev pub CommitsAndTakes : {C : Type 0} → VerifiedCode → Ledger → Lent → ℕ → Answer → Result (Taken C) NoMemory → Ledger → Type 0
CommitsAndTakes code s lent quantum answer taken after =
    (between : Ledger) × Commits code.code s lent answer between × TakesIfRoom code between quantum taken after

-- what a lock hands out: a stretch with nothing made, that may make at most `quantum` picks; or an outcome
abbrev pub IsHandedOut : {C : Type 0} → ℕ → Taken C → Type 0
IsHandedOut quantum (Work lent) =
    (lent.made ≡ 0) × (lent.state ≡ lent.base) × (0 < lent.allowance) × (lent.allowance ≤ quantum)
IsHandedOut quantum Idle = ⊥
IsHandedOut quantum (Over outcome) = ⊤

-- a stretch did not come home with its picks: the book did not lend it, and is as it was; or out of memory, and
-- its process came back as it was lent
abbrev pub IsNotBrought : {C : Type 0} → Ledger → Lent → HomeFault C → Ledger → Type 0
IsNotBrought s lent (away.Stranger stretch) after = (IsLentBy s lent → ⊥) × (stretch ≡ lent) × (after ≡ s)
IsNotBrought s lent away.NoMemory after = IsLentBy s lent × (after ≡ given_back s lent)

-- a stretch that is handed back is the one that was brought
abbrev pub IsHandedBack : {C : Type 0} → Lent → HomeFault C → Type 0
IsHandedBack lent (away.Stranger stretch) = stretch ≡ lent
IsHandedBack lent away.NoMemory = ⊤
