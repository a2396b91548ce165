-- A desk: a bank whose jobs and resources have names.
use Rattle.std.specs.Prelude.{◌≡◌, ◌≢◌, ◌<◌, ◌≤◌, ℕ, suc, true, false, cond, List, [], ◌∷◌, length, All, AllPairs}
use Rattle.std.specs.Prelude.{Option, Some, None, slice_index_or, replicate}
use Rattle.std.specs.Str.{bytes_eq}
use Rattle.pb_base.specs.declared.limits.TheConstants.{MAX_PAIRS, MAX_PROCESSES}
use Rattle.pb_base.specs.Banker.{BankerState, processes, resources, claim, IsAllowed, IsWithinClaim}
use Rattle.pb_base.specs.Bundle.{IsDistinct}
use Rattle.pb_base.specs.Lines.{NameTable}
use Rattle.pb_banker.specs.Jobs.{BankValue, HasJob}
use Rattle.pb_banker.specs.Value.{start_state}
use Rattle.pb_bank.specs.declared.request.Request.{Request}
use Rattle.pb_bank.specs.Words.{is_name}

-- the bank; the names of the jobs by slot, which are empty for slots that no job has, and of the resources by
-- number; and the queue of wishes, in the order in which they came
pub record DeskValue : Type 0 where
  pub bank : BankValue
  pub names : NameTable
  pub wishes : List Request

-- a request is of a job that has a row, and of resources that are there, none twice
pub record IsRequestOf (b : BankValue) (w : Request) : Type 0 where
  pub job : w.job < processes b.state
  pub below : All (λ pair. pair.resource < resources b.state) w.bundle
  pub distinct : IsDistinct w.bundle

-- none of these wishes is allowed
abbrev pub NoneIsAllowed : BankerState → List Request → Type 0
NoneIsAllowed s wishes = All (λ w. ¬ IsAllowed s w.job w.bundle) wishes

-- ---- the queue

-- a wish that waits: a job has its slot, it asks for something, and it is within its claim
pub record IsWaitingOf (b : BankValue) (w : Request) : Type 0 where
  pub job : HasJob b w.job
  pub some : 0 < length w.bundle
  pub few : length w.bundle ≤ MAX_PAIRS
  pub within : IsWithinClaim b.state w.job w.bundle

-- no two of these wishes are of one job
abbrev pub AreOneEach : List Request → Type 0
AreOneEach wishes = AllPairs (λ v w. v.job ≢ w.job) wishes

-- a queue of wishes that wait
pub record IsQueueOf (b : BankValue) (wishes : List Request) : Type 0 where
  pub requests : All (IsRequestOf b) wishes
  pub waiting : All (IsWaitingOf b) wishes
  pub one_each : AreOneEach wishes

-- ---- names

-- a name has 1 to 32 bytes, those that names may have
pub record IsUsableName (word : List ℕ) : Type 0 where
  pub some : 0 < length word
  pub allowed : is_name word ≡ true

-- no two have one name; the empty name is none
abbrev pub AreApart : List (List ℕ) → Type 0
AreApart names =
    (p q : ℕ) → 0 < length (slice_index_or names p []) → slice_index_or names p [] ≡ slice_index_or names q [] → p ≡ q

-- names of resources
pub record AreUsableNames (names : List (List ℕ)) : Type 0 where
  pub each : All IsUsableName names
  pub apart : AreApart names

-- the slots and their names: a job is in a slot that has a row, and has a name that no other has; a slot that no job has
-- claims nothing and has no name; and slots have rows only if there are resources
pub record AreSlots (b : BankValue) (names : List (List ℕ)) : Type 0 where
  pub marks : length b.used ≡ MAX_PROCESSES
  pub rows : (p : ℕ) → HasJob b p → p < processes b.state
  pub free : (p r : ℕ) → ¬ HasJob b p → claim b.state p r ≡ 0
  pub named : (p : ℕ) → HasJob b p → IsUsableName (slice_index_or names p [])
  pub nameless : (p : ℕ) → ¬ HasJob b p → slice_index_or names p [] ≡ []
  pub apart : AreApart names
  pub some : 0 < processes b.state → 0 < resources b.state

-- each job and each resource has a name of its own, and each wish of the queue is within the claim of its job, which has no
-- other, and is not allowed
pub record IsDesk (d : DeskValue) : Type 0 where
  pub jobs : length d.names.processes ≡ MAX_PROCESSES
  pub resources : length d.names.resources ≡ resources d.bank.state
  pub called : AreUsableNames d.names.resources
  pub slots : AreSlots d.bank d.names.processes
  pub wishes : IsQueueOf d.bank d.wishes
  pub waits : NoneIsAllowed d.bank.state d.wishes

-- ---- places

-- the number of the first that has this name, where the first of all has the number i
abbrev pub place_from : ℕ → List (List ℕ) → List ℕ → Option ℕ
place_from i [] word = None
place_from i (name ∷ names) word = cond (bytes_eq name word) (Some i) (place_from (suc i) names word)

-- the number of the first that has this name
unfoldable pub place_of : List (List ℕ) → List ℕ → Option ℕ
place_of names word = place_from 0 names word

-- the slot, if a job has it
abbrev pub used_slot : BankValue → Option ℕ → Option ℕ
used_slot b None = None
used_slot b (Some p) = cond (slice_index_or b.used p false) (Some p) None

-- the slot of the job of this name
abbrev pub job_of : DeskValue → List ℕ → Option ℕ
job_of d word = used_slot d.bank (place_of d.names.processes word)

-- the desk at the start: no resources, no jobs and no wishes
pub record IsFirstDesk (d : DeskValue) : Type 0 where
  pub state : d.bank.state ≡ start_state [] []
  pub used : d.bank.used ≡ replicate MAX_PROCESSES false
  pub jobs : d.names.processes ≡ replicate MAX_PROCESSES []
  pub resources : d.names.resources ≡ []
  pub wishes : d.wishes ≡ []
