-- Which orders of jobs finish, and what is said of one that does not.
use Rattle.std.specs.Prelude.{ℕ, ◌+◌, ◌<◌, ◌≤◌, Bool, false, not, List, ◌++◌, length, take, Contains}
use Rattle.std.specs.Prelude.{slice_index, slice_index_or}
use Rattle.std.specs.List.Sorted.{IsPermutation}
use Rattle.pb_base.specs.Banker.{BankerState, resources, everyone, members, cash, held_by, remaining_claim, FitsAfter}
use Rattle.pb_banker.specs.Jobs.{IsUsed}
use Rattle.pb_banker.specs.declared.order.OrderSaid.{OrderSaid}
use Rattle.pb_banker.specs.declared.order.OrderSaid.TheVariants.{Finishing, NoJob, Twice, Lacks, Missing}

-- each of the order fits after those before it
abbrev pub FitInTurn : BankerState → List ℕ → Type 0
FitInTurn s order = (k : ℕ) → k < length order → FitsAfter s (take k order) (slice_index order k)

-- the slots that no job has
abbrev pub free_slots : BankerState → List Bool → List ℕ
free_slots s used = members s (λ p. not (slice_index_or used p false))

-- the order has each job once, and each fits after those before it
pub record IsFinishingOrder (s : BankerState) (used : List Bool) (order : List ℕ) : Type 0 where
  pub jobs : IsPermutation (everyone s) (order ++ free_slots s used)
  pub fits : FitInTurn s order

-- the first resource of which p may ask for more than there is
pub record IsFirstShort (s : BankerState) (available : ℕ → ℕ) (p r : ℕ) : Type 0 where
  pub there : r < resources s
  pub short : available r < remaining_claim s p r
  pub first : (q : ℕ) → q < r → remaining_claim s p q ≤ available q

-- nothing is wrong before place k: each place there names a job, which is in no place before it, and fits after those
pub record GoesWell (s : BankerState) (used : List Bool) (order : List ℕ) (k : ℕ) : Type 0 where
  pub jobs : (i : ℕ) → i < k → IsUsed used (slice_index order i)
  pub once : (i : ℕ) → i < k → ¬ Contains (take i order) (slice_index order i)
  pub fits : FitInTurn s (take k order)

-- the first job that the order lacks
pub record IsFirstMissing (used : List Bool) (order : List ℕ) (p : ℕ) : Type 0 where
  pub job : IsUsed used p
  pub missing : ¬ Contains order p
  pub first : (q : ℕ) → q < p → IsUsed used q → Contains order q

-- what is said of an order: it finishes; or of the first place at which something is wrong, that it names no job, a
-- job that is in a place before it, or one that lacks this resource; or nothing is wrong, and this job is not in it
abbrev pub SaysOfOrder : BankerState → List Bool → List ℕ → OrderSaid → Type 0
SaysOfOrder s used order Finishing = IsFinishingOrder s used order
SaysOfOrder s used order (NoJob k) = (k < length order) × GoesWell s used order k × ¬ IsUsed used (slice_index order k)
SaysOfOrder s used order (Twice k) =
    (k < length order) × GoesWell s used order k × Contains (take k order) (slice_index order k)
SaysOfOrder s used order (Lacks k r) =
    (k < length order) × GoesWell s used order k
    × IsFirstShort s (λ q. cash s q + held_by s (take k order) q) (slice_index order k) r
SaysOfOrder s used order (Missing p) = GoesWell s used order (length order) × IsFirstMissing used order p
