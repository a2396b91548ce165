-- What becomes of a request: the reasons for which an arm does not go on.
use Rattle.std.specs.Prelude.{◌≡◌, ◌↔◌, ℕ, ◌<◌, ◌≤◌, Some, slice_get, ⊤}
use Rattle.pb_base.specs.declared.pair.Pair.{Pair}
use Rattle.pb_base.specs.Banker.{BankerState, IsWithinCash, IsAllowed, IsLeastFirst, IsLargestStuck, cash, with_loan}
use Rattle.pb_base.specs.Steppers.{Bundle, IsLent}
use Rattle.pb_base.specs.declared.lending.Lending.{Lending}
use Rattle.pb_base.specs.declared.lending.Lending.TheVariants.{ByBanker, ByCash}
use Rattle.pb_debug_texts.specs.declared.why.Why.{Why}
use Rattle.pb_debug_texts.specs.declared.why.Why.TheVariants.{NotAsking, Cash, Order, Rest, Granted}

-- the first pair of a bundle whose amount is over the cash: its resource, and the cash of it
pub record IsFirstOverCash (s : BankerState) (bundle : Bundle) (resource amount : ℕ) : Type 0 where
  pub place : ℕ
  pub pair : Pair
  pub there : slice_get bundle place ≡ Some pair
  pub over : cash s pair.resource < pair.amount
  pub earlier : (k : ℕ) (other : Pair) → k < place → slice_get bundle k ≡ Some other
      → other.amount ≤ cash s other.resource
  pub resource_is : resource ≡ pair.resource
  pub amount_is : amount ≡ cash s pair.resource

-- what becomes of a request for a bundle under the banker: the cash is too little; or it is allowed, and the processes finish
-- in this order with the new loan; or it would be unsafe, and these could never finish
abbrev pub IsReason : BankerState → ℕ → Bundle → Why → Type 0
IsReason s p bundle NotAsking = ⊥
IsReason s p bundle (Cash resource amount) = IsFirstOverCash s bundle resource amount
IsReason s p bundle (Order order) = IsAllowed s p bundle × IsLeastFirst (with_loan s p bundle) order.items
IsReason s p bundle (Rest rest) =
    IsWithinCash s bundle × (IsAllowed s p bundle → ⊥) × IsLargestStuck (with_loan s p bundle) rest.items
IsReason s p bundle Granted = ⊥

-- and under the cash alone: the cash is too little, or it is granted
abbrev pub IsReasonOfCash : BankerState → ℕ → Bundle → Why → Type 0
IsReasonOfCash s p bundle NotAsking = ⊥
IsReasonOfCash s p bundle (Cash resource amount) = IsFirstOverCash s bundle resource amount
IsReasonOfCash s p bundle (Order order) = ⊥
IsReasonOfCash s p bundle (Rest rest) = ⊥
IsReasonOfCash s p bundle Granted = IsLent ByCash s p bundle

-- what becomes of a request under this lending
abbrev pub IsReasonBy : Lending → BankerState → ℕ → Bundle → Why → Type 0
IsReasonBy ByBanker s p bundle why = IsReason s p bundle why
IsReasonBy ByCash s p bundle why = IsReasonOfCash s p bundle why

-- the arm may go on
abbrev pub LetsGoOn : Why → Type 0
LetsGoOn NotAsking = ⊥
LetsGoOn (Cash resource amount) = ⊥
LetsGoOn (Order order) = ⊤
LetsGoOn (Rest rest) = ⊥
LetsGoOn Granted = ⊤

-- a reason lets an arm go on exactly if the lender grants what it asks for
abbrev pub ReasonsFollowTheLender : Type 0
ReasonsFollowTheLender =
    (lending : Lending) (s : BankerState) (p : ℕ) (bundle : Bundle) (why : Why) → IsReasonBy lending s p bundle why
    → LetsGoOn why ↔ IsLent lending s p bundle
