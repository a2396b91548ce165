-- The queue of wishes: requests that could not be granted when they came.
use Rattle.std.specs.Prelude.{◌≡◌, ◌⊎◌, ℕ, Bool, not, ◌==◌, List, [], ◌∷◌, ◌++◌, map, filter}
use Rattle.std.specs.List.{list_any}
use Rattle.pb_base.specs.Banker.{BankerState, with_loan, IsAllowed}
use Rattle.pb_bank.specs.declared.request.Request.{Request}
use Rattle.pb_bank.specs.declared.said.Said.{Said}
use Rattle.pb_bank.specs.declared.said.Said.TheVariants as told
use Rattle.pb_bank.specs.Desks.{DeskValue}

-- the job has a wish in the queue
abbrev pub has_wish : List Request → ℕ → Bool
has_wish wishes p = list_any (λ w. w.job == p) wishes

-- the wishes of the other jobs, in their order
abbrev pub without_wish : List Request → ℕ → List Request
without_wish wishes p = filter (λ w. not (w.job == p)) wishes

-- the queue, a thing for each wish
abbrev pub wishes_said : List Request → List Said
wishes_said wishes = map told.Wish wishes

-- ---- serving

-- the queue is served in its order: a wish that is allowed, once those before it are served, is granted, and it
-- is said so; any other waits on
pub data Serves (s : BankerState) : (queue : List Request) → (said : List Said) → (waiting : List Request)
    → (next : BankerState) → Type 0 where
  nothing : Serves s [] [] [] s
  grants : (queue : List Request) (said : List Said) (waiting : List Request) (mid : BankerState) (w : Request)
      → Serves s queue said waiting mid → IsAllowed mid w.job w.bundle
      → Serves s (queue ++ w ∷ []) (said ++ told.Granted w ∷ []) waiting (with_loan mid w.job w.bundle)
  waits : (queue : List Request) (said : List Said) (waiting : List Request) (mid : BankerState) (w : Request)
      → Serves s queue said waiting mid → ¬ IsAllowed mid w.job w.bundle
      → Serves s (queue ++ w ∷ []) said (waiting ++ w ∷ []) mid

-- what is said when the queue of a desk is served, and the desk after it
abbrev pub ServesQueue : DeskValue → List Said → DeskValue → Type 0
ServesQueue d said next =
    (waiting : List Request) × (s : BankerState) × Serves d.bank.state d.wishes said waiting s
    × (next ≡ record d { bank = record d.bank { state = s }; wishes = waiting })

-- one wish is served: it is granted, and it is said so, or it waits
abbrev pub ServesWish : Request → (s next : BankerState) → (out out' : List Said) → (waiting waiting' : List Request) → Type 0
ServesWish w s next out out' waiting waiting' =
    (IsAllowed s w.job w.bundle × (next ≡ with_loan s w.job w.bundle)
    × (out' ≡ out ++ told.Granted w ∷ []) × (waiting' ≡ waiting))
    ⊎ ((¬ IsAllowed s w.job w.bundle) × (next ≡ s) × (out' ≡ out) × (waiting' ≡ waiting ++ w ∷ []))
