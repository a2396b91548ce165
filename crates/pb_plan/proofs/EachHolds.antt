-- What is so of each hold, by what else is so of each hold and of what is around it.
use Rattle.std.proofs.Common.{◌≡◌, ◌∙◌, ℕ, ◌<◌, List, [], ◌++◌, Some, get_or, subst, arith}
use Rattle.std.specs.Prelude.{All, slice_get}
use Rattle.std.specs.List.{range_with_len}
use Rattle.std.proofs.lemmas.List.Elements.{All-append}
use Rattle.std.proofs.lemmas.List.FromFn.{get_or-range_with_len, length-range_with_len}
use Rattle.std.proofs.lemmas.Option.{slice_get-get_or}
use Rattle.pb_base.specs.declared.pair.Pair.{Pair}
use Rattle.pb_base.specs.Steppers.{Bundle}
use Rattle.pb_names.specs.Program.{Stmt, Assign, Print, If, While, Hold, Parbegin, Block, Skip, Then, Arms, NoArm}
use Rattle.pb_names.specs.Program.{AndArm, Process}
use Rattle.pb_plan.specs.Nests.{AskBelow, IsAmong}
use Rattle.pb_plan.specs.Orders.{ComesLater, EachHold, EachHoldAmong, EachHoldOf, IsFollowed}
use Rattle.pb_plan.specs.Scarce.{ComesLaterAmong, IsFollowedAmong}

-- a condition that is always met
module _ (Meets : Bundle → Bundle → Type 0) (so : (around asked : Bundle) → Meets around asked) where
  mutual
    stmt_always : (around : Bundle) (s : Stmt) → EachHoldOf Meets around s
    stmt_always around (Assign line x e) = tt
    stmt_always around (Print line e) = tt
    stmt_always around (If line e a b) = (always around a, always around b)
    stmt_always around (While line e body) = always around body
    stmt_always around (Hold line bundle body) = (so around bundle, always (bundle ++ around) body)
    stmt_always around (Parbegin line first arms) = arms_always around arms

    pub always : (around : Bundle) (block : Block) → EachHold Meets around block
    always around Skip = tt
    always around (Then s block) = (stmt_always around s, always around block)

    arms_always : (around : Bundle) (arms : Arms) → EachHoldAmong Meets around arms
    arms_always around NoArm = tt
    arms_always around (AndArm arm arms) = (always around arm, arms_always around arms)

-- two conditions that are met give a third, where what is around is known to be so
module _ (P Q Meets : Bundle → Bundle → Type 0) (Around : Bundle → Type 0)
    (so : (around asked : Bundle) → Around around → P around asked → Q around asked
    → Meets around asked × Around (asked ++ around)) where
  mutual
    stmt_meets : (around : Bundle) (s : Stmt) → Around around → EachHoldOf P around s → EachHoldOf Q around s
        → EachHoldOf Meets around s
    stmt_meets around (Assign line x e) is p q = tt
    stmt_meets around (Print line e) is p q = tt
    stmt_meets around (If line e a b) is p q = (meets around a is p.0 q.0, meets around b is p.1 q.1)
    stmt_meets around (While line e body) is p q = meets around body is p q
    stmt_meets around (Hold line bundle body) is p q =
        let both = so around bundle is p.0 q.0 in (both.0, meets (bundle ++ around) body both.1 p.1 q.1)
    stmt_meets around (Parbegin line first arms) is p q = arms_meet around arms is p q

    pub meets : (around : Bundle) (block : Block) → Around around → EachHold P around block → EachHold Q around block
        → EachHold Meets around block
    meets around Skip is p q = tt
    meets around (Then s block) is p q = (stmt_meets around s is p.0 q.0, meets around block is p.1 q.1)

    arms_meet : (around : Bundle) (arms : Arms) → Around around → EachHoldAmong P around arms → EachHoldAmong Q around arms
        → EachHoldAmong Meets around arms
    arms_meet around NoArm is p q = tt
    arms_meet around (AndArm arm arms) is p q = (meets around arm is p.0 q.0, arms_meet around arms is p.1 q.1)

-- an order that is followed is followed of some of the resources
pub followed_of_some : (among order : List ℕ) (processes : List Process) → IsFollowed order processes
    → IsFollowedAmong among order processes
followed_of_some among order processes follows k d u =
    let body = (get_or processes k d).body in
    meets (ComesLater order) (ComesLater order) (ComesLaterAmong among order) (λ around. Unit {0})
    (λ around asked is p q. ((λ i e v j f w outer inner. p i e v j f w), tt)) [] body tt (follows k d u) (follows k d u)

-- every list is an order of no resources
pub followed_of_none : (among order : List ℕ) (processes : List Process) → ((r : ℕ) → IsAmong among r → ⊥)
    → IsFollowedAmong among order processes
followed_of_none among order processes none k d u =
    always (ComesLaterAmong among order) (λ around asked i e v j f w outer inner. absurd (none (get_or around j f).resource outer))
    [] (get_or processes k d).body

-- a number below another one is among those
pub in_range : (n r : ℕ) → r < n → IsAmong (range_with_len 0 n) r
in_range n r u =
    let many = length-range_with_len 0 n in
    let at : get_or (range_with_len 0 n) r 0 ≡ r = get_or-range_with_len 0 n r 0 u ∙ omega arith in (
      r,
      subst (λ (x : ℕ). slice_get (range_with_len 0 n) r ≡ Some x) at
          (slice_get-get_or (range_with_len 0 n) r 0 (omega (arith, u, many))),
    )

-- an order that is followed of all resources is followed
pub followed_of_all : (n : ℕ) (order : List ℕ) (processes : List Process) → AskBelow n processes
    → IsFollowedAmong (range_with_len 0 n) order processes → IsFollowed order processes
followed_of_all n order processes below follows k d u =
    let body = (get_or processes k d).body in
    meets (λ around asked. All (λ (pair : Pair). pair.resource < n) asked) (ComesLaterAmong (range_with_len 0 n) order)
    (ComesLater order) (λ around. All (λ (pair : Pair). pair.resource < n) around)
    (λ around asked is p q. (
      (λ i e v j f w. q i e v j f w (in_range n (get_or around j f).resource (is j f w)) (in_range n (get_or asked i e).resource (p i e v))),
      All-append (λ (pair : Pair). pair.resource < n) asked around p is,
    )) [] body (λ i e v. absurd (omega (arith, v))) (below k d u) (follows k d u)
