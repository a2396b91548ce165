-- Picks that are counted one by one.
use Rattle.std.proofs.Common.{◌≡◌, ℕ, zero, suc, ◌<◌, ◌≤◌, List, [], ◌∷◌, ◌++◌, length, replicate, take}
use Rattle.std.proofs.Common.{sym, ap, subst, ◌∙◌, arith}
use Rattle.std.specs.Prelude.{All}
use Rattle.std.proofs.lemmas.List.{length-take-le}
use Rattle.std.proofs.lemmas.List.Elements.{All-cons, All-head, All-nil, All-tail}
use Rattle.pb_base.specs.declared.pick.Pick.{Pick}
use Rattle.pb_history.specs.Replays.{spread}
use Rattle.pb_history.specs.declared.counted.CountedPick.{CountedPick}
use Rattle.pb_picks.specs.Counted.{AreApart}
use Rattle.pb_picks.proofs.CountedOnce.{apart_rest, some_first}
use Rattle.pb_search_engine.specs.OutcomeLines.{AreCounted}

-- how many they are
pub counted_few : (picks : List Pick) (i : ℕ) (counted : List CountedPick) → i ≤ length picks → spread counted ≡ take i picks
    → length (spread counted) ≡ i
counted_few picks i counted within same = ap (λ (ps : List Pick). length ps) same ∙ length-take-le i picks within

pub all_right : {X : Type 0} (P : X → Type 0) (xs ys : List X) → All P (xs ++ ys) → All P ys
all_right P [] ys h = h
all_right P (x ∷ xs) ys h = all_right P xs ys (All-tail P x (xs ++ ys) h)

all_first : (P : Pick → Type 0) (n : ℕ) (pick : Pick) (picks : List Pick) → 0 < n → All P (replicate n pick ++ picks) → P pick
all_first P zero pick picks some h = absurd (omega (arith, some))
all_first P (suc n) pick picks some h = All-head P pick (replicate n pick ++ picks) h

-- what holds of all picks holds of those that are counted
all_counted : (P : Pick → Type 0) (counted : List CountedPick) → AreApart counted → All P (spread counted) → All (λ c. P c.pick) counted
all_counted P [] apart h = All-nil (λ (c : CountedPick). P c.pick)
all_counted P (c ∷ counted) apart h =
    All-cons (λ (d : CountedPick). P d.pick) c counted
    (all_first P c.count c.pick (spread counted) (some_first c counted apart) h)
    (all_counted P counted (apart_rest c counted apart) (all_right P (replicate c.count c.pick) (spread counted) h))

pub counted_too : (P : Pick → Type 0) (picks : List Pick) (counted : List CountedPick) → AreCounted picks counted → All P picks
    → All (λ c. P c.pick) counted
counted_too P picks counted are h = all_counted P counted are.apart (subst (All P) (sym are.same) h)
