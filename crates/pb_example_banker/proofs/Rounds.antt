-- Requests that are served one after another.
use Rattle.std.proofs.Common.{◌≡◌, ℕ, ◌+◌, ◌<◌, List, get_or, [], ◌∷◌, ◌++◌, take, length, Some, refl, ap, ◌∙◌, inr}
use Rattle.std.proofs.Common.{arith}
use Rattle.std.proofs.lemmas.List.{take_more}
use Rattle.std.proofs.lemmas.List.Elements.{All-from_get_or}
use Rattle.std.proofs.lemmas.List.FromFn.{length-range_with_len, get_or-range_with_len}
use Rattle.std.proofs.lemmas.List.Sorted.{All-permutation}
use Rattle.std.proofs.lemmas.Option.{get_or_from_slice_get, slice_get_within}
use Rattle.std.specs.Prelude.{All, slice_get}
use Rattle.pb_base.specs.Banker.{BankerState, IsAllowed, IsLeastFirst, IsOverClaim, everyone, processes, with_loan}
use Rattle.pb_banker.specs.Asking.{Answers, state_after}
use Rattle.pb_banker.specs.declared.answer.Answer.{Answer}
use Rattle.pb_banker.specs.declared.answer.Answer.TheVariants.{Granted, NotNow, OverClaim}
use Rattle.pb_example_banker.specs.declared.Request.{Request}
use Rattle.pb_example_banker.specs.Serving.{IsAnswer, IsKnown, Serves, asked, grants, waits, refuses}

-- ---- one request

pub answered : (s next : BankerState) (r : Request) (answer : Answer) → IsKnown s r → Answers s r.job (asked r) answer
    → next ≡ state_after s r.job (asked r) answer → IsAnswer s r answer next
answered s next r Granted known answers is = (known, answers.granted.0 refl, is)
answered s next r NotNow known answers is = (
  known,
  λ over. let both : NotNow ≡ OverClaim = answers.over_claim.1 over in cc,
  λ allowed. let both : NotNow ≡ Granted = answers.granted.1 allowed in cc,
  is,
)
answered s next r OverClaim known answers is = (inr (answers.over_claim.0 refl), is)

-- ---- one request more

one_behind : (requests : List Request) (i : ℕ) (r : Request) → slice_get requests i ≡ Some r
    → take (i + 1) requests ≡ take i requests ++ r ∷ []
one_behind requests i r there =
    take_more requests i r (slice_get_within requests i r there)
    ∙ ap (λ (x : Request). take i requests ++ x ∷ []) (get_or_from_slice_get requests i r r there)

module _ (first s next : BankerState) (requests granted waiting hopeless g w h : List Request) (i : ℕ) (r : Request)
    (there : slice_get requests i ≡ Some r) (before : Serves first (take i requests) granted waiting hopeless s) where
  same_lists : (granted' waiting' hopeless' : List Request) → g ≡ granted' → w ≡ waiting' → h ≡ hopeless'
      → Serves first (take i requests ++ r ∷ []) granted' waiting' hopeless' next → Serves first (take (i + 1) requests) g w h next
  same_lists granted' waiting' hopeless' g_is w_is h_is serves =
      rw (one_behind requests i r there) (rw g_is (rw w_is (rw h_is serves)))

  pub one_granted : IsAnswer s r Granted next → g ≡ granted ++ r ∷ [] → w ≡ waiting → h ≡ hopeless
      → Serves first (take (i + 1) requests) g w h next
  one_granted (known, allowed, is) g_is w_is h_is =
      same_lists (granted ++ r ∷ []) waiting hopeless g_is w_is h_is
      (rw is (grants (take i requests) granted waiting hopeless r s before known allowed))

  pub one_waits : IsAnswer s r NotNow next → g ≡ granted → w ≡ waiting ++ r ∷ [] → h ≡ hopeless
      → Serves first (take (i + 1) requests) g w h next
  one_waits (known, not_over, not_allowed, is) g_is w_is h_is =
      same_lists granted (waiting ++ r ∷ []) hopeless g_is w_is h_is
      (rw is (waits (take i requests) granted waiting hopeless r s before known not_over not_allowed))

  pub one_hopeless : IsAnswer s r OverClaim next → g ≡ granted → w ≡ waiting → h ≡ hopeless ++ r ∷ []
      → Serves first (take (i + 1) requests) g w h next
  one_hopeless (is_hopeless, is) g_is w_is h_is =
      same_lists granted waiting (hopeless ++ r ∷ []) g_is w_is h_is
      (rw is (refuses (take i requests) granted waiting hopeless r s before is_hopeless))

-- ---- the order of the jobs

-- a finishing order names processes that are there
pub order_is_within : (s : BankerState) (order : List ℕ) → IsLeastFirst s order → All (λ p. p < processes s) order
order_is_within s order is =
    All-permutation (λ p. p < processes s) (everyone s) order is.finishes.everyone
    (All-from_get_or (λ p. p < processes s) (everyone s) 0 below)
  where
    below : (i : ℕ) → i < length (everyone s) → get_or (everyone s) i 0 < processes s
    below i less =
        let all = length-range_with_len 0 (processes s) in
        let at = get_or-range_with_len 0 (processes s) i 0 (omega (arith, less, all)) in
        omega (arith, less, all, at)
