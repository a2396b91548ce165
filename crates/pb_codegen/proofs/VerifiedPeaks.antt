-- The arms of a process are low, and those of each parbegin have the peaks of the one pass.
use Rattle.std.proofs.Common.{◌≡◌, ℕ, zero, suc, ◌+◌, ◌<◌, ◌≤◌, List, [], ◌∷◌, ◌++◌, length, Some, refl, sym}
use Rattle.std.proofs.Common.{ap, subst, arith}
use Rattle.std.specs.Prelude.{slice_get}
use Rattle.pb_names.specs.Program.{Stmt, Assign, Print, If, While, Hold, Parbegin, Block, Skip, Then, Arms}
use Rattle.pb_names.specs.Program.{NoArm}
use Rattle.pb_names.specs.Program.{AndArm, count, arms_list, arms_in_stmt, arms_in, arms_in_arms}
use Rattle.pb_names.specs.Program.{IsNumberedStmt, IsNumbered, AreNumbered}
use Rattle.pb_names.specs.Claims.{peak, arms_peak}
use Rattle.pb_verifier.specs.Faults.{sum_of_arms}
use Rattle.pb_codegen.proofs.VerifiedNotes.{In, in_front, in_back, in_all}
use Rattle.pb_codegen.proofs.VerifiedBounds.{KnownStmt, Known}
use Rattle.pb_codegen.proofs.VerifiedHeights.{stmt_height, height, arms_height}
use Rattle.pb_codegen.proofs.VerifiedArmRanges.{block_at}
use Rattle.pb_names.proofs.NumberedLists.{length-arms_list}

block_there : (all : List Block) (a : ℕ) (arm : Block) → slice_get all a ≡ Some arm → block_at all a ≡ arm
block_there [] a arm h = cc
block_there (b ∷ all) zero arm h = let e : Some b ≡ Some arm = h in cc
block_there (b ∷ all) (suc a) arm h = block_there all a arm h

module _ (r : ℕ) (all : List Block) where
  -- the peak of an arm by the one pass
  abbrev pub most : ℕ → ℕ
  most a = peak r (block_at all a)

  arms_sum : (first : ℕ) (arms : Arms) → In all first (arms_list arms)
      → sum_of_arms most first (count arms) ≡ arms_peak r arms
  arms_sum first NoArm h = refl
  arms_sum first (AndArm arm arms) h =
      let here : most first ≡ peak r arm = ap (peak r) (block_there all first arm h.0) in
      let rest = arms_sum (first + 1) arms h.1 in
      omega (arith, here, rest)

  mutual
    known_stmt : (n : ℕ) (s : Stmt) → IsNumberedStmt n s → In all n (arms_in_stmt s) → KnownStmt r most s
    known_stmt n (Assign line x e) num h = tt
    known_stmt n (Print line e) num h = tt
    known_stmt n (If line e a b) num h = (
      known n a num.0 (in_front all n (arms_in a) (arms_in b) h),
      known (n + length (arms_in a)) b num.1 (in_back all n (arms_in a) (arms_in b) h),
    )
    known_stmt n (While line e body) num h = known n body num h
    known_stmt n (Hold line bundle body) num h = known n body num h
    known_stmt n (Parbegin line first arms) num h =
        subst (λ k. sum_of_arms most k (count arms) ≡ arms_peak r arms) (sym num.0)
        (arms_sum n arms (in_front all n (arms_list arms) (arms_in_arms arms) h))

    known : (n : ℕ) (block : Block) → IsNumbered n block → In all n (arms_in block) → Known r most block
    known n Skip num h = tt
    known n (Then s block) num h = (
      known_stmt n s num.0 (in_front all n (arms_in_stmt s) (arms_in block) h),
      known (n + length (arms_in_stmt s)) block num.1 (in_back all n (arms_in_stmt s) (arms_in block) h),
    )

  -- each block of a list is known and low
  abbrev pub AllKnown : List Block → Type 0
  AllKnown [] = Unit {0}
  AllKnown (b ∷ bs) = (Known r most b × (height b ≤ 255)) × AllKnown bs

  known_append : (a b : List Block) → AllKnown a → AllKnown b → AllKnown (a ++ b)
  known_append [] b h g = g
  known_append (x ∷ a) b h g = (h.0, known_append a b h.1 g)

  mutual
    inner_stmt : (n : ℕ) (s : Stmt) → IsNumberedStmt n s → In all n (arms_in_stmt s) → stmt_height s ≤ 255
        → AllKnown (arms_in_stmt s)
    inner_stmt n (Assign line x e) num h u = tt
    inner_stmt n (Print line e) num h u = tt
    inner_stmt n (If line e a b) num h u =
        known_append (arms_in a) (arms_in b)
        (inner n a num.0 (in_front all n (arms_in a) (arms_in b) h) (omega (arith, u)))
        (inner (n + length (arms_in a)) b num.1 (in_back all n (arms_in a) (arms_in b) h) (omega (arith, u)))
    inner_stmt n (While line e body) num h u = inner n body num h (omega (arith, u))
    inner_stmt n (Hold line bundle body) num h u = inner n body num h (omega (arith, u))
    inner_stmt n (Parbegin line first arms) num h u =
        let back =
        subst (λ k. In all (n + k) (arms_in_arms arms)) (length-arms_list arms)
        (in_back all n (arms_list arms) (arms_in_arms arms) h)
        in
        let w = inner_arms (n + count arms) arms num.1 back (omega (arith, u)) in
        known_append (arms_list arms) (arms_in_arms arms) w.0 w.1

    inner : (n : ℕ) (block : Block) → IsNumbered n block → In all n (arms_in block) → height block ≤ 255
        → AllKnown (arms_in block)
    inner n Skip num h u = tt
    inner n (Then s block) num h u =
        known_append (arms_in_stmt s) (arms_in block)
        (inner_stmt n s num.0 (in_front all n (arms_in_stmt s) (arms_in block) h) (omega (arith, u)))
        (inner (n + length (arms_in_stmt s)) block num.1 (in_back all n (arms_in_stmt s) (arms_in block) h) (omega (arith, u)))

    inner_arms : (m : ℕ) (arms : Arms) → AreNumbered m arms → In all m (arms_in_arms arms)
        → arms_height arms ≤ 255 → AllKnown (arms_list arms) × AllKnown (arms_in_arms arms)
    inner_arms m NoArm num h u = (tt, tt)
    inner_arms m (AndArm arm arms) num h u =
        let front = in_front all m (arms_in arm) (arms_in_arms arms) h in
        let rest =
        inner_arms (m + length (arms_in arm)) arms num.1 (in_back all m (arms_in arm) (arms_in_arms arms) h)
        (omega (arith, u))
        in (
          ((known m arm num.0 front, omega (arith, u)), rest.0),
          known_append (arms_in arm) (arms_in_arms arms) (inner m arm num.0 front (omega (arith, u))) rest.1,
        )

  pub known_at : (bs : List Block) (a : ℕ) → a < length bs → AllKnown bs
      → Known r most (block_at bs a) × (height (block_at bs a) ≤ 255)
  known_at [] a u h = elim (let w : ⊥ = omega (arith, u) in w) [ ]
  known_at (b ∷ bs) zero u h = h.0
  known_at (b ∷ bs) (suc a) u h = known_at bs a (omega (arith, u)) h.1

-- the arms of a process are known and low
pub all_known : (r : ℕ) (body : Block) → IsNumbered 1 body → height body ≤ 255
    → AllKnown r (body ∷ arms_in body) (body ∷ arms_in body)
all_known r body num low =
    let all = body ∷ arms_in body in
    let inside : In all 1 (arms_in body) = (in_all [] all).1 in
    ((known r all 1 body num inside, low), inner r all 1 body num inside low)
