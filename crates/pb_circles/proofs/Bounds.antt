-- A link speaks of processes and resources that are there.
use Rattle.std.proofs.Common.{◌≡◌, ⊎_elim, ℕ, ◌<◌, ◌≤◌, List, [], get_or, ap, arith}
use Rattle.std.proofs.lemmas.Bool.{cases_lt}
use Rattle.std.proofs.lemmas.List.{get_or_past}
use Rattle.std.proofs.lemmas.Option.{slice_get_within}
use Rattle.pb_base.specs.Banker.{BankerState, processes, resources, loan, row_of, IsWellFormed}
use Rattle.pb_base.specs.Steppers.{State}
use Rattle.pb_base.specs.declared.lending.Lending.{Lending}
use Rattle.pb_code.specs.Code.{CodeProcess}
use Rattle.pb_code.specs.Reached.{CodeReachesBy}
use Rattle.pb_verifier.specs.Verified.{VerifiedCode, IsVerified}
use Rattle.pb_verifier.specs.declared.fault.VerifyFault.TheVariants.{OutOfLimits}
use Rattle.pb_machine.proofs.EitherLending.{code_is_sound}
use Rattle.pb_circles.specs.Links.{IsLink, HasNamesOf, bank_at}
use Rattle.pb_circles.specs.declared.link.Link.{Link}

-- whoever holds something is there, and so is what he holds
pub holder_there : (s : BankerState) → IsWellFormed s → (p r : ℕ) → 0 < loan s p r → p < processes s
holder_there s good p r some = ⊎_elim (λ lt. lt) none (cases_lt p (processes s))
  where
    none : processes s ≤ p → p < processes s
    none past =
        let n = good.all_loans in
        let row : row_of s.loans p ≡ [] = get_or_past s.loans p [] (omega (arith, past, n)) in
        let e : loan s p r ≡ 0 = ap (λ (xs : List ℕ). get_or xs r 0) row in
        absurd (omega (arith, e, some))

pub held_there : (s : BankerState) → IsWellFormed s → (p r : ℕ) → 0 < loan s p r → r < resources s
held_there s good p r some = ⊎_elim (λ lt. lt) none (cases_lt r (resources s))
  where
    none : resources s ≤ r → r < resources s
    none past =
        let w = good.loan_width p (holder_there s good p r some) in
        let e : loan s p r ≡ 0 = get_or_past (row_of s.loans p) r 0 (omega (arith, past, w)) in
        absurd (omega (arith, e, some))

pub link_names : (lending : Lending) (v : VerifiedCode) → IsVerified v → (s : State CodeProcess) → CodeReachesBy lending v.code s
    → (link : Link) → IsLink v.code s link → HasNamesOf v.code.names link
link_names lending v verified s reached link is =
    let limits = verified.faultless OutOfLimits in
    let good = (code_is_sound lending v verified s reached).well_formed in
    let rows = limits.rows in
    let processes = limits.process_names.all in
    let resources = limits.resource_names.all in
    let asks = is.lacks.asks in
    let p = slice_get_within v.code.processes link.process asks.of asks.code_there in
    let r = held_there (bank_at v.code s) good link.holder link.resource is.holds in
    let h = holder_there (bank_at v.code s) good link.holder link.resource is.holds in
    record { process = omega (arith, p, processes); resource = omega (arith, r, resources); holder = omega (arith, h, rows, processes) }
