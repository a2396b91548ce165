-- The greatest amounts of each process are within its claims, or one of them is over its claim.
use Rattle.std.proofs.Common.{◌≡◌, ◌⊎◌, inl, inr, ℕ, zero, suc, ◌<◌, ◌≤◌, List, length, Option, Some, None, refl, sym}
use Rattle.std.proofs.Common.{ap, ◌∙◌, subst, arith}
use Rattle.std.specs.Prelude.{slice_get}
use Rattle.std.proofs.lemmas.Bool.{cases_lt}
use Rattle.std.proofs.lemmas.Option.{slice_get_within}
use Rattle.pb_base.specs.Banker.{cell}
use Rattle.pb_base.specs.Steppers.{Bundle}
use Rattle.pb_code.specs.Code.{ProcessCode}
use Rattle.pb_code.specs.Whole.{Code}
use Rattle.pb_verifier.specs.declared.fault.VerifyFault.{VerifyFault}
use Rattle.pb_verifier.specs.declared.fault.VerifyFault.TheVariants.{NoHoldings, NoMemory, OutOfLimits, OverClaim}
use Rattle.pb_verifier.specs.declared.fault.VerifyFault.TheVariants.{WrongArms, WrongForks}
use Rattle.pb_verifier.specs.Behaviour.{PeaksExist}
use Rattle.pb_verifier.specs.Faults.{AreHoldings, ArePeaks, HasArms, HasForks, HasPeakOver, HasPeakWithin}
use Rattle.pb_verifier.specs.Limits.{IsSmallProcess}
use Rattle.pb_verifier.specs.Verified.{HasPeaksWithin, IsFaultless, IsFreeOf, IsRefusedFor, SomePeakIsOver, turn_of}
use Rattle.pb_verifier.proofs.SoundBehaviour.{peaks_decide}
use Rattle.pb_verifier.proofs.ReachedPlaces.{peaks_of}
use Rattle.pb_verifier.proofs.UniqueFacts.{least_of}

pub peaks_exist : (code : Code) → PeaksExist code
peaks_exist code free p r process held at holdings = (
  peaks.0,
  peaks.1,
  λ other others a u.
      let up = least_of process lie fork small.some_arms.0 held r peaks.0 other peaks.1.1 others.0 a u in
      let down = least_of process lie fork small.some_arms.0 held r other peaks.0 others.1 peaks.1.0 a u in
      omega (arith, up, down),
)
  where
    lie : HasArms process
    lie = free WrongArms (omega arith) p process at

    fork : HasForks process
    fork = free WrongForks (omega arith) p process at

    small : IsSmallProcess process
    small = (free OutOfLimits (omega arith)).each p process at

    peaks : (peak : ℕ → ℕ) × ArePeaks process held r peak
    peaks = peaks_of process lie fork small held r

module _ (code : Code) (free : (fault : VerifyFault) → turn_of fault < turn_of OverClaim → IsFreeOf fault code) where
  abbrev IsWithinAt : (p r : ℕ) → ProcessCode → Type 0
  IsWithinAt p r process = HasPeakWithin process r (cell code.claims p r)

  -- one peak is within its claim or over it
  one_peak : (p r : ℕ) (process : ProcessCode) → slice_get code.processes p ≡ Some process → HasPeakWithin process r
      (cell code.claims p r) ⊎ HasPeakOver process r (cell code.claims p r)
  one_peak p r process at =
      let holdings = free NoHoldings (omega arith) p process at in
      let peaks = peaks_exist code free p r process holdings.0 at holdings.1 in
      go holdings.0 holdings.1 peaks.0 peaks.1 (cases_lt (cell code.claims p r) (peaks.0 0))
    where
      go : (held : ℕ → List Bundle) → AreHoldings process held → (peak : ℕ → ℕ) → ArePeaks process held r peak → (cell
          code.claims p r < peak 0) ⊎ (peak 0 ≤ cell code.claims p r)
          → HasPeakWithin process r (cell code.claims p r) ⊎ HasPeakOver process r (cell code.claims p r)
      go held holdings peak are (inl over) = inr (held, peak, holdings, are, over)
      go held holdings peak are (inr within) = inl (held, peak, holdings, are, within)

  -- so for the first resources of a process
  peaks_of_process : (p : ℕ) (process : ProcessCode) → slice_get code.processes p ≡ Some process → (m : ℕ) → m ≤ length code.capital
      → ((r : ℕ) → r < m → IsWithinAt p r process) ⊎ SomePeakIsOver code
  peaks_of_process p process at zero u = inl (λ r v. absurd (omega arith))
  peaks_of_process p process at (suc m) u = go (peaks_of_process p process at m (omega (arith, u))) (one_peak p m process at)
    where
      go : ((r : ℕ) → r < m → IsWithinAt p r process) ⊎ SomePeakIsOver code → IsWithinAt p m process ⊎ HasPeakOver process m (cell code.claims p m)
          → ((r : ℕ) → r < suc m → IsWithinAt p r process) ⊎ SomePeakIsOver code
      go (inr over) one = inr over
      go (inl before) (inr over) = inr (p, m, process, at, omega (arith, u), over)
      go (inl before) (inl here) = inl (λ r v. last r v (cases_lt r m))
        where
          last : (r : ℕ) → r < suc m → (r < m) ⊎ (m ≤ r) → IsWithinAt p r process
          last r v (inl w) = before r w
          last r v (inr w) = let e : m ≡ r = omega (arith, v, w) in subst (λ (k : ℕ). IsWithinAt p k process) e here

  -- so for the first processes
  peaks_before : (n : ℕ) → ((p r : ℕ) (process : ProcessCode) → p < n → slice_get code.processes p ≡ Some process → r
      < length code.capital → IsWithinAt p r process) ⊎ SomePeakIsOver code
  peaks_before zero = inl (λ p r process v. absurd (omega arith))
  peaks_before (suc n) = go (peaks_before n) (slice_get code.processes n) refl
    where
      go : ((p r : ℕ) (process : ProcessCode) → p < n → slice_get code.processes p ≡ Some process → r < length
          code.capital → IsWithinAt p r process) ⊎ SomePeakIsOver code
          → (o : Option ProcessCode) → slice_get code.processes n ≡ o
          → ((p r : ℕ) (process : ProcessCode) → p < suc n → slice_get code.processes p ≡ Some process → r < length
          code.capital → IsWithinAt p r process) ⊎ SomePeakIsOver code
      go (inr over) o e = inr over
      go (inl before) o e = more o e
        where
          last : ((process : ProcessCode) → slice_get code.processes n ≡ Some process → (r : ℕ) → r < length code.capital → IsWithinAt n r process)
              → (p r : ℕ) (process : ProcessCode) → p < suc n → slice_get code.processes p ≡ Some process → r < length
              code.capital → (p < n) ⊎ (n ≤ p) → IsWithinAt p r process
          last here p r process v at w (inl less) = before p r process less at w
          last here p r process v at w (inr equal) =
              let e : n ≡ p = omega (arith, v, equal) in
              subst (λ (k : ℕ). IsWithinAt k r process) e (here process (ap (slice_get code.processes) e ∙ at) r w)

          more : (o : Option ProcessCode) → slice_get code.processes n ≡ o
              → ((p r : ℕ) (process : ProcessCode) → p < suc n → slice_get code.processes p ≡ Some process → r <
              length code.capital → IsWithinAt p r process) ⊎ SomePeakIsOver code
          more None e = inl (λ p r process v at w. last (λ process here. let wrong : None ≡ Some process = sym e ∙
              here in cc) p r process v at w (cases_lt p n))
          more (Some found) e = one (peaks_of_process n found e (length code.capital) (omega arith))
            where
              one : ((r : ℕ) → r < length code.capital → IsWithinAt n r found) ⊎ SomePeakIsOver code
                  → ((p r : ℕ) (process : ProcessCode) → p < suc n → slice_get code.processes p ≡ Some process → r <
                  length code.capital → IsWithinAt p r process) ⊎ SomePeakIsOver code
              one (inr over) = inr over
              one (inl here) = inl (λ p r process v at w. last (λ process there r. subst (λ (k : ProcessCode). r <
                  length code.capital → IsWithinAt n r k) (let s : Some found ≡ Some process = sym e ∙ there in let is
                  : found ≡ process = cc in is) (here r)) p r process v at w (cases_lt p n))

  all_peaks : HasPeaksWithin code ⊎ SomePeakIsOver code
  all_peaks = go (peaks_before (length code.processes))
    where
      go : ((p r : ℕ) (process : ProcessCode) → p < length code.processes → slice_get code.processes p ≡ Some process
          → r < length code.capital → IsWithinAt p r process) ⊎ SomePeakIsOver code → HasPeaksWithin code ⊎
          SomePeakIsOver code
      go (inr over) = inr over
      go (inl within) = inl (λ p r process at w. within p r process (slice_get_within code.processes p process at) at w)

  -- if no peak fits some is over its claim
  pub some_over : (IsFreeOf OverClaim code → ⊥) → SomePeakIsOver code
  some_over none = go all_peaks
    where
      go : HasPeaksWithin code ⊎ SomePeakIsOver code → SomePeakIsOver code
      go (inr over) = over
      go (inl within) = absurd (none (λ p r process at w.
          let x = within p r process at w in
          (peaks_decide code free p r (cell code.claims p r) process x.0 x.1 at x.2 x.3).1 x.4))

  -- if each peak fits each is within its claim
  pub all_within : IsFreeOf OverClaim code → HasPeaksWithin code
  all_within fits = go all_peaks
    where
      go : HasPeaksWithin code ⊎ SomePeakIsOver code → HasPeaksWithin code
      go (inl within) = within
      go (inr (p, r, process, at, w, x)) =
          let least = (peaks_decide code free p r (cell code.claims p r) process x.0 x.1 at x.2 x.3).0 (fits p r process at w) in
          let over = x.4 in
          absurd (omega (arith, least, over))

pub annotated_within : (code : Code) → IsFaultless code → HasPeaksWithin code
annotated_within code faultless = all_within code (λ fault _. faultless fault) (faultless OverClaim)

-- the refusal for a peak over its claim says that one is
pub refused_over : (code : Code) (fault : VerifyFault) → IsRefusedFor code fault → fault ≡ OverClaim → SomePeakIsOver code
refused_over code fault refused is =
    let first = refused (λ memory. let wrong : OverClaim ≡ NoMemory = sym is ∙ memory in cc) in
    some_over code (λ earlier u. first.1 earlier (subst (λ (f : VerifyFault). turn_of earlier < turn_of f) (sym is)
    u)) (subst (λ (f : VerifyFault). IsFreeOf f code → ⊥) is first.0)
