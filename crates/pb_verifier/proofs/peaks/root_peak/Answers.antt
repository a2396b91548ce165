use Rattle.std.proofs.Common.{◌≡◌, ◌≢◌, ◌⊎◌, inl, inr, ◌+◌, ◌-◌, ◌≤◌, ◌<◌, ℕ, List, length, get_or, set, refl, ap}
use Rattle.std.proofs.Common.{◌∙◌, arith, length-set, get_or-set_same, get_or-set_other}
use Rattle.std.proofs.lemmas.Bool.{cases_eq}
use Rattle.pb_code.specs.View.{process_view}
use Rattle.pb_verifier.specs.declared.peaks.TheConstants.{OVER}
use Rattle.pb_verifier.specs.Places.{arms}
use Rattle.pb_verifier.proofs.PeakTables.{last_cut, last_more, last_none, replicate_read}
use Rattle.pb_verifier.proofs.peaks.root_peak.Goals as goal

pub loop-done-init : goal.loop-done-init
loop-done-init c = record {
  small = λ b. let e = replicate_read 64 b 0 in omega (arith, e);
  last = λ lie fork some. last_none (process_view c.args.code.now) lie fork some c.args.table.now _ refl (λ b. replicate_read 64 b 0);
}

pub arm_peak-requires-clause-cut : goal.arm_peak-requires-clause-cut
arm_peak-requires-clause-cut c = c.loop-done.invariant.small

set_small : (peaks : List ℕ) (arm new : ℕ) → arm < length peaks → ((b : ℕ) → get_or peaks b 0 ≤ OVER) → new ≤
    OVER → (b : ℕ) → get_or (set peaks arm new) b 0 ≤ OVER
set_small peaks arm new u small few b = go (cases_eq b arm)
  where
    go : (b ≡ arm) ⊎ (b ≢ arm) → get_or (set peaks arm new) b 0 ≤ OVER
    go (inl same) = let e : get_or (set peaks arm new) b 0 ≡ new = ap (λ (k : ℕ). get_or (set peaks arm new) k 0) same
        ∙ get_or-set_same peaks arm new 0 u in omega arith
    go (inr other) = let e : get_or (set peaks arm new) b 0 ≡ get_or peaks b 0 = get_or-set_other peaks arm b new 0 other in let v = small b in omega arith

pub loop-done-preserved : goal.loop-done-preserved
loop-done-preserved c =
    let n = c.arm_count.ensures in
    let m = c.arm_count-done-end.ensures in
    let arm : ℕ = c.arm_count.result - 1 - c.loop-done.done in
    let long = c.arm_count.array_long in
    let few = c.requires.small.some_arms.1 in
    let u : arm < length c.loop-done.peaks = omega arith in
    let e : arm + 1 + c.loop-done.done ≡ arms (process_view c.args.code.now) = omega arith in
    record {
      small = set_small c.loop-done.peaks arm c.arm_peak.result u c.loop-done.invariant.small c.arm_peak.ensures.small;
      last = λ lie fork some.
          let before = c.loop-done.invariant.last lie fork some in
          last_more (process_view c.args.code.now) lie fork some c.args.table.now c.loop-done.done arm
          c.arm_peak.result c.loop-done.peaks (set c.loop-done.peaks arm c.arm_peak.result) before e
          c.arm_peak.ensures.small
          (c.arm_peak.ensures.peak before.peak (last_cut (process_view c.args.code.now) lie fork some c.args.table.now
          c.loop-done.done arm c.loop-done.peaks before e))
          (length-set c.loop-done.peaks arm c.arm_peak.result ∙ long) (get_or-set_same c.loop-done.peaks arm
          c.arm_peak.result 0 u) (λ b other. get_or-set_other c.loop-done.peaks arm b c.arm_peak.result 0 other);
    }

pub returns : goal.returns
returns c =
    let m = c.arm_count-done-end.ensures in
    let some = c.requires.small.some_arms.0 in
    let last = c.loop-done.invariant.last c.requires.arms c.requires.forks some in
    (last.peak, last.cut 0 (omega arith) (omega arith), λ a u. last.are a (omega arith) u)
