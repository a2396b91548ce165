use Rattle.std.proofs.Common.{◌≡◌, ◌⊎◌, ◌↔◌, ◌≤◌, ◌<◌, ℕ, true, false, get_or, length, subst, arith, rules}
use Rattle.pb_verifier.proofs.forks.mark.Goals as goal

pub returns-clause-marked : goal.returns-clause-marked
returns-clause-marked c =
    let e = c.loop-arm.auto.arm-end in
    let rise = c.requires.rise in
    let over : c.loop-arm.arm ≡ c.args.end = omega arith in
    λ _. subst
    (λ (n : ℕ). (b : ℕ) → b < length c.args.marks.now → ((get_or c.loop-arm.marks b false ≡ true) ↔ ((get_or
    c.args.marks.now b false ≡ true) ⊎ ((c.args.first ≤ b) × (b < n)))))
    over c.loop-arm.invariant.marked

pub loop-arm-preserved : goal.loop-arm-preserved
loop-arm-preserved c = search rules fits 100
