use Rattle.std.proofs.Common.{◌≡◌, ◌≤◌, ℕ, List, arith, subst, rules}
use Rattle.std.specs.Fmt.{decimal}
use Rattle.pb_picks.specs.PickLines.{Lacks}
use Rattle.pb_picks.proofs.PickParts.{never_lacks, parts_are, same_number}
use Rattle.pb_picks.proofs.reader.read_arm_and_count.Goals.{then-arm-arms-via-then-arm-arms}
use Rattle.pb_picks.proofs.reader.read_arm_and_count.Goals.{then-arm-arms-via-else-arm-arms+then-count-eq0}
use Rattle.pb_picks.proofs.reader.read_arm_and_count.Goals as goal

pub returns-in_err-arm : goal.returns-in_err-arm
returns-in_err-arm c = rw c.from_residual.ensures (λ arm count within some few e.
    never_lacks 32 (decimal arm) (decimal count) (subst (λ (t : List ℕ). Lacks 32 t) e c.in_err-arm.ensures))

pub returns-in_err-arm-2 : goal.returns-in_err-arm-2
returns-in_err-arm-2 c = rw c.from_residual-in_err-arm-2.ensures (λ arm count within some few e.
    let small : arm ≤ 10000000 = omega arith in
    let p = parts_are c.args.text.now c.in_ok-arm.arm.now c.in_ok-arm.count.now arm count small c.in_ok-arm.ensures.1 c.in_ok-arm.ensures.0 e in
    c.in_err-arm-2.ensures arm small p.0)

pub returns-in_err-count : goal.returns-in_err-count
returns-in_err-count c = rw c.from_residual-in_err-count.ensures (λ arm count within some few e.
    let small : arm ≤ 10000000 = omega arith in
    let p = parts_are c.args.text.now c.in_ok-arm.arm.now c.in_ok-arm.count.now arm count small c.in_ok-arm.ensures.1 c.in_ok-arm.ensures.0 e in
    c.in_err-count.ensures count few p.1)

pub returns-then-arm-arms : goal.returns-then-arm-arms
returns-then-arm-arms c = λ arm count within some few e.
    let small : arm ≤ 10000000 = omega arith in
    let p = parts_are c.args.text.now c.in_ok-arm.arm.now c.in_ok-arm.count.now arm count small c.in_ok-arm.ensures.1 c.in_ok-arm.ensures.0 e in
    let i : c.in_ok-arm-2.arm ≡ arm = same_number c.in_ok-arm.arm.now c.in_ok-arm-2.arm arm c.in_ok-arm-2.ensures.0 small c.in_ok-arm-2.ensures.1 p.0 in
    let j : c.in_ok-count.count ≡ count = same_number c.in_ok-arm.count.now c.in_ok-count.count count c.in_ok-count.ensures.0 few c.in_ok-count.ensures.1 p.1 in
    elim c.then-arm-arms.branch [
      | then-arm-arms-via-then-arm-arms w ↦ omega (arith, i, w.if-arm-arms.true)
      | then-arm-arms-via-else-arm-arms+then-count-eq0 w ↦ omega (arith, j, w.if-count-eq0.true)
    ]

pub returns : goal.returns
returns c = search rules fits 100
