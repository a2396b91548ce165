use Rattle.std.proofs.Common.{◌≡◌, append-nil, arith, length, map, sym}
use Rattle.std.proofs.lemmas.Grind.{common_steps}
use Rattle.pb_warnings.specs.Warnings.{warning}
use Rattle.pb_warnings.proofs.Walks.{one_is_lone, others_are_not}
use Rattle.pb_warnings.proofs.arms.add_lone.Goals as goal

pub returns-in_ok-push : goal.returns-in_ok-push
returns-in_ok-push g c =
    let n = c.len.ensures in
    let t = c.if-len-eq1.true in
    let one : length c.args.arms.now.items ≡ 1 = omega (arith, n, t) in
    let lone = one_is_lone c.args.line c.args.arms.now.items one in
    grind (arith, common_steps, lone)

pub returns-else-len-eq1 : goal.returns-else-len-eq1
returns-else-len-eq1 g c =
    let n = c.len.ensures in
    let f = c.if-len-eq1.false in
    rw (others_are_not c.args.line c.args.arms.now.items (λ one. omega (arith, n, f, one))) (sym (append-nil (map warning c.args.out.now.items)))
