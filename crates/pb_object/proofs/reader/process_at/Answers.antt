use Rattle.std.proofs.Common.{◌≤◌, arith, length, map, rules}
use Rattle.std.proofs.lemmas.Grind.{common_steps}
use Rattle.std.proofs.lemmas.List.{length-map}
use Rattle.pb_object.proofs.ObjectLaws.{integers_part, few_integers}
use Rattle.pb_object.proofs.reader.process_at.Goals as goal

pub overflow_cast-code : goal.overflow_cast-code
overflow_cast-code c =
    let names = map (λ name. name.items) c.in_ok-integers.integers.items in
    let good = (integers_part c.args.format).takes c.in_ok-name.rest.now names c.in_ok-integers.rest.now c.in_ok-integers.ensures in
    let few : length names ≤ 64 = few_integers c.args.format names good.1 in
    let len = c.len.ensures in
    let small : length c.in_ok-integers.integers.items ≤ 64 = simp length-map at few in
    omega (arith, len, small)

pub from_residual-requires : goal.from_residual-requires
from_residual-requires c κs = grind (arith, rules, common_steps)

pub drop-name-requires : goal.drop-name-requires
drop-name-requires c κs = grind (arith, rules, common_steps)

pub drop-name-requires-in_err-arms : goal.drop-name-requires-in_err-arms
drop-name-requires-in_err-arms c κs = grind (arith, rules, common_steps)

pub drop-name-requires-in_err-claims : goal.drop-name-requires-in_err-claims
drop-name-requires-in_err-claims c κs = grind (arith, rules, common_steps)

pub drop-name-requires-in_err-entries : goal.drop-name-requires-in_err-entries
drop-name-requires-in_err-entries c κs = grind (arith, rules, common_steps)

pub drop-name-requires-in_err-count : goal.drop-name-requires-in_err-count
drop-name-requires-in_err-count c κs = grind (arith, rules, common_steps)

pub drop-name-requires-in-Err : goal.drop-name-requires-in-Err
drop-name-requires-in-Err c κs = grind (arith, rules, common_steps)

pub returns-clause-fit : goal.returns-clause-fit
returns-clause-fit c = grind (arith, common_steps)
