use Rattle.std.proofs.Common.{◌+◌, ◌<◌, ◌≤◌, arith, ltb-true}
use Rattle.std.proofs.lemmas.Bool.{leb-true, le-leb}
use Rattle.pb_verifier.proofs.ForkTables.{forked_by}
use Rattle.pb_verifier.proofs.forks.names_later.Goals as goal

pub returns-then-arm-first : goal.returns-then-arm-first
returns-then-arm-first c = λ bundles.
    let f = forked_by bundles c.args.instr c.in-Fork.first c.in-Fork.count (λ first count. (c.args.arm < first) × (first + count ≤ c.args.arms)) c.in-Fork.is in
    (λ t. f.0 (c.if-arm-first.true, leb-true _ _ t), λ all. le-leb _ _ (f.1 all).1)

pub returns-else-arm-first : goal.returns-else-arm-first
returns-else-arm-first c = λ bundles.
    let f = forked_by bundles c.args.instr c.in-Fork.first c.in-Fork.count (λ first count. (c.args.arm < first) × (first + count ≤ c.args.arms)) c.in-Fork.is in
    let not_less = c.if-arm-first.false in
    (λ t. let u : c.args.arm < c.in-Fork.first = ltb-true _ _ t in absurd (omega arith), λ all. let u = (f.1 all).0 in absurd (omega arith))
