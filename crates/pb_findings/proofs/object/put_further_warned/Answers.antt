use Rattle.std.proofs.Common.{◌≡◌, ◌+◌, ◌++◌, ◌∷◌, [], List, arith, subst, sym, take}
use Rattle.std.specs.List.{flat_map}
use Rattle.std.proofs.lemmas.List.{take_more}
use Rattle.pb_findings.specs.Objects.{warned_text}
use Rattle.pb_findings.specs.Strings.{further}
use Rattle.pb_findings.specs.declared.warned.Warned.{Warned}
use Rattle.pb_findings.proofs.ObjectLemmas.{one_further}
use Rattle.pb_findings.proofs.object.put_further_warned.Goals as goal

pub loop-one-preserved : goal.loop-one-preserved
loop-one-preserved c =
    let spots = c.args.warned.now in
    let i = c.loop-one.one-index in
    let spot : Warned = c.one-item.result in
    let test = c.loop-one-test.true in
    let is = c.one-item.is in
    let one = take_more spots i spot test in
    let taken : take (i + 1) spots ≡ take i spots ++ spot ∷ [] = grind (arith, one, is) in
    subst (λ (those : List Warned). c.put_warned.new.out.items ≡ c.args.out.now.items ++ flat_map (further warned_text) those) (sym taken)
    (one_further warned_text c.args.out.now.items c.loop-one.out.items c.put.new.out.items c.put_warned.new.out.items
    (take i spots) spot c.loop-one.invariant c.in_ok-put.ensures c.in_ok-put_warned.ensures)
