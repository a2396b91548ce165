use Rattle.std.proofs.Common.{map, refl, arith}
use Rattle.std.proofs.lemmas.List.{length-map}
use Rattle.pb_code.proofs.ListElements.{alike_all}
use Rattle.pb_code.proofs.same.same_names.Goals as goal

pub returns : goal.returns
returns c =
    let n = length-map c.args.names.now (λ name. name.items) in
    let m = length-map c.args.others.now (λ name. name.items) in (
      λ e. alike_all (map (λ name. name.items) c.args.names.now) (map (λ name. name.items) c.args.others.now)
          c.loop-i.i (omega (arith, n, m)) (omega (arith, n)) c.loop-i.invariant,
      λ e. refl,
    )
