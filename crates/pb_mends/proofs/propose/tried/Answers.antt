use Rattle.std.proofs.Common.{All, subst, sym}
use Rattle.std.proofs.lemmas.List.Elements.{All-push}
use Rattle.pb_mends.specs.Mends.{Mends, edit_of}
use Rattle.pb_mends.specs.declared.mend.Mend.{Mend}
use Rattle.pb_mends.proofs.propose.tried.Goals as goal

pub loop-mend-preserved-in-Continue-branch-2 : goal.loop-mend-preserved-in-Continue-branch-2
loop-mend-preserved-in-Continue-branch-2 c =
    let P = λ (mend : Mend). Mends c.args.text.now (edit_of mend) in
    subst (All P) (sym c.in_ok-push.ensures.items)
    (All-push P c.loop-mend.out.items c.in-Some.mend c.loop-mend.invariant (c.in_ok-mends_it.ensures c.if-branch.true))
