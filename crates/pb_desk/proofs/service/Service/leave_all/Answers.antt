use Rattle.std.proofs.Common.{◌≡◌, ℕ, suc, ◌+◌, ◌++◌, List, [], sym, ap, ◌∙◌, subst, append-nil, append_assoc, arith}
use Rattle.pb_desk.specs.Applies.{Leaves, nothing, one_more}
use Rattle.pb_desk.specs.declared.told.Told.{Told}
use Rattle.pb_desk.proofs.service.Service.leave_all.Goals as goal

pub loop-p-init : goal.loop-p-init
loop-p-init c = ([], nothing, sym (append-nil c.args.out.now.items))

pub loop-p-preserved : goal.loop-p-preserved
loop-p-preserved c =
    let before = c.loop-p.invariant in
    let one = c.in_ok-leave_if.ensures in
    let n : suc c.loop-p.p ≡ c.loop-p.p + 1 = omega arith in (
      before.0 ++ one.0,
      subst (λ (k : ℕ). Leaves c.args.id c.args.self.now k (before.0 ++ one.0) c.leave_if.new.self) n
          (one_more c.loop-p.p before.0 one.0 c.loop-p.self c.leave_if.new.self before.1 one.1),
      one.2
          ∙ (ap (λ (o : List Told). o ++ one.0) before.2 ∙ append_assoc c.args.out.now.items before.0 one.0),
    )
