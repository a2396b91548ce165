use Rattle.std.proofs.Common.{arith, subst, ◌∙◌}
use Rattle.std.proofs.lemmas.Result.{IfOk-weaker}
use Rattle.pb_mends.specs.Mends.{GetsFurther}
use Rattle.pb_mends.proofs.propose.mends_it.Goals as goal

pub returns-then-keeps : goal.returns-then-keeps
returns-then-keeps c =
    IfOk-weaker c.gets_further.result _ _
    (λ is has gets. record {
      fault = c.args.fault.now;
      refused = c.requires.refused;
      told = c.requires.told;
      order = omega (arith, c.if-mend.false);
      within = omega (arith, c.if-text-mend.false);
      kept = c.in_ok-keeps.ensures c.if-keeps.true;
      further = subst (GetsFurther c.args.text.now c.args.fault.now) (c.as_slice-left.ensures.value ∙ c.in_ok-after.ensures) (has gets);
    })
    c.gets_further.ensures
