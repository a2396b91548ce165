use Rattle.pb_findings.specs.Sarif.{rule_if}
use Rattle.pb_findings.proofs.ObjectLemmas.{next_at}
use Rattle.pb_findings.proofs.sarif.put_rules.Goals as goal

pub loop-rule-preserved : goal.loop-rule-preserved
loop-rule-preserved c =
    next_at (rule_if c.args.said.now) c.args.out.now.items c.loop-rule.out.items c.put_rule_if.new.out.items c.args.rules.now c.loop-rule.rule-index _
    c.loop-rule-test.true c.loop-rule.invariant c.in_ok-put_rule_if.ensures
