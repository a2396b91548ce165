use Rattle.pb_findings.specs.Sarif.{warned_sarif}
use Rattle.pb_findings.proofs.ObjectLemmas.{next_item}
use Rattle.pb_findings.proofs.results.put_warnings.Goals as goal

pub loop-one-preserved : goal.loop-one-preserved
loop-one-preserved c =
    next_item (warned_sarif c.args.name.now) c.args.out.now.items c.loop-one.out.items c.put_warning.new.out.items c.args.warned.now c.loop-one.one-index c.one-item.result
    c.loop-one-test.true c.one-item.is c.loop-one.invariant c.in_ok-put_warning.ensures
