use Rattle.pb_findings.specs.Objects.{found_json}
use Rattle.pb_findings.proofs.ObjectLemmas.{next_item}
use Rattle.pb_findings.proofs.object.put_texts.Goals as goal

pub loop-found-preserved : goal.loop-found-preserved
loop-found-preserved c =
    next_item (found_json c.args.warn c.args.name.now) c.args.out.now.items c.loop-found.out.items c.put_found.new.out.items c.args.texts.now c.loop-found.found-index c.found-item.result
    c.loop-found-test.true c.found-item.is c.loop-found.invariant c.in_ok-put_found.ensures
