use Rattle.pb_rewrite.specs.View.{arm_view}
use Rattle.pb_rewrite.proofs.TakenArms.{swapped_in}
use Rattle.pb_rewrite.proofs.process.put_back.Goals as goal

pub returns : goal.returns
returns g c =
    swapped_in c.args.wanted (arm_view c.args.run.now) (arm_view c.args.arm) c.swap.result (arm_view c.swap.new.arm) (arm_view c.swap.new.other)
    c.swap.ensures c.requires.there
