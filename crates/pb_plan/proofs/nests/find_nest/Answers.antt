use Rattle.std.proofs.Common.{◌∙◌, Option, arith, ap, map, sym, take}
use Rattle.pb_names.specs.View.{process_view}
use Rattle.pb_plan.specs.Nests.{first, nest_among}
use Rattle.pb_plan.specs.declared.nest.Nest.{Nest}
use Rattle.pb_plan.proofs.NestWalks.{among_more}
use Rattle.pb_plan.proofs.nests.find_nest.Goals as goal

pub loop-process-preserved : goal.loop-process-preserved
loop-process-preserved g c =
    c.first-found.ensures
    ∙ ap (λ (o : Option Nest). first o c.nest_in.result) c.loop-process.invariant
    ∙ ap (first (nest_among c.args.outer c.args.inner (map process_view (take c.loop-process.process-index c.args.processes.now))))
    c.nest_in.ensures
    ∙ sym (among_more c.args.outer c.args.inner c.args.processes.now c.loop-process.process-index
    c.process-item.result c.process-item.is (omega arith))
