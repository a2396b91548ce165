use Rattle.std.proofs.Common.{map, ap, ◌∙◌, arith, refl}
use Rattle.std.proofs.lemmas.Grind.{common_steps}
use Rattle.std.proofs.lemmas.List.{take_all, length-map}
use Rattle.pb_tree.specs.View.{process_view}
use Rattle.pb_base.proofs.Lists.{view_read}
use Rattle.pb_names.proofs.Completeness.{all_read, all_more}
use Rattle.pb_names.proofs.complete.is_complete.Goals as goal

pub returns-then-not-are_complete : goal.returns-then-not-are_complete
returns-then-not-are_complete g c = (
  λ never. absurd (cc),
  λ whole.
      let ps = c.args.program.now.processes.items in
      let p = c.process-item.result in
      let i = c.loop-process.process-index in
      let read = view_read process_view ps _ i p c.deref-process-items.ensures.value (omega arith) c.process-item.is in
      let one = all_read (map process_view ps) i (process_view p) read whole.bodies in
      let yes = c.are_complete.ensures.1 one in
      grind arith,
)

pub loop-process-preserved : goal.loop-process-preserved
loop-process-preserved g c =
    all_more _ _ _ (omega arith) c.process-item.is c.loop-process.invariant (c.are_complete.ensures.0 (grind arith))

pub returns : goal.returns
returns g c =
    let all = ap (map process_view) (take_all c.loop-process.process-index c.deref-process-items.result.now (omega arith)
    ∙ c.deref-process-items.ensures.value) in (
      λ yes.
          record {
            some_process =
                let many = length-map c.args.program.now.processes.items process_view in
                let empty = c.is_empty.ensures in
                grind (arith, common_steps);
            bodies = rw all at c.loop-process.invariant;
          },
      λ whole. refl,
    )
