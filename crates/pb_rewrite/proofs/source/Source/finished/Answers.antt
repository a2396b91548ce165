use Rattle.std.proofs.Common.{◌≡◌, ◌<◌, true, false, length, map, refl, arith, sym, ◌∙◌}
use Rattle.std.proofs.lemmas.List.{length-map}
use Rattle.std.proofs.lemmas.Option.{slice_get_within}
use Rattle.pb_names.specs.Source.{source_over}
use Rattle.pb_rewrite.specs.View.{process_view}
use Rattle.pb_rewrite.proofs.Openings.{none_past}
use Rattle.pb_rewrite.proofs.Sources.{view_at}
use Rattle.pb_rewrite.proofs.source.Source.finished.Goals as goal

pub returns-then-not-is_over : goal.returns-then-not-is_over
returns-then-not-is_over g c =
    let items = c.args.self.now.processes.items in
    let i = c.loop-process.process-index in
    let lt : i < length items = omega (arith, c.args.self.now.processes.ok.0) in
    let there = view_at items i c.process-item.result lt (rw c.deref-process-items.ensures.value at c.process-item.is) in
    (λ h. let w : false ≡ true = h in cc, λ finished. sym c.if-not-is_over.true ∙ c.is_over.ensures.1 (finished i (process_view c.process-item.result) there))

pub loop-process-preserved : goal.loop-process-preserved
loop-process-preserved g c =
    let items = c.args.self.now.processes.items in
    let i = c.loop-process.process-index in
    let lt : i < length items = omega (arith, c.args.self.now.processes.ok.0) in
    let there = view_at items i c.process-item.result lt (rw c.deref-process-items.ensures.value at c.process-item.is) in
    none_past items i source_over c.process-item.result there (c.is_over.ensures.0 c.if-not-is_over.false) c.loop-process.invariant

pub returns : goal.returns
returns g c =
    let items = c.args.self.now.processes.items in (
      λ _. λ p process at. c.loop-process.invariant p process
          (omega (
            arith,
            slice_get_within (map process_view items) p process at,
            length-map items (process_view {A =
                g.row.A.Denot}),
            c.args.self.now.processes.ok.0,
          )) at,
      λ _. refl,
    )
