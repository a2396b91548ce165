use Rattle.std.proofs.Common.{◌<◌, ◌≤◌, length, map, option_and_then, ap, sym, ◌∙◌, arith}
use Rattle.std.proofs.lemmas.List.{length-map}
use Rattle.std.proofs.lemmas.Option.{slice_get_past}
use Rattle.pb_rewrite.specs.Found.{line_in}
use Rattle.pb_rewrite.specs.View.{process_view}
use Rattle.pb_rewrite.proofs.Sources.{view_at}
use Rattle.pb_rewrite.proofs.source.Source.head_line.Goals as goal

pub returns-then-p-len : goal.returns-then-p-len
returns-then-p-len g c =
    let items = c.args.self.now.processes.items in
    let past : length (map process_view items) ≤ c.args.p = omega (
      arith,
      c.args.self.now.processes.ok.0,
      length-map
          items (process_view {A = g.row.A.Denot}),
    ) in
    sym (ap (option_and_then (λ process. line_in process c.args.arm)) (slice_get_past (map process_view items) c.args.p past))

pub returns : goal.returns
returns g c =
    let items = c.args.self.now.processes.items in
    let lt : c.args.p < length items = omega (arith, c.args.self.now.processes.ok.0) in
    c.head_line.ensures
    ∙ sym (ap (option_and_then (λ process. line_in process c.args.arm)) (view_at items c.args.p c.index.result.now lt c.index.ensures))
