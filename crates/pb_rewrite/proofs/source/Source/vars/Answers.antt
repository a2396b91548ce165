use Rattle.std.proofs.Common.{◌<◌, length, ap, sym, ◌∙◌, arith}
use Rattle.std.proofs.lemmas.List.{length-map}
use Rattle.pb_rewrite.specs.View.{process_view}
use Rattle.pb_rewrite.proofs.Sources.{some_same, view_at}
use Rattle.pb_rewrite.proofs.source.Source.vars.Goals as goal

pub index-requires : goal.index-requires
index-requires g c =
    omega (arith, c.requires, c.args.self.now.processes.ok.0, length-map c.args.self.now.processes.items (process_view {A = g.row.A.Denot}))

pub returns : goal.returns
returns g c =
    let items = c.args.self.now.processes.items in
    let lt : c.args.p < length items = omega (arith, c.requires, length-map items (process_view {A = g.row.A.Denot})) in
    let there = view_at items c.args.p c.index.result.now lt c.index.ensures in
    λ process at. c.vars.ensures ∙ ap (λ x. x.vars) (some_same (process_view c.index.result.now) process (sym there ∙ at))
