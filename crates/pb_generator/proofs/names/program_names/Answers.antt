use Rattle.std.proofs.Common.{List, ℕ, map, ap, sym, ◌∙◌}
use Rattle.std.proofs.lemmas.Simd.{map-map}
use Rattle.pb_base.specs.Lines.{NameTable}
use Rattle.pb_names.specs.Program.{Process, Resource}
use Rattle.pb_names.specs.View.{process_view, resource_view}
use Rattle.pb_generator.proofs.names.program_names.Goals as goal

abbrev table : List (List ℕ) → List (List ℕ) → NameTable
table processes resources = record { processes = processes; resources = resources }

pub returns : goal.returns
returns g c =
    let program = c.args.program.now in
    let processes = c.in_ok-processes.ensures ∙ sym (map-map (λ (p : Process). p.name) process_view program.processes.items) in
    let resources = c.in_ok-resources.ensures ∙ sym (map-map (λ (r : Resource). r.name) resource_view program.resources.items) in
    ap (λ names. table names (map (λ name. name.items) c.in_ok-resources.resources.items)) processes
    ∙ ap (table (map (λ p. p.name) (map process_view program.processes.items))) resources
