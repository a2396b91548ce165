use Rattle.std.proofs.Common.{◌∙◌, List, ap}
use Rattle.std.specs.List.{list_any}
use Rattle.std.specs.Str.{bytes_eq}
use Rattle.pb_names.specs.Program.{Resource as PlainResource}
use Rattle.pb_names.specs.declared.resolved.Resource.{Resource}
use Rattle.pb_plan_engine.proofs.ChangingLemmas.{any_seen}
use Rattle.pb_plan_engine.proofs.changing.is_declared.Goals as goal

pub returns : goal.returns
returns g c =
    c.is_among.ensures
    ∙ ap (λ (rs : List (Resource _)). list_any (λ r. bytes_eq r.name.items c.args.name.now) rs) c.deref.ensures.value
    ∙ any_seen (λ (r : PlainResource). bytes_eq r.name c.args.name.now) c.args.program.now.resources.items
