use Rattle.std.proofs.Common.{List, ℕ, take, drop, ap, ◌∙◌, ◌++◌, subst}
use Rattle.pb_base.specs.Device.{AddsPrefix}
use Rattle.pb_json_lines.specs.Live.{told_alone}
use Rattle.pb_json_lines.proofs.LiveLemmas.{longer, told_parts}
use Rattle.pb_json_lines.proofs.live_output.tell_ended.Goals as goal

pub returns-clause-broken : goal.returns-clause-broken
returns-clause-broken g c broken =
    let text = c.args.text.now in
    let written : AddsPrefix (g.O.Output.written c.args.output.now) (g.O.Output.written c.write_all.new.output)
    (told_alone c.args.dialect (take c.in-Ok.count text)) =
    subst (λ (t : List ℕ). AddsPrefix (g.O.Output.written c.args.output.now) (g.O.Output.written c.write_all.new.output) t)
    (c.as_slice.ensures.value ∙ (c.in-Ok.ensures.told ∙ ap (λ (t : List ℕ). t ++ told_alone c.args.dialect (take c.in-Ok.count text)) c.new-out.ensures.items))
    c.in-Err.ensures.prefix in
    longer _ _ (told_alone c.args.dialect (take c.in-Ok.count text)) (told_alone c.args.dialect text)
    (told_alone c.args.dialect (drop c.in-Ok.count text)) (told_parts c.args.dialect text c.in-Ok.count c.in-Ok.ensures.ended) written
