use Rattle.std.proofs.Common.{refl}
use Rattle.pb_json_lines.proofs.LiveLemmas.{nothing_told}
use Rattle.pb_json_lines.proofs.live_output.LiveOutput.tell_lines.Goals as goal

pub invariant_of-self : goal.invariant_of-self
invariant_of-self g c = (
  g.O.Output.written c.self.inside.inner,
  c.self.inside.writes,
  (
    nothing_told c.args.dialect (g.O.Output.written c.self.inside.inner) c.clear.new.self.items c.clear.ensures.items,
    refl,
  ),
)
