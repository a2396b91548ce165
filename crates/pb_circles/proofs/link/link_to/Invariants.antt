use Rattle.std.proofs.Common.{◌<◌}
use Rattle.pb_circles.specs.Links.{LinksTo}
use Rattle.pb_circles.specs.declared.link.Link.{Link}
use Rattle.pb_machine.specs.Views.{machine_view}
use Rattle.pb_circles.proofs.link.link_to.Given as goal

abbrev pub invariant-loop-arm : goal.invariant-loop-arm
invariant-loop-arm l = (link : Link) → link.arm < l.arm
    → LinksTo l.verified.code (machine_view l.machine) l.among l.p link → ⊥
