use Rattle.std.proofs.Common.{◌≡◌, ◌<◌, ℕ, Some}
use Rattle.std.specs.Prelude.{slice_get}
use Rattle.pb_circles.specs.Links.{LinksTo}
use Rattle.pb_circles.specs.declared.link.Link.{Link}
use Rattle.pb_machine.specs.Views.{machine_view}
use Rattle.pb_circles.proofs.circle.first_free.Given as goal

abbrev pub invariant-loop-i : goal.invariant-loop-i
invariant-loop-i l = (k p : ℕ) → k < l.i → slice_get l.among k ≡ Some p
    → (link : Link) × LinksTo l.verified.code (machine_view l.machine) l.among p link
