use Rattle.std.proofs.Common.{◌≡◌, drop}
use Rattle.pb_json_lines.specs.Patterns as spec
use Rattle.pb_json_lines.proofs.members.fits.Given as goal

abbrev pub invariant-loop-i : goal.invariant-loop-i
invariant-loop-i l = spec.fits (drop l.i l.pattern) l.rest ≡ spec.fits l.pattern l.line
