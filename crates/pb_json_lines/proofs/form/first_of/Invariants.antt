use Rattle.std.proofs.Common.{◌≡◌, drop, map}
use Rattle.std.specs.List.{find}
use Rattle.pb_json_lines.specs.PlainForms.{PlainForm, plain_form}
use Rattle.pb_json_lines.specs.Patterns as spec
use Rattle.pb_json_lines.proofs.form.first_of.Given as goal

abbrev pub invariant-loop-i : goal.invariant-loop-i
invariant-loop-i l =
    find (λ (f : PlainForm). spec.fits f.pattern l.line) (map plain_form (drop l.i l.forms))
    ≡ find (λ (f : PlainForm). spec.fits f.pattern l.line) (map plain_form l.forms)
