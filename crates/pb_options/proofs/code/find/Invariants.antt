use Rattle.std.proofs.Common.{◌≡◌, ◌<◌, ℕ, get_or}
use Rattle.pb_options.specs.Codes.{code_name}
use Rattle.pb_options.specs.declared.code.Code.TheVariants.{L1}
use Rattle.pb_options.proofs.code.find.Given as goal

abbrev pub invariant-loop-code : goal.invariant-loop-code
invariant-loop-code l = (k : ℕ) → k < l.code-index → code_name (get_or l.listed k L1) ≡ l.name → ⊥
