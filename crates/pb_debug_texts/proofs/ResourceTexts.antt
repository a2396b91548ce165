-- What is said of a resource, from what is said of its parts.
use Rattle.std.proofs.Common.{◌≡◌, ℕ, suc, ◌+◌, ◌++◌, List, Option, Some, sym, ap, ◌∙◌, append_assoc, arith}
use Rattle.std.specs.Prelude.{slice_get}
use Rattle.pb_base.specs.Lines.{each_below}
use Rattle.pb_base.specs.Steppers.{State}
use Rattle.pb_code.specs.Code.{CodeProcess, ProcessCode}
use Rattle.pb_code.specs.Whole.{Code}
use Rattle.pb_debug_texts.specs.Resources.{askers_at, askers_in, askers_of}

-- one process more
pub askers_next : (code : Code) (s : State CodeProcess) (r p : ℕ) (of : ProcessCode) (process : CodeProcess) (old mid new : List ℕ)
    → slice_get code.processes p ≡ Some of → slice_get s.processes p ≡ Some process
    → mid ≡ old ++ each_below (askers_at code s r) p → new ≡ mid ++ askers_in code.names r p of process
    → new ≡ old ++ each_below (askers_at code s r) (p + 1)
askers_next code s r p of process old mid new code_there there before more =
    let here : askers_at code s r p ≡ askers_in code.names r p of process =
    ap (λ (o : Option ProcessCode). askers_of code.names r p o (slice_get s.processes p)) code_there
    ∙ ap (λ (o : Option CodeProcess). askers_of code.names r p (Some of) o) there in
    let n : suc p ≡ p + 1 = omega arith in
    more
    ∙ (ap (λ (t : List ℕ). t ++ askers_in code.names r p of process) before
    ∙ (append_assoc old (each_below (askers_at code s r) p) (askers_in code.names r p of process)
    ∙ (ap (λ (t : List ℕ). old ++ (each_below (askers_at code s r) p ++ t)) (sym here)
    ∙ ap (λ k. old ++ each_below (askers_at code s r) k) n)))
