use Rattle.std.proofs.Common.{◌≡◌, ℕ, ◌*◌, None, false, length, replicate, refl, sym, ap, ◌∙◌, subst, rules, arith}
use Rattle.std.proofs.lemmas.Grind.{common_steps}
use Rattle.std.proofs.lemmas.List.{length-map}
use Rattle.pb_base.specs.Steppers.{State}
use Rattle.pb_code.specs.Code.{CodeProcess, code_process}
use Rattle.pb_code.specs.Whole.{code_opening}
use Rattle.pb_machine.specs.Views.{machine_view, IsMachineOf}
use Rattle.pb_verifier.specs.Verified.{IsVerified, VerifiedCode}
use Rattle.pb_shared.specs.Ledgers.{new_ledger}
use Rattle.pb_shared.proofs.LegalCalls.{legal_as, new_legal}
use Rattle.pb_shared.proofs.SpareStretches.{spares_new}
use Rattle.pb_shared.proofs.book.Book.new.Goals as goal

pub invariant_of-result : goal.invariant_of-result
invariant_of-result g c =
    let code = g.C.CodeBrand.code in
    let opening : machine_view c.in_ok-machine.machine ≡ code_opening code.code =
    c.in_ok-machine.ensures.opening ∙ ap (λ (v : VerifiedCode). code_opening v.code) c.requires.brand in
    let count : c.processes-count.result ≡ length code.code.processes =
    c.processes-count.ensures ∙ (ap (λ (s : State CodeProcess). length s.processes) opening ∙ length-map code.code.processes code_process) in
    let legal = new_legal code c.args.limit (subst IsVerified c.requires.brand c.code.ensures.verified) c.requires.limit in
    record {
      refers = c.requires.brand;
      legal = legal_as code (new_ledger code c.args.limit) _ legal (sym opening) (sym c.new-2.ensures) refl refl
          (sym (c.in_ok-slips.ensures ∙ ap (λ (n : ℕ). replicate n None) count))
          (sym (c.in_ok-refused.ensures ∙ ap (λ (n : ℕ). replicate (64 * n) false) count));
      machine = subst (λ (v : VerifiedCode). IsMachineOf v c.in_ok-machine.machine) c.requires.brand c.in_ok-machine.ensures.machine;
      spares = spares_new code c.processes-count.result _ _ c.in_ok-slips.ensures c.in_ok-spares.ensures;
    }

pub from_residual-requires : goal.from_residual-requires
from_residual-requires g c κs = search rules

pub from_residual-requires-in_err-slips : goal.from_residual-requires-in_err-slips
from_residual-requires-in_err-slips g c κs = search rules

pub from_residual-requires-in_err-spares : goal.from_residual-requires-in_err-spares
from_residual-requires-in_err-spares g c κs = search rules

pub no_marks-requires : goal.no_marks-requires
no_marks-requires g c = grind (arith, common_steps)

pub from_residual-requires-in_err-refused : goal.from_residual-requires-in_err-refused
from_residual-requires-in_err-refused g c κs = search rules

pub from_residual-requires-in_err-next_arms : goal.from_residual-requires-in_err-next_arms
from_residual-requires-in_err-next_arms g c κs = search rules

pub returns-in_err-next_arms : goal.returns-in_err-next_arms
returns-in_err-next_arms g c = grind (arith, common_steps)

pub returns : goal.returns
returns g c = grind (arith, common_steps) steps 400000
