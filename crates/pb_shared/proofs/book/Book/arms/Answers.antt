use Rattle.std.proofs.Common.{◌≡◌, ℕ, Some, slice_get, ap, sym, ◌∙◌, arith}
use Rattle.pb_machine.specs.Views.{proc_view}
use Rattle.pb_shared.specs.Books.{ledger_of}
use Rattle.pb_shared.specs.Ledgers.{IsReady}
use Rattle.pb_shared.proofs.LegalCalls.{annotated_of, legal_reached}
use Rattle.pb_shared.proofs.ArmLooks.{few_arms, steps_within}
use Rattle.pb_shared.proofs.book.Book.arms.Goals as goal

pub returns : goal.returns
returns g c pick process ready =
    let s = ledger_of c.self.inside in
    let legal = c.self.invariant.legal in
    let here : IsReady g.C.CodeBrand.code.code s pick = rw (← c.self.view_is) at ready in
    let there : slice_get s.machine.processes pick.process ≡ Some (proc_view c.proc.result.now) =
    ap (λ (p : ℕ). slice_get s.machine.processes p) (process ∙ sym c.from-2.ensures) ∙ c.proc.ensures.state in
    let within = steps_within g.C.CodeBrand.code.code s.machine pick (proc_view c.proc.result.now) there here.steps in
    let few = few_arms g.C.CodeBrand.code.code (annotated_of g.C.CodeBrand.code s legal) s.machine (legal_reached
    g.C.CodeBrand.code s legal) pick.process (proc_view c.proc.result.now) there in
    let arms = c.arms.ensures in
    let least = c.min.ensures in
    omega (arith, within, few, arms, least)
