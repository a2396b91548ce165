use Rattle.std.proofs.Common.{arith}
use Rattle.std.proofs.lemmas.Option.{slice_get_within}
use Rattle.pb_shared.specs.Books.{ledger_of}
use Rattle.pb_shared.specs.Ledgers.{IsReady}
use Rattle.pb_shared.proofs.LegalCalls.{annotated_of, legal_reached}
use Rattle.pb_shared.proofs.ArmLooks.{few_processes}
use Rattle.pb_shared.proofs.book.Book.processes.Goals as goal

pub returns : goal.returns
returns g c pick ready =
    let s = ledger_of c.self.inside in
    let legal = c.self.invariant.legal in
    let here : IsReady g.C.CodeBrand.code.code s pick = rw (← c.self.view_is) at ready in
    let within = slice_get_within s.slips pick.process _ here.at_home in
    let few = few_processes g.C.CodeBrand.code.code (annotated_of g.C.CodeBrand.code s legal) s.machine (legal_reached g.C.CodeBrand.code s legal) in
    let slots = legal.slots in
    let count = c.len.ensures in
    let least = c.min.ensures in
    omega (arith, within, few, slots, count, least, c.self.inside.slips.ok.0)
