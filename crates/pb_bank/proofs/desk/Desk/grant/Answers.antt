use Rattle.std.proofs.Common.{◌≡◌, false, sym, subst}
use Rattle.pb_base.specs.Lines.{names_view}
use Rattle.pb_bank.specs.Desks.{DeskValue, IsRequestOf}
use Rattle.pb_bank.specs.Queues.{has_wish}
use Rattle.pb_bank.proofs.Waiting.{desk_held, request_held}
use Rattle.pb_bank.proofs.desk.Desk.grant.Goals as goal

pub invariant_of-self : goal.invariant_of-self
invariant_of-self c =
    let is : IsRequestOf c.self.inside.bank c.args.request.now =
    subst (λ (d : DeskValue). IsRequestOf d.bank c.args.request.now) (sym c.self.view_is) c.requires.of in
    let none : has_wish c.self.inside.wishes.items c.args.request.now.job ≡ false =
    subst (λ (d : DeskValue). has_wish d.wishes c.args.request.now.job ≡ false) (sym c.self.view_is) c.requires.free in
    desk_held c.self.inside.bank c.lend.new.bank (names_view c.self.inside.names) c.self.inside.wishes.items c.args.request.now c.lend.result
    c.slots.ensures.well_formed is none c.lend.ensures.why c.lend.ensures.state c.lend.ensures.used c.self.invariant

pub returns-clause-of : goal.returns-clause-of
returns-clause-of c =
    let is : IsRequestOf c.self.inside.bank c.args.request.now =
    subst (λ (d : DeskValue). IsRequestOf d.bank c.args.request.now) (sym c.self.view_is) c.requires.of in
    request_held c.self.inside.bank c.lend.new.bank c.args.request.now c.lend.result c.lend.ensures.state is
