use Rattle.std.proofs.Common.{◌≡◌, ◌<◌, ◌≤◌, ℕ, false, List, sym, subst}
use Rattle.pb_base.specs.Banker.{IsAllowed, IsWithinClaim}
use Rattle.pb_base.specs.Lines.{names_view}
use Rattle.pb_banker.specs.Jobs.{HasJob}
use Rattle.pb_bank.specs.declared.request.Request.{Request}
use Rattle.pb_bank.specs.Desks.{DeskValue, IsDesk, IsRequestOf, IsWaitingOf}
use Rattle.pb_bank.specs.Queues.{has_wish}
use Rattle.pb_bank.proofs.Waiting.{desk_queued}
use Rattle.pb_bank.proofs.desk.Desk.queue.Goals as goal

pub invariant_of-self-2 : goal.invariant_of-self-2
invariant_of-self-2 c =
    let names = names_view c.self.inside.names in
    let bank = c.self.inside.bank in
    let wish = c.args.wish in
    let is : IsRequestOf bank wish = subst (λ (d : DeskValue). IsRequestOf d.bank wish) (sym c.self.view_is) c.requires.of in
    let waits_on : IsWaitingOf bank wish = record {
      job = subst (λ (d : DeskValue). HasJob d.bank wish.job) (sym c.self.view_is) c.requires.has;
      some = subst (λ (n : ℕ). 0 < n) c.len.ensures.len c.len.ensures.some;
      few = subst (λ (n : ℕ). n ≤ 16) c.len.ensures.len c.len.ensures.few;
      within = subst (λ (d : DeskValue). IsWithinClaim d.bank.state wish.job wish.bundle) (sym c.self.view_is) c.requires.within;
    } in
    let none : has_wish c.self.inside.wishes.items wish.job ≡ false =
    subst (λ (d : DeskValue). has_wish d.wishes wish.job ≡ false) (sym c.self.view_is) c.requires.free in
    let waits : ¬ IsAllowed bank.state wish.job wish.bundle =
    subst (λ (d : DeskValue). ¬ IsAllowed d.bank.state wish.job wish.bundle) (sym c.self.view_is) c.requires.waits in
    subst (λ (ws : List Request). IsDesk (record { bank = bank; names = names; wishes = ws })) (sym c.in_ok-push.ensures.items)
    (desk_queued bank names c.self.inside.wishes.items wish is waits_on none waits c.self.invariant)
