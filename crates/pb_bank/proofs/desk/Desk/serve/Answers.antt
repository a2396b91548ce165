use Rattle.std.proofs.Common.{◌≡◌, ℕ, Bool, List, [], length, refl, sym, ap, ◌∙◌, subst}
use Rattle.pb_base.specs.Lines.{names_view}
use Rattle.pb_banker.specs.Jobs.{BankValue}
use Rattle.pb_bank.specs.declared.request.Request.{Request}
use Rattle.pb_bank.specs.Desks.{DeskValue, IsQueueOf}
use Rattle.pb_bank.specs.Queues.{Serves, ServesQueue}
use Rattle.pb_bank.proofs.Waiting.{desk_kept, desk_opened, same_bank, served}
use Rattle.pb_bank.proofs.SlotNames.{slots_same}
use Rattle.pb_bank.proofs.desk.Desk.serve.Goals as goal

pub serve-requires : goal.serve-requires
serve-requires c =
    let queue : IsQueueOf c.self.inside.bank c.args.wishes.items =
    subst (λ (d : DeskValue). IsQueueOf d.bank c.args.wishes.items) (sym c.self.view_is) c.requires.queue in
    let here : IsQueueOf c.self.inside.bank c.deref.result.now =
    subst (IsQueueOf c.self.inside.bank) (sym c.deref.ensures.value) queue in
    record { of = here.requests }

pub invariant_of-self : goal.invariant_of-self
invariant_of-self c =
    let names = names_view c.self.inside.names in
    let bank = c.self.inside.bank in
    let next = c.serve.new.bank in
    let none : c.self.inside.wishes.items ≡ [] = ap (λ (d : DeskValue). d.wishes) c.self.view_is ∙ c.requires.none in
    let money = ap (λ (t : List ℕ). length t) c.serve.ensures.capital in
    desk_opened bank next names names c.self.inside.wishes.items c.self.inside.wishes.items none refl refl money
    (slots_same bank next names.processes c.serve.ensures.claims money c.serve.ensures.used c.self.invariant.slots) c.self.invariant

pub invariant_of-self-2 : goal.invariant_of-self-2
invariant_of-self-2 c =
    let names = names_view c.self.inside.names in
    let bank = c.self.inside.bank in
    let next = c.serve.new.bank in
    let waiting = c.in_ok-waiting.waiting.items in
    let says = c.in_ok-waiting.ensures.served in
    let queue : IsQueueOf bank c.args.wishes.items =
    subst (λ (d : DeskValue). IsQueueOf d.bank c.args.wishes.items) (sym c.self.view_is) c.requires.queue in
    let here : IsQueueOf bank c.deref.result.now = subst (IsQueueOf bank) (sym c.deref.ensures.value) queue in
    let h = served bank c.serve.ensures.formed c.deref.result.now says.0 waiting next.state here says.1 in
    let there : BankValue = record { state = next.state; used = bank.used } in
    desk_kept bank next names c.self.inside.wishes.items waiting h.claims h.capital c.serve.ensures.used
    (subst (λ (b : BankValue). IsQueueOf b waiting) (sym (same_bank there next refl c.serve.ensures.used)) h.queue) h.waits c.self.invariant

pub returns : goal.returns
returns c =
    let bank = c.self.inside.bank in
    let names = names_view c.self.inside.names in
    let says = c.in_ok-waiting.ensures.served in
    let waiting = c.in_ok-waiting.waiting.items in
    let state = c.serve.new.bank.state in
    let next : DeskValue = record { bank = c.serve.new.bank; names = names; wishes = waiting } in (
      says.0,
      subst (λ (d : DeskValue). ServesQueue (record d { wishes = c.args.wishes.items }) says.0 next) c.self.view_is (
        waiting,
        state,
        subst (λ (q : List Request). Serves bank.state q says.0 waiting state) c.deref.ensures.value says.1,
        ap (λ (u : List Bool). record { bank = record { state = state; used = u }; names = names; wishes = waiting }) c.serve.ensures.used,
      ),
      says.2,
    )
