use Rattle.std.proofs.Common.{Vec, Global, refl, sym, ap, ◌∙◌, subst}
use Rattle.pb_base.specs.Banker.{BankerState, resources}
use Rattle.pb_base.specs.Lines.{names_view}
use Rattle.pb_bank.specs.declared.request.Request.{Request}
use Rattle.pb_bank.specs.Desks.{DeskValue, IsQueueOf, IsRequestOf}
use Rattle.pb_bank.proofs.QueuedWishes.{waiting_given}
use Rattle.pb_bank.proofs.SlotNames.{slots_same}
use Rattle.pb_bank.proofs.Waiting.{desk_opened, requests_in}
use Rattle.pb_bank.proofs.desk.Desk.give.Goals as goal

pub invariant_of-self : goal.invariant_of-self
invariant_of-self c =
    let bank = c.self.inside.bank in
    let next = c.give.new.self in
    let names = names_view c.self.inside.names in
    let none = ap (λ (v : Vec Request Global). v.items) c.replace-wishes.ensures.after ∙ c.new.ensures.items in
    let money = ap (λ (s : BankerState). resources s) c.give.ensures.state in
    desk_opened bank next names names c.self.inside.wishes.items c.replace-wishes.new.dest.items none refl refl money
    (slots_same bank next names.processes (ap (λ (s : BankerState). s.claims) c.give.ensures.state) money c.give.ensures.used
    c.self.invariant.slots)
    c.self.invariant

pub serve-requires-clause-queue : goal.serve-requires-clause-queue
serve-requires-clause-queue c =
    let bank = c.self.inside.bank in
    let next = c.give.new.self in
    let wishes = c.self.inside.wishes.items in
    let queue = c.self.invariant.wishes in
    let w = c.args.request.now in
    let is : IsRequestOf bank w = subst (λ (d : DeskValue). IsRequestOf d.bank w) (sym c.self.view_is) c.requires in
    subst (IsQueueOf next) (sym (ap (λ (v : Vec Request Global). v.items) c.replace-wishes.ensures.value)) (record {
      requests =
          requests_in bank next wishes (ap (λ (s : BankerState). s.claims) c.give.ensures.state)
          (ap (λ (s : BankerState). s.capital) c.give.ensures.state) queue.requests;
      waiting =
          waiting_given bank next w.job w.bundle wishes c.slots.ensures.well_formed is.job is.below c.give.ensures.state c.give.ensures.used
          queue.waiting;
      one_each = queue.one_each;
    })
