use Rattle.std.proofs.Common.{Vec, Global, ◌≡◌, ◌<◌, ℕ, List, map, sym, ap, ◌∙◌, subst}
use Rattle.pb_base.specs.Banker.{processes}
use Rattle.pb_bank.specs.declared.request.Request.{Request}
use Rattle.pb_bank.specs.Desks.{DeskValue, IsQueueOf}
use Rattle.pb_bank.specs.Queues.{without_wish, ServesQueue}
use Rattle.pb_bank.proofs.DeskLemmas.{desk_leaving, left_desk, queue_left}
use Rattle.pb_base.proofs.Results.{on_ok}
use Rattle.pb_bank.proofs.desk.Desk.leave.Goals as goal

pub invariant_of-self : goal.invariant_of-self
invariant_of-self c =
    let bank = c.self.inside.bank in
    let row : c.args.p < processes bank.state = subst (λ (d : DeskValue). c.args.p < processes d.bank.state) (sym c.self.view_is) c.requires in
    desk_leaving bank c.leave.new.self c.self.inside.names.processes.items
    (map (λ (n : Vec ℕ Global). n.items) c.self.inside.names.resources.items) c.self.inside.wishes.items c.new.result.items c.args.p
    c.new-2.result c.new.ensures.items c.new-2.ensures.items c.slots.ensures.well_formed row c.leave.ensures.left c.self.invariant

pub serve-requires-clause-queue : goal.serve-requires-clause-queue
serve-requires-clause-queue c =
    let bank = c.self.inside.bank in
    let row : c.args.p < processes bank.state = subst (λ (d : DeskValue). c.args.p < processes d.bank.state) (sym c.self.view_is) c.requires in
    let kept : c.in_ok-wishes.wishes.items ≡ without_wish c.self.inside.wishes.items c.args.p =
    c.in_ok-wishes.ensures ∙ ap (λ (ws : List Request). without_wish ws c.args.p) c.deref.ensures.value in
    subst (IsQueueOf c.leave.new.self) (sym kept)
    (queue_left bank c.leave.new.self c.args.p c.self.inside.wishes.items c.slots.ensures.well_formed row c.leave.ensures.left
    c.self.invariant.wishes)

pub returns : goal.returns
returns c =
    on_ok c.serve.result _ _ c.serve.ensures (λ h. (
      h.0,
      subst (λ (d : DeskValue). ServesQueue d h.0 c.serve.new.self)
          (left_desk c.args.self.now c.self.inside.bank c.leave.new.self c.self.inside.names.processes.items
          (map (λ (n : Vec ℕ Global). n.items) c.self.inside.names.resources.items) c.self.inside.wishes.items c.in_ok-wishes.wishes.items
          c.args.p c.new-2.result c.self.view_is c.new-2.ensures.items c.leave.ensures.left
          (c.in_ok-wishes.ensures ∙ ap (λ (ws : List Request). without_wish ws c.args.p) c.deref.ensures.value)) h.1,
      h.2,
    ))
