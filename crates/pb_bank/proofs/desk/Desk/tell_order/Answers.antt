use Rattle.std.proofs.Common.{◌≡◌, ℕ, List, ◌++◌, ◌∷◌, [], refl, subst, sym, take, ap, ◌∙◌}
use Rattle.pb_base.specs.Banker.{BankerState, IsLeastFirst}
use Rattle.pb_bank.specs.Answers.{TellsOrder, order_slots}
use Rattle.pb_bank.specs.Desks.{DeskValue}
use Rattle.pb_bank.specs.declared.said.Said.TheVariants.{Order}
use Rattle.pb_bank.proofs.OrderLemmas.{order_is_below}
use Rattle.pb_base.proofs.Results.{on_ok}
use Rattle.pb_bank.proofs.desk.Desk.tell_order.Goals as goal

-- as many slots as have a row, in the order that is found
first_slots : (s : BankerState) (order : List ℕ) (n m : ℕ) → n ≡ m → IsLeastFirst s (take m order) → IsLeastFirst s (take n order)
first_slots s order n m same is = subst (λ (k : ℕ). IsLeastFirst s (take k order)) (sym same) is

pub order_slots-requires-clause-slots : goal.order_slots-requires-clause-slots
order_slots-requires-clause-slots c =
    order_is_below c.self.inside.bank.state (take c.slots-slots.result c.order-order.result) c.slots-slots.ensures.well_formed
    (first_slots c.self.inside.bank.state c.order-order.result c.slots-slots.result _ c.slots-slots.ensures.number c.order-order.ensures)

pub returns : goal.returns
returns c =
    let bank = c.self.inside.bank in
    let order : List ℕ = take c.slots-slots.result c.order-order.result in
    let least = first_slots bank.state c.order-order.result c.slots-slots.result _ c.slots-slots.ensures.number c.order-order.ensures in
    on_ok c.say.result _ _ c.say.ensures (λ more. (
      Order (order_slots bank.used order) ∷ [],
      subst (λ (d : DeskValue). TellsOrder d (Order (order_slots bank.used order) ∷ []) d) c.self.view_is (order, least, refl, refl),
      more ∙ ap (λ (slots : List ℕ). c.args.out.now.items ++ Order slots ∷ []) c.order_slots.ensures,
    ))
