use Rattle.std.proofs.Common.{◌≡◌, Bool, true, List, [], refl, sym, ap, ◌∙◌, subst, append-nil}
use Rattle.pb_base.specs.Lines.{names_view}
use Rattle.pb_bank.specs.declared.request.Request.{Request}
use Rattle.pb_bank.specs.Answers.{DropsWish}
use Rattle.pb_bank.specs.Desks.{DeskValue, IsDesk}
use Rattle.pb_bank.specs.Queues.{has_wish, without_wish}
use Rattle.pb_bank.proofs.Waiting.{desk_without}
use Rattle.pb_bank.proofs.desk.Desk.drop_wish.Goals as goal

pub invariant_of-self : goal.invariant_of-self
invariant_of-self c =
    let names = names_view c.self.inside.names in
    let kept : c.in_ok-others.others.items ≡ without_wish c.self.inside.wishes.items c.args.p =
    c.in_ok-others.ensures ∙ ap (λ (ws : List Request). without_wish ws c.args.p) c.deref-2.ensures.value in
    subst (λ (ws : List Request). IsDesk (record { bank = c.self.inside.bank; names = names; wishes = ws })) (sym kept)
    (desk_without c.self.inside.bank names c.self.inside.wishes.items _ c.self.invariant)

pub returns : goal.returns
returns c =
    let p = c.args.p in
    let bank = c.self.inside.bank in
    let names = names_view c.self.inside.names in
    let wishes = c.self.inside.wishes.items in
    let others = c.in_ok-others.others.items in
    let kept : others ≡ without_wish wishes p =
    c.in_ok-others.ensures ∙ ap (λ (ws : List Request). without_wish ws p) c.deref-2.ensures.value in
    let has : has_wish wishes p ≡ true =
    ap (λ (ws : List Request). has_wish ws p) (sym c.deref.ensures.value) ∙ (sym c.has_wish.ensures ∙ c.if-not-has_wish.false) in
    let here : DeskValue = record { bank = bank; names = names; wishes = wishes } in
    let next : DeskValue = record { bank = bank; names = names; wishes = others } in (
      [],
      subst (λ (d : DeskValue). DropsWish (has_wish d.wishes p) d p [] next) c.self.view_is
          (subst (λ (b : Bool). DropsWish b here p [] next) (sym has)
          (refl, ap (λ (ws : List Request). record { bank = bank; names = names; wishes = ws }) kept)),
      sym (append-nil c.args.out.now.items),
    )
