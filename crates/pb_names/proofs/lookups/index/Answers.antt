use Rattle.std.proofs.lemmas.List.{length-map, length-replicate}
use Rattle.std.proofs.Common.{◌≡◌, suc, ◌-◌, map, get_or, length, arith, ap, sym, ◌∙◌, refl, subst}
use Rattle.pb_names.specs.Index.{IsLinked}
use Rattle.pb_base.proofs.Lists.{view_read}
use Rattle.pb_names.proofs.NameIndexes.{linked_more, linked_none}
use Rattle.pb_names.proofs.lookups.index.Goals as goal

pub loop-i-preserved : goal.loop-i-preserved
loop-i-preserved g c =
    let xs = c.args.texts.items in
    let names = map (λ text. text.now) xs in
    let firsts = c.loop-i.first_of.items in
    let nexts = c.loop-i.next_of.items in
    let behind = c.index-in-loop-i.result.now in
    let i = c.loop-i.i - 1 in
    let above : suc i ≡ c.loop-i.i = omega arith in
    let read = view_read (λ text. text.now) xs xs i c.index.result.now refl (omega arith) c.index.ensures in
    let is = c.slot_of-slot.ensures.value in
    rw is
    (linked_more names _ c.greatest_slot-greatest.result i behind firsts nexts read (omega (arith, is, c.slot_of-slot.ensures.few))
    (c.index-in-loop-i.ensures ∙ ap (λ s. get_or firsts s behind) is)
    (subst (λ n. IsLinked names c.greatest_slot-greatest.result n firsts nexts) (sym above) c.loop-i.invariant))

pub invariant_of-result : goal.invariant_of-result
invariant_of-result g c =
    let done : c.loop-i.i ≡ 0 = omega arith in
    let kept : c.greatest_slot-greatest.result ≡ length c.loop-i.first_of.items - 1 =
    omega (arith, c.loop-i.invariant.slots) in
    record { linked = rw (done, kept) at c.loop-i.invariant }

pub loop-i-init : goal.loop-i-init
loop-i-init g c =
    linked_none _ c.greatest_slot-greatest.result c.len-count.result _ _
    (omega (arith, c.len-count.ensures, length-map c.args.texts.items (λ text. text.now)))
    (c.in_ok-first_of.ensures.items_if_clones_equal (λ y same. same))
    (ap length (c.in_ok-next_of.ensures.items_if_clones_equal (λ y same. same)) ∙ length-replicate _ _)

pub returns : goal.returns
returns g c = refl
