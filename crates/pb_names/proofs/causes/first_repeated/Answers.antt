use Rattle.std.proofs.Common.{◌≢◌, Some, map, arith, ap, sym, ◌∙◌, refl, rules}
use Rattle.std.specs.Prelude.{slice_get}
use Rattle.std.specs.Cmp.Lexicographic.{same_text, other_text}
use borrow.Author.Count.{below_more}
use Rattle.pb_tree.specs.View.{name_view}
use Rattle.pb_names.specs.declared.causes.Wrong.TheVariants.{Repeated}
use Rattle.pb_base.proofs.Lists.{view_read}
use Rattle.pb_names.proofs.NameNumbers.{again_here, again_nowhere, demand_texts}
use Rattle.pb_names.proofs.causes.first_repeated.Goals as goal
use Rattle.pb_base.proofs.Lists.{some_same}

pub returns-then-eq : goal.returns-then-eq
returns-then-eq g c =
    let ds = c.args.demands.now.items in
    let read = view_read (λ d. d.resource.text.items) ds ds c.loop-i.i c.index.result.now refl (omega arith) c.index.ensures in
    let same = same_text _ _ (sym c.if-eq.true ∙ c.eq.ensures) in
    rw demand_texts
    (again_here Repeated _ _ c.loop-i.i (name_view c.args.name.now) (omega arith)
    (read ∙ ap Some (sym c.as_slice.ensures.value ∙ same ∙ c.as_slice-in-loop-i.ensures.value)))

pub loop-i-preserved : goal.loop-i-preserved
loop-i-preserved g c =
    let ds = c.args.demands.now.items in
    let read = view_read (λ d. d.resource.text.items) ds ds c.loop-i.i c.index.result.now refl (omega arith) c.index.ensures in
    let other = other_text _ _ (sym c.if-eq.false ∙ c.eq.ensures) in
    below_more (λ k. slice_get (map (λ d. d.resource.text.items) ds) k ≢ Some c.args.name.now.text.items) _
    c.loop-i.invariant
    (λ here. other (c.as_slice.ensures.value ∙ some_same (sym read ∙ here) ∙ sym c.as_slice-in-loop-i.ensures.value))

pub returns : goal.returns
returns g c =
    rw demand_texts (again_nowhere Repeated _ _ (name_view c.args.name.now) (λ k below. c.loop-i.invariant k (omega arith)))

pub loop-i-init : goal.loop-i-init
loop-i-init g c = search rules fits 100
