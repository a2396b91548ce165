use Rattle.std.proofs.Common.{◌≡◌, ◌-◌, Some, None, length, ap, sym, ◌∙◌}
use Rattle.std.specs.Prelude.{slice_get}
use Rattle.pb_names.specs.HeadLines.{head_line as line_of_first}
use Rattle.pb_rewrite.specs.View.{arm_view}
use Rattle.pb_rewrite.proofs.FirstLines.{body_some, body_none, items_some, items_none}
use Rattle.pb_rewrite.proofs.Views.{view-Fresh, view-Doing}
use Rattle.pb_rewrite.proofs.arm.head_line.Goals as goal

pub returns-in-Some : goal.returns-in-Some
returns-in-Some g c =
    let body = c.in-Fresh.body in
    let there : slice_get body.items 0 ≡ Some c.in-Some.stmt.now = sym (rw c.deref.ensures.value at c.in-Some.ensures.value) in
    ap Some c.line.ensures ∙ sym (body_some body.items c.in-Some.stmt.now there)
    ∙ ap line_of_first (sym (view-Fresh body)) ∙ ap (λ a. line_of_first (arm_view a)) (sym c.in-Fresh.is)

pub returns-in-None : goal.returns-in-None
returns-in-None g c =
    let body = c.in-Fresh.body in
    let there : slice_get body.items 0 ≡ None = sym (rw c.deref.ensures.value at c.in-None.ensures.value) in
    sym (body_none body.items there)
    ∙ ap line_of_first (sym (view-Fresh body)) ∙ ap (λ a. line_of_first (arm_view a)) (sym c.in-Fresh.is)

pub returns-in-Some-last : goal.returns-in-Some-last
returns-in-Some-last g c =
    let items = c.in-Doing.items in
    let there : slice_get items.items (length items.items - 1) ≡ Some c.in-Some-last.item.now = sym (rw
    c.deref-in-Doing.ensures.value at c.in-Some-last.ensures.value) in
    ap Some c.line_of.ensures ∙ sym (items_some items.items c.in-Some-last.item.now there)
    ∙ ap line_of_first (sym (view-Doing items)) ∙ ap (λ a. line_of_first (arm_view a)) (sym c.in-Doing.is)

pub returns-in-None-last : goal.returns-in-None-last
returns-in-None-last g c =
    let items = c.in-Doing.items in
    let there : slice_get items.items (length items.items - 1) ≡ None = sym (rw c.deref-in-Doing.ensures.value at c.in-None-last.ensures.value) in
    sym (items_none items.items there)
    ∙ ap line_of_first (sym (view-Doing items)) ∙ ap (λ a. line_of_first (arm_view a)) (sym c.in-Doing.is)
