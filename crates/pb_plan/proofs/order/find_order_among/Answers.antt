use Rattle.std.proofs.Common.{◌≡◌, ◌∙◌, true, false, arith, eq-eqb, map, sym, vec_len}
use Rattle.std.proofs.lemmas.Bool.{eqb-true}
use Rattle.pb_names.specs.View.{process_view}
use Rattle.pb_plan.proofs.OrderLemmas.{all_followed, all_placed, none_followed}
use Rattle.pb_plan.proofs.order.find_order_among.Goals as goal

pub returns-then-is_empty-clause-some : goal.returns-then-is_empty-clause-some
returns-then-is_empty-clause-some g c =
    let n = eqb-true (vec_len c.in_ok-sorted.sorted.left) 0 (sym c.if-is_empty.ensures) in
    let l = c.in_ok-sorted.sorted.left.ok.0 in
    all_placed (map process_view c.args.processes.now) c.args.resources c.requires c.args.among.now
    c.in_ok-sorted.sorted.order.items c.in_ok-sorted.sorted.left.items (omega (arith, n, l)) c.in_ok-sorted.ensures.begun

pub returns-then-is_empty-clause-followed : goal.returns-then-is_empty-clause-followed
returns-then-is_empty-clause-followed g c =
    let n = eqb-true (vec_len c.in_ok-sorted.sorted.left) 0 (sym c.if-is_empty.ensures) in
    let l = c.in_ok-sorted.sorted.left.ok.0 in
    all_followed (map process_view c.args.processes.now) c.args.resources c.requires c.args.among.now
    c.in_ok-sorted.sorted.order.items c.in_ok-sorted.sorted.left.items (omega (arith, n, l)) c.in_ok-sorted.ensures.begun

pub returns-clause-none : goal.returns-clause-none
returns-clause-none g c =
    let processes = map process_view c.args.processes.now in
    let l = c.in_ok-sorted.sorted.left.ok.0 in
    none_followed processes c.args.resources c.requires c.args.among.now c.in_ok-sorted.sorted.order.items
    c.in_ok-sorted.sorted.left.items c.in_ok-sorted.ensures.begun
    (λ none.
    let w : true ≡ false =
    sym (eq-eqb (vec_len c.in_ok-sorted.sorted.left) 0 (omega (arith, none, l))) ∙ sym c.if-is_empty.ensures in
    cc)
    c.in_ok-sorted.ensures.left
