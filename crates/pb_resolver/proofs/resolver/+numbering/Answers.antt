use Rattle.std.proofs.Common.{arith, rules, ◌+◌, ap, ◌∙◌, map}
use Rattle.std.proofs.lemmas.List.{take_all, length-map}
use Rattle.std.proofs.lemmas.Result.{on_ok_weaker}
use Rattle.pb_tree.specs.View.{expr_view, stmt_view, stmts_view, arms_view, demand_view}
use Rattle.pb_tree.proofs.Smaller.{stmt_nodes_within, arm_nodes_within, arms_nodes_within}
use Rattle.pb_tree.proofs.Views as tree
use Rattle.pb_names.specs.Limits.{inner_arms_of_stmt}
use Rattle.pb_names.specs.Resolves.{no_stmt, no_arm}
use Rattle.pb_names.specs.Search.{names_in}
use Rattle.pb_names.proofs.FirstCauses.{free_left, free_right}
use Rattle.pb_names.proofs.Forks.{width-view, inner_more, arms_inner_more}
use Rattle.pb_names.proofs.NumberedLists.{resolves_more, numbered_more, resolves_more_arm, numbered_more_arm}
use Rattle.pb_resolver.proofs.ReadyParts.{ready_true, ready_false, ready_while, ready_hold, ready_arms, ready_at}
use Rattle.pb_resolver.proofs.ReadyParts.{arm_ready_at, true_within, false_within, loop_within, hold_within}
use Rattle.pb_resolver.proofs.resolver.+numbering.Goals as goal

-- ---- lists and arms

pub number_list-loop-stmt-init : goal.number_list-loop-stmt-init
number_list-loop-stmt-init g t c =
    rw c.in_ok-list.ensures.items (record { resolves = no_stmt; numbered = tt; next = omega arith })

pub number_arms-loop-arm-init : goal.number_arms-loop-arm-init
number_arms-loop-arm-init g t c =
    rw c.in_ok-list.ensures.items (record { resolves = no_arm; numbered = tt; next = omega arith })

pub number_list-returns-clause-resolves : goal.number_list-returns-clause-resolves
number_list-returns-clause-resolves g t c =
    rw (← c.deref-stmt-items.ensures.value, ← take_all c.loop-stmt.stmt-index c.deref-stmt-items.result.now (omega arith))
    c.loop-stmt.invariant.resolves

pub number_list-returns-clause-next : goal.number_list-returns-clause-next
number_list-returns-clause-next g t c =
    rw (← c.deref-stmt-items.ensures.value, ← take_all c.loop-stmt.stmt-index c.deref-stmt-items.result.now (omega arith))
    c.loop-stmt.invariant.next

pub number_list-loop-stmt-preserved : goal.number_list-loop-stmt-preserved
number_list-loop-stmt-preserved g t c =
    let items = c.deref-stmt-items.result.now in
    let i = c.loop-stmt.stmt-index in
    let inner = inner_more items i c.stmt-item.result c.stmt-item.is (omega arith) in
    let done = c.in_ok-number_stmt.ensures in
    record {
      resolves = resolves_more _ _ items i _ _ _ _ (omega arith) c.stmt-item.is done.added.pushed
          c.loop-stmt.invariant.resolves done.added.resolves;
      numbered = numbered_more _ _ _ _ _ _ _ _ done.added.pushed c.loop-stmt.invariant.next
          c.loop-stmt.invariant.resolves c.loop-stmt.invariant.numbered done.added.numbered;
      next = let now = done.next in let before = c.loop-stmt.invariant.next in omega arith;
    }

pub number_arms-loop-arm-preserved : goal.number_arms-loop-arm-preserved
number_arms-loop-arm-preserved g t c =
    let items = c.deref-arm-items.result.now in
    let i = c.loop-arm.arm-index in
    let inner = arms_inner_more items i c.arm-item.result c.arm-item.is (omega arith) in
    let done = c.in_ok-number_list.ensures in
    record {
      resolves = resolves_more_arm _ _ items i _ _ _ _ (omega arith) c.arm-item.is c.in_ok-push.ensures.items
          c.loop-arm.invariant.resolves done.resolves;
      numbered = numbered_more_arm _ _ _ _ _ _ _ _ c.in_ok-push.ensures.items c.loop-arm.invariant.next
          c.loop-arm.invariant.resolves c.loop-arm.invariant.numbered done.numbered;
      next = let now = done.next in let before = c.loop-arm.invariant.next in omega arith;
    }

pub number_list-number_stmt-requires : goal.number_list-number_stmt-requires
number_list-number_stmt-requires g t c κs within =
    let less = stmt_nodes_within _ _ _ _ c.deref-stmt-items.ensures.value c.stmt-item.is (omega arith) in
    let ready =
    ready_at _ _ _ _ _ c.deref-stmt-items.result.now c.loop-stmt.stmt-index c.stmt-item.result
    c.deref-stmt-items.ensures.value (omega arith) c.stmt-item.is c.loop-stmt.invariant.next c.requires.ready in
    search rules

pub number_arms-number_list-requires : goal.number_arms-number_list-requires
number_arms-number_list-requires g t c κs within =
    let less = arm_nodes_within _ _ _ _ c.deref-arm-items.ensures.value c.arm-item.is (omega arith) in
    let ready =
    arm_ready_at _ _ _ _ _ c.deref-arm-items.result.now c.loop-arm.arm-index c.arm-item.result
    c.deref-arm-items.ensures.value (omega arith) c.arm-item.is c.loop-arm.invariant.next c.requires.ready in
    search rules

-- ---- what calls ask

pub number_stmt-add_assign-requires-clause-known : goal.number_stmt-add_assign-requires-clause-known
number_stmt-add_assign-requires-clause-known g t c =
    let a = c.in-Assign in
    free_left (rw (ap stmt_view a.is ∙ tree.view-Assign a.line a.target a.value) at c.requires.ready.free)

pub number_stmt-add_assign-requires-clause-free : goal.number_stmt-add_assign-requires-clause-free
number_stmt-add_assign-requires-clause-free g t c =
    let a = c.in-Assign in
    free_right (rw (ap stmt_view a.is ∙ tree.view-Assign a.line a.target a.value) at c.requires.ready.free)

pub number_stmt-add_if-requires-clause-free : goal.number_stmt-add_if-requires-clause-free
number_stmt-add_if-requires-clause-free g t c =
    let a = c.in-If in
    free_left (rw (ap stmt_view a.is ∙ tree.view-If a.line a.test a.on_true a.on_false) at c.requires.ready.free)

pub number_stmt-add_while-requires-clause-free : goal.number_stmt-add_while-requires-clause-free
number_stmt-add_while-requires-clause-free g t c =
    let a = c.in-While in
    free_left (rw (ap stmt_view a.is ∙ tree.view-While a.line a.test a.body) at c.requires.ready.free)

pub number_stmt-add_hold-requires-clause-free : goal.number_stmt-add_hold-requires-clause-free
number_stmt-add_hold-requires-clause-free g t c =
    let a = c.in-Hold in
    free_left (rw (ap stmt_view a.is ∙ tree.view-Hold a.line a.demands a.body) at c.requires.ready.free)

pub number_stmt-add_hold-requires-clause-some : goal.number_stmt-add_hold-requires-clause-some
number_stmt-add_hold-requires-clause-some g t c =
    let a = c.in-Hold in
    let pairs = rw (ap stmt_view a.is ∙ tree.view-Hold a.line a.demands a.body) at c.requires.ready.complete in
    omega (arith, pairs.0, length-map a.demands.items demand_view)

pub number_stmt-number_list-requires : goal.number_stmt-number_list-requires
number_stmt-number_list-requires g t c κs within =
    let a = c.in-If in
    let less = true_within (stmt_view c.args.stmt.now) _ _ _ _ (ap stmt_view a.is ∙ tree.view-If a.line a.test a.on_true a.on_false) in
    let ready =
    ready_true (names_in c.args.integers.now) (names_in c.args.resources.now) _ a.line (expr_view a.test)
    (stmts_view a.on_true.items) (stmts_view a.on_false.items)
    (rw (ap stmt_view a.is ∙ tree.view-If a.line a.test a.on_true a.on_false) at c.requires.ready) in
    search rules

pub number_stmt-number_list-requires-in-If : goal.number_stmt-number_list-requires-in-If
number_stmt-number_list-requires-in-If g t c κs within =
    let a = c.in-If in
    let less = false_within (stmt_view c.args.stmt.now) _ _ _ _ (ap stmt_view a.is ∙ tree.view-If a.line a.test a.on_true a.on_false) in
    let ready =
    ready_false (names_in c.args.integers.now) (names_in c.args.resources.now) _ _ a.line (expr_view a.test)
    (stmts_view a.on_true.items) (stmts_view a.on_false.items) c.in_ok-on_true-in-If.ensures.next
    (rw (ap stmt_view a.is ∙ tree.view-If a.line a.test a.on_true a.on_false) at c.requires.ready) in
    search rules

pub number_stmt-number_list-requires-in-While : goal.number_stmt-number_list-requires-in-While
number_stmt-number_list-requires-in-While g t c κs within =
    let a = c.in-While in
    let less = loop_within (stmt_view c.args.stmt.now) _ _ _ (ap stmt_view a.is ∙ tree.view-While a.line a.test a.body) in
    let ready =
    ready_while (names_in c.args.integers.now) (names_in c.args.resources.now) _ a.line (expr_view a.test) (stmts_view a.body.items)
    (rw (ap stmt_view a.is ∙ tree.view-While a.line a.test a.body) at c.requires.ready) in
    search rules

pub number_stmt-number_list-requires-in-Hold : goal.number_stmt-number_list-requires-in-Hold
number_stmt-number_list-requires-in-Hold g t c κs within =
    let a = c.in-Hold in
    let less = hold_within (stmt_view c.args.stmt.now) _ _ _ (ap stmt_view a.is ∙ tree.view-Hold a.line a.demands a.body) in
    let ready =
    ready_hold (names_in c.args.integers.now) (names_in c.args.resources.now) _ a.line (map demand_view a.demands.items)
    (stmts_view a.body.items)
    (rw (ap stmt_view a.is ∙ tree.view-Hold a.line a.demands a.body) at c.requires.ready) in
    search rules

pub number_stmt-number_arms-requires : goal.number_stmt-number_arms-requires
number_stmt-number_arms-requires g t c κs within =
    let a = c.in-Parbegin in
    let less = arms_nodes_within c.args.stmt.now _ _ a.is in
    let ready =
    ready_arms (names_in c.args.integers.now) (names_in c.args.resources.now) c.args.next.now (c.args.next.now + c.len.result) a.line (arms_view a.arms.items)
    (omega (arith, width-view a.arms.items))
    (rw (ap stmt_view a.is ∙ tree.view-Parbegin a.line a.arms) at c.requires.ready) in
    search rules

-- ---- statements

pub number_stmt-returns-in-Assign-clause-added : goal.number_stmt-returns-in-Assign-clause-added
number_stmt-returns-in-Assign-clause-added g t c =
    let a = c.in-Assign in
    rw (ap stmt_view a.is ∙ tree.view-Assign a.line a.target a.value) (c.add_assign.ensures _ _)

pub number_stmt-returns-in-Print-clause-added : goal.number_stmt-returns-in-Print-clause-added
number_stmt-returns-in-Print-clause-added g t c =
    let a = c.in-Print in
    rw (ap stmt_view a.is ∙ tree.view-Print a.line a.value) (c.add_print.ensures _ _)

pub number_stmt-returns-in_ok-on_false-in-If-clause-added : goal.number_stmt-returns-in_ok-on_false-in-If-clause-added
number_stmt-returns-in_ok-on_false-in-If-clause-added g t c =
    let a = c.in-If in
    let first = c.in_ok-on_true-in-If.ensures in
    let second = c.in_ok-on_false-in-If.ensures in
    rw (ap stmt_view a.is ∙ tree.view-If a.line a.test a.on_true a.on_false)
    (c.add_if.ensures _ _ _ _ _ first.resolves second.resolves first.numbered first.next second.numbered)

pub number_stmt-returns-in_ok-on_false-in-If-clause-next : goal.number_stmt-returns-in_ok-on_false-in-If-clause-next
number_stmt-returns-in_ok-on_false-in-If-clause-next g t c =
    let a = c.in-If in
    let first = c.in_ok-on_true-in-If.ensures in
    let second = c.in_ok-on_false-in-If.ensures in
    let then = first.next in
    let next = second.next in
    on_ok_weaker c.add_if.result
    (λ _. omega (arith, ap inner_arms_of_stmt (ap stmt_view a.is ∙ tree.view-If a.line a.test a.on_true a.on_false)))
    (c.add_if.ensures _ _ _ _ _ first.resolves second.resolves first.numbered first.next second.numbered)

pub number_stmt-returns-in_ok-body-in-While-clause-added : goal.number_stmt-returns-in_ok-body-in-While-clause-added
number_stmt-returns-in_ok-body-in-While-clause-added g t c =
    let a = c.in-While in
    let inside = c.in_ok-body-in-While.ensures in
    rw (ap stmt_view a.is ∙ tree.view-While a.line a.test a.body)
    (c.add_while.ensures _ _ _ inside.resolves inside.numbered)

pub number_stmt-returns-in_ok-body-in-While-clause-next : goal.number_stmt-returns-in_ok-body-in-While-clause-next
number_stmt-returns-in_ok-body-in-While-clause-next g t c =
    let a = c.in-While in
    let inside = c.in_ok-body-in-While.ensures in
    let next = inside.next in
    on_ok_weaker c.add_while.result
    (λ _. omega (arith, ap inner_arms_of_stmt (ap stmt_view a.is ∙ tree.view-While a.line a.test a.body)))
    (c.add_while.ensures _ _ _ inside.resolves inside.numbered)

pub number_stmt-returns-in_ok-body-in-Hold-clause-added : goal.number_stmt-returns-in_ok-body-in-Hold-clause-added
number_stmt-returns-in_ok-body-in-Hold-clause-added g t c =
    let a = c.in-Hold in
    let inside = c.in_ok-body-in-Hold.ensures in
    rw (ap stmt_view a.is ∙ tree.view-Hold a.line a.demands a.body)
    (c.add_hold.ensures _ _ _ inside.resolves inside.numbered)

pub number_stmt-returns-in_ok-body-in-Hold-clause-next : goal.number_stmt-returns-in_ok-body-in-Hold-clause-next
number_stmt-returns-in_ok-body-in-Hold-clause-next g t c =
    let a = c.in-Hold in
    let inside = c.in_ok-body-in-Hold.ensures in
    let next = inside.next in
    on_ok_weaker c.add_hold.result
    (λ _. omega (arith, ap inner_arms_of_stmt (ap stmt_view a.is ∙ tree.view-Hold a.line a.demands a.body)))
    (c.add_hold.ensures _ _ _ inside.resolves inside.numbered)

pub number_stmt-returns-in_ok-arms-in-Parbegin-clause-added : goal.number_stmt-returns-in_ok-arms-in-Parbegin-clause-added
number_stmt-returns-in_ok-arms-in-Parbegin-clause-added g t c =
    let a = c.in-Parbegin in
    let narrow = rw (ap stmt_view a.is ∙ tree.view-Parbegin a.line a.arms) at c.requires.ready.narrow in
    let whole = rw (ap stmt_view a.is ∙ tree.view-Parbegin a.line a.arms) at c.requires.ready.complete in
    let inside = c.in_ok-arms-in-Parbegin.ensures in
    let n = c.len.ensures in
    rw (ap stmt_view a.is ∙ tree.view-Parbegin a.line a.arms)
    (c.add_parbegin.ensures _ _ _ _ whole.0 (omega arith) inside.resolves
    (omega (arith, width-view a.arms.items)) inside.numbered)

pub number_stmt-returns-in_ok-arms-in-Parbegin-clause-next : goal.number_stmt-returns-in_ok-arms-in-Parbegin-clause-next
number_stmt-returns-in_ok-arms-in-Parbegin-clause-next g t c =
    let a = c.in-Parbegin in
    let narrow = rw (ap stmt_view a.is ∙ tree.view-Parbegin a.line a.arms) at c.requires.ready.narrow in
    let whole = rw (ap stmt_view a.is ∙ tree.view-Parbegin a.line a.arms) at c.requires.ready.complete in
    let inside = c.in_ok-arms-in-Parbegin.ensures in
    let next = inside.next in
    let n = c.len.ensures in
    on_ok_weaker c.add_parbegin.result
    (λ _. omega (
      arith,
      width-view a.arms.items,
      ap inner_arms_of_stmt (ap stmt_view a.is ∙ tree.view-Parbegin a.line a.arms),
    ))
    (c.add_parbegin.ensures _ _ _ _ whole.0 (omega arith) inside.resolves
    (omega (arith, width-view a.arms.items)) inside.numbered)

pub number_stmt-returns-in-Assign-clause-next : goal.number_stmt-returns-in-Assign-clause-next
number_stmt-returns-in-Assign-clause-next g t c =
    let a = c.in-Assign in
    on_ok_weaker c.add_assign.result
    (λ _. omega (arith, ap inner_arms_of_stmt (ap stmt_view a.is ∙ tree.view-Assign a.line a.target a.value)))
    (c.add_assign.ensures (names_in c.args.resources.now) 0)

pub number_stmt-returns-in-Print-clause-next : goal.number_stmt-returns-in-Print-clause-next
number_stmt-returns-in-Print-clause-next g t c =
    let a = c.in-Print in
    on_ok_weaker c.add_print.result
    (λ _. omega (arith, ap inner_arms_of_stmt (ap stmt_view a.is ∙ tree.view-Print a.line a.value)))
    (c.add_print.ensures (names_in c.args.resources.now) 0)

pub number_arms-returns-clause-resolves : goal.number_arms-returns-clause-resolves
number_arms-returns-clause-resolves g t c =
    rw (← c.deref-arm-items.ensures.value, ← take_all c.loop-arm.arm-index c.deref-arm-items.result.now (omega arith))
    c.loop-arm.invariant.resolves

pub number_arms-returns-clause-next : goal.number_arms-returns-clause-next
number_arms-returns-clause-next g t c =
    rw (← c.deref-arm-items.ensures.value, ← take_all c.loop-arm.arm-index c.deref-arm-items.result.now (omega arith))
    c.loop-arm.invariant.next

pub number_list-returns-clause-numbered : goal.number_list-returns-clause-numbered
number_list-returns-clause-numbered g t c = c.loop-stmt.invariant.numbered

pub number_arms-returns-clause-numbered : goal.number_arms-returns-clause-numbered
number_arms-returns-clause-numbered g t c = c.loop-arm.invariant.numbered

pub number_stmt-overflow_cast-first : goal.number_stmt-overflow_cast-first
number_stmt-overflow_cast-first g t c = omega (arith, c.requires.ready.room)

pub number_stmt-overflow_add-next : goal.number_stmt-overflow_add-next
number_stmt-overflow_add-next g t c =
    let a = c.in-Parbegin in
    let room = rw (ap stmt_view a.is ∙ tree.view-Parbegin a.line a.arms) at c.requires.ready.room in
    omega (arith, room, c.len.ensures, width-view a.arms.items)
