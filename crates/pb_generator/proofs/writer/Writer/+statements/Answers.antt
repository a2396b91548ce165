use Rattle.std.proofs.Common.{rules, arith, ◌≡◌, ◌≤◌, ◌+◌, length, Some, length-append, ap, drop, refl, ◌∙◌}
use Rattle.std.proofs.lemmas.List.{take_all, drop_all}
use Rattle.pb_names.proofs.Sizes.{stmt_size_within}
use Rattle.pb_names.specs.Program.{arms_in, arms_in_arms, arms_in_stmt, arms_list}
use Rattle.pb_names.specs.View.{arms_view, block_view, expr_view, stmt_view}
use Rattle.pb_names.proofs.Views.{numbered-Assign, numbered-Print, numbered-If, numbered-While, numbered-Hold, numbered-Parbegin}
use Rattle.pb_generator.specs.Emitted.{HasRoom, place}
use Rattle.pb_generator.specs.Generate.{stmt_code, block_code}
use Rattle.pb_generator.specs.Lines.{block_lines, block_line}
use Rattle.pb_generator.proofs.Parts.{adds_nothing, adds_as, adds-place, place-replaced, bundle_kept}
use Rattle.pb_generator.proofs.Lists.{block_written, few_arms_in_stmt, room_for_stmt}
use Rattle.pb_names.proofs.NumberedLists.{length-arms_list}
use Rattle.pb_generator.proofs.Ends.{if_fits, while_fits, hold_fits}
use Rattle.pb_generator.proofs.Statements.{adds_if, adds_while, adds_hold}
use Rattle.pb_generator.proofs.writer.Writer.+statements.Goals as goal

pub put_block-loop-i-init : goal.put_block-loop-i-init
put_block-loop-i-init g t c = adds_nothing c.args.self.now c.requires.room.sound

pub put_block-put_stmt-requires : goal.put_block-put_stmt-requires
put_block-put_stmt-requires g t c κs within =
    let all = c.args.stmts.now.items in
    let stmts = c.deref-stmt-items.result.now in
    let i = c.loop-i.i in
    let stmt = c.stmt-item.result in
    let done = rw (← c.deref-stmt-items.ensures.value) at c.loop-i.invariant in
    let less = stmt_size_within all stmts i stmt c.deref-stmt-items.ensures.value c.stmt-item.is c.loop-i-test.true in
    let room : HasRoom c.loop-i.self (stmt_code (place c.loop-i.self) (stmt_view stmt)) =
    room_for_stmt all stmts i stmt c.deref-stmt-items.ensures.value c.stmt-item.is c.loop-i-test.true c.requires.room done in
    let few : length (arms_in_stmt (stmt_view stmt)) ≤ 64 =
    few_arms_in_stmt all stmts i 64 stmt c.deref-stmt-items.ensures.value c.stmt-item.is c.loop-i-test.true c.requires.few_arms in
    search rules

pub put_block-loop-i-preserved : goal.put_block-loop-i-preserved
put_block-loop-i-preserved g t c =
    let stmts = c.deref-stmt-items.result.now in
    let done = rw (← c.deref-stmt-items.ensures.value) at c.loop-i.invariant in
    let next = rw (← c.deref-stmt-items.ensures.value) at c.line_after.ensures in
    rw (← c.deref-stmt-items.ensures.value)
    (block_written stmts c.loop-i.i c.stmt-item.result c.args.after c.line_after.result
    c.stmt-item.is c.loop-i-test.true next done c.in_ok-put_stmt.ensures)

pub put_hold-returns : goal.put_hold-returns
put_hold-returns g t c =
    let kept = bundle_kept c.in_ok-put_block.ensures c.in_ok-bundle.bundle c.args.bundle.now c.in_ok-bundle.ensures.bundle in
    adds_hold c.args.line c.args.bundle.now (block_view c.args.body.now.items) _
    c.in_ok-bundle.ensures.added c.in_ok-put_block.ensures c.in_ok-put.ensures kept.1 (Some c.args.line)

pub put_if-returns : goal.put_if-returns
put_if-returns g t c =
    adds_if c.args.line (expr_view c.args.test.now) (block_view c.args.on_true.now.items) (block_view c.args.on_false.now.items)
    c.args.after c.place-to_other.result c.place-other.result c.place-to_end.result c.place-end.result
    c.in_ok-put_expr.ensures c.in_ok-put.ensures c.in_ok-put_block.ensures c.in_ok-put-2.ensures c.patch.ensures
    c.in_ok-put_block-2.ensures c.patch-2.ensures
    c.place-to_other.ensures c.place-other.ensures c.place-to_end.ensures c.place-end.ensures

pub put_stmt-put_parbegin-requires-clause-few_arms :
    goal.put_stmt-put_parbegin-requires-clause-few_arms
put_stmt-put_parbegin-requires-clause-few_arms g t c =
    let arms = arms_view c.in-Parbegin.arms.items in
    let few = rw (c.in-Parbegin.is, numbered-Parbegin) at c.requires.few_arms in
    let all = length-arms_list arms in
    omega (arith, few, all, length-append (arms_list arms) (arms_in_arms arms))

pub put_stmt-returns-in-Parbegin : goal.put_stmt-returns-in-Parbegin
put_stmt-returns-in-Parbegin g t c = rw (c.in-Parbegin.is, numbered-Parbegin) c.put_parbegin.ensures

pub put_while-returns : goal.put_while-returns
put_while-returns g t c =
    adds_while c.args.line (expr_view c.args.test.now) (block_view c.args.body.now.items)
    c.place-start.result c.place-to_end.result c.place-end.result
    c.in_ok-put_expr.ensures c.in_ok-put.ensures c.in_ok-put_block.ensures c.in_ok-put-2.ensures c.patch.ensures
    c.place-start.ensures c.place-to_end.ensures c.place-end.ensures (Some c.args.line)

-- ---- what an if asks

pub put_if-place-to_other-requires : goal.put_if-place-to_other-requires
put_if-place-to_other-requires g t c =
    let fits =
    if_fits (place c.args.self.now) c.args.line (expr_view c.args.test.now) (block_view c.args.on_true.now.items) (block_view c.args.on_false.now.items)
    (place c.put_expr.new.self) _ _ _ c.requires.room.small (adds-place c.in_ok-put_expr.ensures) refl refl refl in
    omega (arith, fits)

pub put_if-put_block-requires : goal.put_if-put_block-requires
put_if-put_block-requires g t c κs within =
    let fits =
    if_fits (place c.args.self.now) c.args.line (expr_view c.args.test.now) (block_view c.args.on_true.now.items) (block_view c.args.on_false.now.items)
    (place c.put_expr.new.self) (place c.put.new.self) _ _ c.requires.room.small (adds-place c.in_ok-put_expr.ensures)
    (adds-place c.in_ok-put.ensures) refl refl in
    let room : HasRoom c.put.new.self (block_code (place c.put.new.self) (block_view c.args.on_true.now.items)) =
    record { sound = c.in_ok-put.ensures.sound; small = omega (arith, fits) } in
    let few : length (arms_in (block_view c.args.on_true.now.items)) ≤ 64 =
    omega (arith, c.requires.few_arms, length-append (arms_in (block_view c.args.on_true.now.items)) (arms_in (block_view c.args.on_false.now.items))) in
    search rules

pub put_if-place-to_end-requires : goal.put_if-place-to_end-requires
put_if-place-to_end-requires g t c =
    let fits =
    if_fits (place c.args.self.now) c.args.line (expr_view c.args.test.now) (block_view c.args.on_true.now.items) (block_view c.args.on_false.now.items)
    (place c.put_expr.new.self) (place c.put.new.self) (place c.put_block.new.self) _ c.requires.room.small (adds-place c.in_ok-put_expr.ensures)
    (adds-place c.in_ok-put.ensures) (adds-place c.in_ok-put_block.ensures) refl in
    omega (arith, fits)

pub put_if-place-other-requires : goal.put_if-place-other-requires
put_if-place-other-requires g t c =
    let fits =
    if_fits (place c.args.self.now) c.args.line (expr_view c.args.test.now) (block_view c.args.on_true.now.items) (block_view c.args.on_false.now.items)
    (place c.put_expr.new.self) (place c.put.new.self) (place c.put_block.new.self)
    (place c.put-2.new.self) c.requires.room.small (adds-place c.in_ok-put_expr.ensures)
    (adds-place c.in_ok-put.ensures) (adds-place c.in_ok-put_block.ensures) (adds-place c.in_ok-put-2.ensures) in
    omega (arith, fits)

pub put_if-patch-requires-clause-there : goal.put_if-patch-requires-clause-there
put_if-patch-requires-clause-there g t c =
    omega (arith, c.place-to_other.ensures, adds-place c.in_ok-put.ensures, adds-place c.in_ok-put_block.ensures, adds-place c.in_ok-put-2.ensures)

pub put_if-put_block-requires-2 : goal.put_if-put_block-requires-2
put_if-put_block-requires-2 g t c κs within =
    let same : (place c.patch.new.self) ≡ (place c.put_block.new.self) + 1 = omega (arith, place-replaced c.patch.ensures, adds-place c.in_ok-put-2.ensures) in
    let fits =
    if_fits (place c.args.self.now) c.args.line (expr_view c.args.test.now) (block_view c.args.on_true.now.items) (block_view c.args.on_false.now.items)
    (place c.put_expr.new.self) (place c.put.new.self) (place c.put_block.new.self)
    (place c.patch.new.self) c.requires.room.small (adds-place c.in_ok-put_expr.ensures)
    (adds-place c.in_ok-put.ensures) (adds-place c.in_ok-put_block.ensures) same in
    let room : HasRoom c.patch.new.self (block_code (place c.patch.new.self) (block_view c.args.on_false.now.items)) =
    record { sound = c.patch.ensures.sound; small = fits } in
    let few : length (arms_in (block_view c.args.on_false.now.items)) ≤ 64 =
    omega (arith, c.requires.few_arms, length-append (arms_in (block_view c.args.on_true.now.items)) (arms_in (block_view c.args.on_false.now.items))) in
    search rules

pub put_if-place-end-requires : goal.put_if-place-end-requires
put_if-place-end-requires g t c =
    let same : (place c.patch.new.self) ≡ (place c.put_block.new.self) + 1 = omega (arith, place-replaced c.patch.ensures, adds-place c.in_ok-put-2.ensures) in
    let fits =
    if_fits (place c.args.self.now) c.args.line (expr_view c.args.test.now) (block_view c.args.on_true.now.items) (block_view c.args.on_false.now.items)
    (place c.put_expr.new.self) (place c.put.new.self) (place c.put_block.new.self)
    (place c.patch.new.self) c.requires.room.small (adds-place c.in_ok-put_expr.ensures)
    (adds-place c.in_ok-put.ensures) (adds-place c.in_ok-put_block.ensures) same in
    omega (arith, fits, adds-place c.in_ok-put_block-2.ensures)

-- ---- what a while asks

pub put_while-place-to_end-requires : goal.put_while-place-to_end-requires
put_while-place-to_end-requires g t c =
    let fits =
    while_fits (place c.args.self.now) c.args.line (expr_view c.args.test.now) (block_view c.args.body.now.items)
    (place c.put_expr.new.self) _ _ c.requires.room.small (adds-place c.in_ok-put_expr.ensures) refl refl in
    omega (arith, fits)

pub put_while-put_block-requires : goal.put_while-put_block-requires
put_while-put_block-requires g t c κs within =
    let fits =
    while_fits (place c.args.self.now) c.args.line (expr_view c.args.test.now) (block_view c.args.body.now.items)
    (place c.put_expr.new.self) (place c.put.new.self) _ c.requires.room.small (adds-place c.in_ok-put_expr.ensures)
    (adds-place c.in_ok-put.ensures) refl in
    let room : HasRoom c.put.new.self (block_code (place c.put.new.self) (block_view c.args.body.now.items)) =
    record { sound = c.in_ok-put.ensures.sound; small = omega (arith, fits) } in
    let few = c.requires.few_arms in
    search rules

pub put_while-place-end-requires : goal.put_while-place-end-requires
put_while-place-end-requires g t c =
    let fits =
    while_fits (place c.args.self.now) c.args.line (expr_view c.args.test.now) (block_view c.args.body.now.items)
    (place c.put_expr.new.self) (place c.put.new.self) (place c.put_block.new.self) c.requires.room.small (adds-place c.in_ok-put_expr.ensures)
    (adds-place c.in_ok-put.ensures) (adds-place c.in_ok-put_block.ensures) in
    omega (arith, fits, adds-place c.in_ok-put-2.ensures)

pub put_while-patch-requires-clause-there : goal.put_while-patch-requires-clause-there
put_while-patch-requires-clause-there g t c =
    omega (arith, c.place-to_end.ensures, adds-place c.in_ok-put.ensures, adds-place c.in_ok-put_block.ensures, adds-place c.in_ok-put-2.ensures)

-- ---- what a hold asks

pub put_hold-put_block-requires : goal.put_hold-put_block-requires
put_hold-put_block-requires g t c κs within =
    let fits =
    hold_fits (place c.args.self.now) c.args.line c.args.bundle.now (block_view c.args.body.now.items)
    (place c.put_take.new.self) c.requires.room.small (adds-place c.in_ok-bundle.ensures.added) in
    let room : HasRoom c.put_take.new.self (block_code (place c.put_take.new.self) (block_view c.args.body.now.items)) =
    record { sound = c.in_ok-bundle.ensures.added.sound; small = omega (arith, fits) } in
    let few = c.requires.few_arms in
    search rules

-- ---- statements and lists

pub put_stmt-returns-in-If : goal.put_stmt-returns-in-If
put_stmt-returns-in-If g t c =
    rw (c.in-If.is, numbered-If) c.put_if.ensures

pub put_stmt-returns-in-While : goal.put_stmt-returns-in-While
put_stmt-returns-in-While g t c =
    rw (c.in-While.is, numbered-While) c.put_while.ensures

pub put_stmt-returns-in-Hold : goal.put_stmt-returns-in-Hold
put_stmt-returns-in-Hold g t c =
    rw (c.in-Hold.is, numbered-Hold) c.put_hold.ensures

pub put_stmt-returns-in-Assign : goal.put_stmt-returns-in-Assign
put_stmt-returns-in-Assign g t c =
    rw (c.in-Assign.is, numbered-Assign) c.put_last.ensures

pub put_stmt-returns-in-Print : goal.put_stmt-returns-in-Print
put_stmt-returns-in-Print g t c =
    rw (c.in-Print.is, numbered-Print) c.put_last-in-Print.ensures

pub put_block-returns : goal.put_block-returns
put_block-returns g t c =
    let stmts = c.args.stmts.now.items in
    let after = c.args.after in
    let p = place c.args.self.now in
    let end : length stmts ≤ c.loop-i.i =
    omega (arith, ap length c.deref-stmt-items.ensures.value) in
    let all = take_all c.loop-i.i stmts end in
    adds_as c.loop-i.invariant (ap (λ ss. block_code p (block_view ss)) all)
    (ap (λ ss. block_lines (block_view ss) (block_line (block_view (drop c.loop-i.i stmts)) after)) all
    ∙ ap (λ ss. block_lines (block_view stmts) (block_line (block_view ss) after)) (drop_all c.loop-i.i stmts end))
