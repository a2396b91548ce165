use Rattle.std.proofs.Common.{◌+◌, ◌*◌, take, drop}
use Rattle.pb_names.proofs.Sizes.{stmt_size, block_size}
use Rattle.pb_generator.specs.Emitted.{Adds, place}
use Rattle.pb_generator.specs.Generate.{block_code}
use Rattle.pb_generator.specs.Lines.{block_lines, block_line}
use Rattle.pb_names.specs.View.{block_view, stmt_view}
use Rattle.pb_generator.proofs.writer.Writer.+statements.Given as goal

abbrev pub decreases-put_stmt : goal.decreases-put_stmt
decreases-put_stmt g l = 3 * stmt_size (stmt_view l.stmt.now) + 1

abbrev pub decreases-put_block : goal.decreases-put_block
decreases-put_block g l = 3 * block_size (block_view l.stmts.now.items) + 2

abbrev pub decreases-put_if : goal.decreases-put_if
decreases-put_if g l = 3 * (1 + (block_size (block_view l.on_true.now.items) + block_size (block_view l.on_false.now.items)))

abbrev pub decreases-put_while : goal.decreases-put_while
decreases-put_while g l = 3 * (1 + block_size (block_view l.body.now.items))

abbrev pub decreases-put_hold : goal.decreases-put_hold
decreases-put_hold g l = 3 * (1 + block_size (block_view l.body.now.items))

abbrev pub invariant-put_block-loop-i : goal.invariant-put_block-loop-i
invariant-put_block-loop-i g l =
    let done = block_view (take l.i l.stmts.items) in
    Adds l.initial.self l.self (block_code (place l.initial.self) done)
    (block_lines done (block_line (block_view (drop l.i l.stmts.items)) l.after))
