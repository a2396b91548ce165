use Rattle.std.proofs.Common.{sym, ◌∙◌, arith}
use Rattle.pb_json_lines.proofs.LineLemmas.{parts_end}
use Rattle.pb_json_lines.proofs.text.parts_of.Goals as goal

pub returns-then-not-is_part : goal.returns-then-not-is_part
returns-then-not-is_part c =
    parts_end c.args.lines.now c.loop-i.i _ (omega arith) (sym c.is_part.ensures ∙ c.if-not-is_part.true) c.loop-i.invariant
