use Rattle.std.proofs.Common.{Bool, ap, ◌∙◌, arith}
use Rattle.pb_outline.proofs.Offsets.{character_more, found_more, line_more, next_number, position_more, reaches}
use Rattle.pb_outline.specs.Positions.{behind}
use Rattle.pb_outline.proofs.position.offset_at.Goals as goal

pub loop-i-preserved : goal.loop-i-preserved
loop-i-preserved c =
    let at = c.loop-i.invariant in
    let is = c.behind-here.ensures in
    record {
      value = position_more c.args.text.now c.loop-i.i c.loop-i.here c.behind-here.result (omega arith) at.value
          (is ∙ ap (λ (b : Bool). behind c.loop-i.here b) c.ends_line.ensures);
      line = line_more c.loop-i.here c.behind-here.result _ c.loop-i.i is at.line;
      character = character_more c.loop-i.here c.behind-here.result _ c.loop-i.i is at.character;
      found = found_more c.args.text.now c.args.position c.loop-i.here c.loop-i.i c.loop-i.found c.later_of-found.result c.is_up_to.result at.value
          at.found c.is_up_to.ensures c.later_of-found.ensures ∙ next_number (reaches c.args.text.now c.args.position) c.loop-i.i;
    }
