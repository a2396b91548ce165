use Rattle.std.proofs.Common.{◌≡◌, Bool, ap, ◌∙◌, arith}
use Rattle.pb_outline.specs.Positions.{behind, position_of}
use Rattle.pb_outline.proofs.Offsets.{character_more, line_more, position_min, position_more}
use Rattle.pb_outline.proofs.position.position_of.Goals as goal

pub loop-i-preserved : goal.loop-i-preserved
loop-i-preserved c =
    let at = c.loop-i.invariant in
    let is = c.behind-position.ensures in
    record {
      value = position_more c.args.text.now c.loop-i.i c.loop-i.position c.behind-position.result (omega arith) at.value
          (is ∙ ap (λ (b : Bool). behind c.loop-i.position b) c.ends_line.ensures);
      line = line_more c.loop-i.position c.behind-position.result _ c.loop-i.i is at.line;
      character = character_more c.loop-i.position c.behind-position.result _ c.loop-i.i is at.character;
    }

pub returns-clause-value : goal.returns-clause-value
returns-clause-value c =
    let text = c.args.text.now in
    let end : c.loop-i.i ≡ c.min-i-end.result = omega arith in
    c.loop-i.invariant.value ∙ ap (position_of text) (end ∙ c.min-i-end.ensures) ∙ position_min text c.args.offset
