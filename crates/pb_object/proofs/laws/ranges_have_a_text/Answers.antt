use Rattle.pb_object.proofs.TextLimits.{text_keeps}
use Rattle.pb_object.proofs.SayableCode.{ranges_text}
use Rattle.pb_object.proofs.laws.ranges_have_a_text.Goals as goal

pub returns : goal.returns
returns c = λ code labels. (ranges_text code labels, text_keeps code labels)
