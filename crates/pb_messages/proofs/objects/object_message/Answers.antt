use Rattle.pb_code.specs.View.{labels_view}
use Rattle.pb_object.proofs.TextLimits.{text_keeps}
use Rattle.pb_messages.proofs.objects.object_message.Goals as goal

pub returns-in-Ok-clause-fit : goal.returns-in-Ok-clause-fit
returns-in-Ok-clause-fit c = (text_keeps c.in-Ok.verified.code (labels_view c.in-Ok.labels) c.in-Ok.ensures.writable).fit
