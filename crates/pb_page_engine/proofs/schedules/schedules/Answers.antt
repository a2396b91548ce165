use Rattle.pb_code.specs.View.{labels_view}
use Rattle.pb_page_engine.proofs.SchedulesLemmas.{excess_told}
use Rattle.pb_page_engine.specs.Schedules.{all}
use Rattle.pb_page_engine.proofs.schedules.schedules.Goals as goal

pub returns-in-Ok : goal.returns-in-Ok
returns-in-Ok c = all c.in-Ok.text.items c.in-Ok.ensures.document

pub returns-in-Err-TooMany : goal.returns-in-Err-TooMany
returns-in-Err-TooMany c =
    excess_told c.args.lending c.args.states c.args.source.now c.args.object.now c.args.verified.now.code (labels_view c.args.labels.now) c.excess_reply.result
    (c.in-Err-TooMany.ensures.too_many c.in-Err-TooMany.field-0-is) c.excess_reply.ensures.text c.excess_reply.ensures.status
