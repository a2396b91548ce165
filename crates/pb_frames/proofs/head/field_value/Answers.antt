use Rattle.std.proofs.Common.{◌≡◌, drop}
use Rattle.pb_frames.proofs.FieldLemmas.{value_is}
use Rattle.pb_frames.proofs.head.field_value.Goals as goal

pub returns : goal.returns
returns c =
    let cut : c.split_at.result.1.now ≡ drop c.min-name.result c.args.line.now = c.split_at.ensures.back in
    value_is c.args.line.now c.min-name.result c.split_at.result.1.now c.trim_ascii_start.result.now c.min-name.ensures cut
    c.trim_ascii_start.ensures.value
