use Rattle.std.proofs.Common.{ap, false}
use Rattle.pb_accept.specs.Checks.{SaysOfChecks}
use Rattle.pb_accept.specs.Claims.{SaysOfAny}
use Rattle.pb_accept.specs.Sayings.{line_of}
use Rattle.pb_voice.specs.Voices.{Written}
use Rattle.pb_c_call.specs.Replies.{KeptBytes, Tellings}
use Rattle.pb_c_call.proofs.GivenReplies.{given, told}
use Rattle.pb_c_call.proofs.exports.pb_check.Goals as goal

pub returns-clause-given : goal.returns-clause-given
returns-clause-given c =
    given (Tellings (Written line_of (SaysOfAny (SaysOfChecks false))) c.args.text.now) c.put_front.new.to c.args.output.now
    c.write_checks-status.new.output.bytes c.as_slice-bytes.result.now c.write_checks-status.result c.number_of.result
    (told (Written line_of (SaysOfAny (SaysOfChecks false))) c.args.text.now c.new-source.result c.new-reply.result.bytes
    c.write_checks-status.new.output.bytes c.write_checks-status.result c.new-source.ensures
    (ap (λ (k : KeptBytes). k.bytes) c.new-reply.ensures) c.write_checks-status.ensures.text)
    c.number_of.ensures.number c.as_slice-bytes.ensures c.put_front.ensures.length c.put_front.ensures.front
