use Rattle.std.proofs.Common.{arith}
use Rattle.pb_base.specs.Lines.{names_view}
use Rattle.pb_accept.specs.RunTexts.{SaysOfRunText}
use Rattle.pb_accept.proofs.RunTextLemmas.{reply_is_too_long, says_too_long, says_written}
use Rattle.pb_accept.proofs.run_text.run_text.Goals as goal

pub returns-then-len-gt-MAX_INPUT : goal.returns-then-len-gt-MAX_INPUT
returns-then-len-gt-MAX_INPUT c =
    let names = names_view c.args.names.now in
    reply_is_too_long c.too_long.result (SaysOfRunText c.args.text.now names c.args.picks.now) c.too_long.ensures
    (says_too_long c.args.text.now names c.args.picks.now c.in_ok-whole.whole.items c.extend_from_slice.new.self.items c.write_picks.new.text.items
    c.in_ok-whole.ensures c.in_ok-extend_from_slice.ensures.items c.in_ok-write_picks.ensures.ok (omega arith))

pub returns : goal.returns
returns c =
    let names = names_view c.args.names.now in
    says_written c.args.text.now names c.args.picks.now c.in_ok-whole.whole.items c.extend_from_slice.new.self.items c.write_picks.new.text.items
    c.in_ok-whole.ensures c.in_ok-extend_from_slice.ensures.items c.in_ok-write_picks.ensures.ok (omega arith)
