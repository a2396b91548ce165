use Rattle.std.proofs.Common.{◌∙◌, List, ℕ, subst, sym}
use Rattle.pb_code.specs.Limits.{KeepsLimits}
use Rattle.pb_code.specs.Whole.{Code}
use Rattle.pb_history.specs.declared.counted.CountedPick.{CountedPick}
use Rattle.pb_machine.specs.Views.{machine_view}
use Rattle.pb_messages.specs.Said.{SaysOfPickLines, made}
use Rattle.pb_picks.specs.PickLines.{IsFaulty, SpellsPicks}
use Rattle.pb_verifier.specs.declared.fault.VerifyFault.TheVariants.{OutOfLimits}
use Rattle.pb_messages.proofs.picks.lines_message.Goals as goal

pub read_picks-requires : goal.read_picks-requires
read_picks-requires c = subst KeepsLimits (sym c.code.ensures.code) (c.code.ensures.verified.faultless OutOfLimits)

pub unread_message-requires-clause-limits : goal.unread_message-requires-clause-limits
unread_message-requires-clause-limits c = subst KeepsLimits (sym c.code-in-Err.ensures.code) (c.code-in-Err.ensures.verified.faultless OutOfLimits)

pub unread_message-requires-clause-fault : goal.unread_message-requires-clause-fault
unread_message-requires-clause-fault c =
    subst (λ (code : Code). IsFaulty code c.args.lines.text.now c.in-Err.fault) (c.code.ensures.code ∙ sym c.code-in-Err.ensures.code)
    c.in-Err.ensures.refused

pub returns-in-Ok-replay_counted_by : goal.returns-in-Ok-replay_counted_by
returns-in-Ok-replay_counted_by c =
    let replayed = c.in-Ok-replay_counted_by.field-0 in
    let spelled = subst (λ (code : Code). SpellsPicks code c.args.lines.text.now c.in-Ok.picks.items) c.code.ensures.code c.in-Ok.ensures.read in
    let read = subst (λ (picks : List CountedPick). SpellsPicks c.args.verified.now.code c.args.lines.text.now picks)
    (sym c.deref.ensures.value) spelled in
    subst (λ (told : List ℕ). SaysOfPickLines c.args.lending c.args.verified.now.code c.args.lines.before c.args.lines.text.now told) (sym c.new.ensures.items)
    (made c.deref.result.now replayed.1.entries (machine_view replayed.0) read c.in-Ok-replay_counted_by.ensures.replay)
