use Rattle.std.proofs.lemmas.Option.{IfSome_then}
use Rattle.pb_command_io.proofs.InputLemmas.{IfSome-of, fails, is_too_long, read_failed, unread_faults}
use Rattle.pb_command_io.proofs.InputLemmas.{wants_memory}
use Rattle.pb_command_io.proofs.input.read_input.Goals as goal

pub returns-in-Err-Device-clause-told : goal.returns-in-Err-Device-clause-told
returns-in-Err-Device-clause-told g c = IfSome-of _ _ (λ bytes. fails bytes _)

pub returns-in-Err-TooLong-clause-told : goal.returns-in-Err-TooLong-clause-told
returns-in-Err-TooLong-clause-told g c =
    IfSome_then (g.I.Input.rest c.args.input.now) (c.in-Err-TooLong.ensures.long c.in-Err-TooLong.field-0-is)
    (λ bytes long. is_too_long bytes c.new.result _ _ c.finish_with.result long c.new.ensures c.finish_with.ensures.text)

pub returns-in-Err-Memory-clause-told : goal.returns-in-Err-Memory-clause-told
returns-in-Err-Memory-clause-told g c =
    IfSome-of _ _
    (λ bytes. wants_memory bytes c.new-in-Err-Memory.result _ _ c.finish_with-in-Err-Memory.result
    c.new-in-Err-Memory.ensures c.finish_with-in-Err-Memory.ensures.text)

pub returns-in-Err-Device-clause-faults : goal.returns-in-Err-Device-clause-faults
returns-in-Err-Device-clause-faults g c = read_failed _ _ _ _ (c.in-Err-Device.ensures.fault c.in-Err-Device.field-0-is)

pub returns-in-Err-TooLong-clause-faults : goal.returns-in-Err-TooLong-clause-faults
returns-in-Err-TooLong-clause-faults g c =
    unread_faults _ _ _ _ _ _ c.finish_with.result (c.in-Err-TooLong.ensures.no_fault (λ e. let is = c.in-Err-TooLong.field-0-is in cc))
    c.finish_with.ensures.faults

pub returns-in-Err-Memory-clause-faults : goal.returns-in-Err-Memory-clause-faults
returns-in-Err-Memory-clause-faults g c =
    unread_faults _ _ _ _ _ _ c.finish_with-in-Err-Memory.result (c.in-Err-Memory.ensures.no_fault (λ e. let is = c.in-Err-Memory.field-0-is in cc))
    c.finish_with-in-Err-Memory.ensures.faults
