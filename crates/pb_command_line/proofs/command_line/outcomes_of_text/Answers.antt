use Rattle.pb_command_line.specs.CommandLine.{outcomes_command}
use Rattle.pb_command_line.proofs.command_line.outcomes_of_text.Goals as goal

pub returns : goal.returns
unfolding outcomes_command
returns c =
    c.with_given_number.ensures _
    (c.with_given_number-outcomes.ensures _
    (c.with_flag-outcomes-7.ensures _
    (c.with_flag-outcomes-6.ensures _
    (c.with_flag-outcomes-5.ensures _
    (c.with_flag-outcomes-4.ensures _
    (c.with_flag-outcomes-3.ensures _
    (c.with_flag-outcomes-2.ensures _
    (c.with_flag-outcomes.ensures _ (c.with_lend-outcomes.ensures _ (c.with_number-outcomes.ensures _ c.plain-outcomes.ensures))))))))))
