use Rattle.std.proofs.Common.{◌+◌, List, ℕ, Option, Some, take, ap, ◌∙◌}
use Rattle.pb_debug_commands.specs.Commands.{arm_of, number_of, stop_at, stop_from}
use Rattle.pb_base.proofs.Lists.{take_behind}
use Rattle.pb_debug_commands.proofs.command.stop.Goals as goal

pub returns : goal.returns
returns c =
    let word = c.args.word.now in
    let space = c.in_ok-space.space in
    ap (λ (o : Option (List ℕ × ℕ)). stop_from o (Some c.in_ok-line.line)) c.in_ok-process.ensures
    ∙ (ap (λ (o : Option ℕ). stop_from (arm_of (take space word)) o) (c.in_ok-line.ensures ∙ ap number_of (take_behind word (space + 1)))
    ∙ ap (stop_at word) c.in_ok-space.ensures.place)
