use Rattle.std.proofs.Common.{◌+◌, List, ℕ, Option, Some, take, ap, ◌∙◌}
use Rattle.pb_debug_commands.specs.Commands.{both_of, integer_at, word_of}
use Rattle.pb_base.proofs.Lists.{take_behind}
use Rattle.pb_debug_commands.proofs.words.integer_word.Goals as goal

pub returns : goal.returns
returns c =
    let word = c.args.word.now in
    let space = c.in_ok-space.space in
    ap (λ (o : Option (List ℕ)). both_of o (Some c.in_ok-integer.integer.now)) c.in_ok-process.ensures
    ∙ (ap (λ (o : Option (List ℕ)). both_of (word_of (take space word)) o) (c.in_ok-integer.ensures ∙ ap word_of (take_behind word (space + 1)))
    ∙ ap (integer_at word) c.in_ok-space.ensures.place)
