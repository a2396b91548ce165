use Rattle.std.proofs.Common.{◌+◌, Bool, ℕ, cond, drop, Option, None, option_map, take, ap, ◌∙◌}
use Rattle.pb_debug_commands.specs.Commands.{arm_at, number_of}
use Rattle.pb_base.proofs.Lists.{take_behind}
use Rattle.pb_debug_commands.proofs.words.arm_word.Goals as goal

pub returns : goal.returns
returns c =
    let word = c.args.word.now in
    let dot = c.in_ok-dot.dot in
    let process = take dot word in
    ap (λ (o : Option ℕ). option_map (λ arm. (process, arm)) o) (c.in_ok-arm.ensures ∙ ap number_of (take_behind word (dot + 1)))
    ∙ (ap (λ (b : Bool). cond b (option_map (λ arm. (process, arm)) (number_of (drop (dot + 1) word))) None) c.if-not-looks_like_name.ensures
    ∙ ap (arm_at word) c.in_ok-dot.ensures.place)
