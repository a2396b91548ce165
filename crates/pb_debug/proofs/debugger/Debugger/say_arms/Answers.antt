use Rattle.std.proofs.Common.{◌++◌, ℕ, List, refl, ap, ◌∙◌, append_assoc}
use Rattle.pb_base.proofs.Results.{on_ok}
use Rattle.pb_debug.proofs.debugger.Debugger.say_arms.Goals as goal

pub returns : goal.returns
returns c =
    let first = c.in_ok-say_part.ensures in
    on_ok c.say_part-2.result _ _ c.say_part-2.ensures (λ last. (
      first.0 ++ last.0,
      (first.0, last.0, first.1, last.1, refl),
      last.2 ∙ (ap (λ (t : List ℕ). t ++ last.0) first.2 ∙ append_assoc c.args.text.now.items first.0 last.0),
    ))
