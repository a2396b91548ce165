use Rattle.std.proofs.Common.{◌≡◌, ◌++◌, map}
use Rattle.std.specs.Prelude.{pos, slice_index_or}
use Rattle.pb_base.specs.Lines.{name_of, each_below}
use Rattle.pb_debug_texts.specs.Texts.{var_text}
use Rattle.pb_debug_texts.proofs.text.put_vars.Given as goal

abbrev pub invariant-loop-i : goal.invariant-loop-i
invariant-loop-i l =
    l.text.items ≡ l.initial.text.items
    ++ each_below (λ x. var_text (name_of (map (λ name. name.items) l.names) x) (slice_index_or l.vars x (pos 0))) l.i
