use Rattle.std.proofs.Common.{◌++◌, ◌∙◌, ℕ, List, ap, append_assoc}
use Rattle.std.specs.Fmt.{decimal}
use Rattle.pb_base.proofs.Lists.{four_behind}
use Rattle.pb_explain.proofs.explain.put_repetition.Goals as goal

pub returns : goal.returns
returns c =
    four_behind c.args.text.now.items _ c.args.repeated.now _ (decimal c.args.times)
    c.extend_from_slice.new.self.items c.extend_from_slice-2.new.self.items c.extend_from_slice-3.new.self.items
    c.extend_from_slice-4.new.self.items
    c.in_ok-extend_from_slice.ensures.items
    (c.in_ok-extend_from_slice-2.ensures.items
    ∙ ap (λ (t : List ℕ). c.extend_from_slice.new.self.items ++ t) c.as_bytes.ensures.value)
    c.in_ok-extend_from_slice-3.ensures.items
    (c.in_ok-extend_from_slice-4.ensures.items
    ∙ ap (λ (t : List ℕ). c.extend_from_slice-3.new.self.items ++ t) (c.as_bytes-2.ensures.value ∙ c.format.ensures.text))
    ∙ simp append_assoc
