use Rattle.std.proofs.Common.{◌∙◌, append_assoc}
use Rattle.pb_base.proofs.Lists.{four_behind}
use Rattle.pb_explain.proofs.explain.put_example.Goals as goal

pub returns : goal.returns
returns c =
    four_behind c.args.text.now.items _ _ _ _ c.extend_from_slice.new.self.items c.put_call.new.text.items
    c.extend_from_slice-2.new.self.items c.put_line.new.text.items
    c.in_ok-extend_from_slice.ensures.items c.in_ok-put_call.ensures
    c.in_ok-extend_from_slice-2.ensures.items c.in_ok-put_line.ensures
    ∙ simp append_assoc
