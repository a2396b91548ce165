use Rattle.pb_base.proofs.Lists.{four_behind}
use Rattle.pb_message_excerpts.proofs.excerpt.put_excerpt.Goals as goal

pub returns : goal.returns
returns c =
    four_behind c.args.out.now.items _ _ _ _ c.put_arrow.new.out.items c.put_bar.new.out.items
    c.put_source.new.out.items c.put_mark.new.out.items
    c.in_ok-put_arrow.ensures c.in_ok-put_bar.ensures c.in_ok-put_source.ensures c.in_ok-put_mark.ensures
