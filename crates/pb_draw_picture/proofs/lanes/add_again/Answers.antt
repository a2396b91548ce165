use Rattle.std.proofs.Common.{◌+◌, ◌++◌, ap, sym, ◌∙◌, List, map}
use Rattle.pb_base.specs.Lines.{names_view}
use Rattle.pb_draw_picture.specs.Lanes.{name_again, names_again}
use Rattle.pb_draw_picture.specs.Places.{places_of}
use Rattle.pb_draw_picture.specs.Shapes.{Text, text_of}
use Rattle.pb_draw_picture.proofs.NameLemmas.{again_more, texts_more}
use Rattle.pb_draw_picture.proofs.lanes.add_again.Goals as goal

pub loop-k-preserved : goal.loop-k-preserved
loop-k-preserved c =
    let names = names_view c.args.names.now in
    let places = places_of c.args.grid.now in
    let lane = c.args.lane.now in
    let start = map text_of c.args.labels.now.items in
    texts_more c.loop-k.labels.items c.push.new.self.items start (names_again names places lane c.loop-k.k) c.in_ok-name.name
    (name_again names places lane (c.loop-k.k + 1)) c.in_ok-push.ensures.items c.loop-k.invariant c.in_ok-name.ensures
    ∙ ap (λ (ts : List Text). start ++ ts) (sym (again_more names places lane c.loop-k.k))
