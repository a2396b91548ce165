use Rattle.std.proofs.Common.{List, refl, subst}
use Rattle.pb_accept.proofs.EventLemmas.{all_are_told, one_broken, one_told}
use Rattle.pb_base.specs.Lines.{names_view}
use Rattle.pb_code.specs.View.{labels_view}
use Rattle.pb_command_io.proofs.PageLemmas.{OnErr-of}
use Rattle.pb_search_engine.specs.Items.{given_item_view}
use Rattle.pb_search_engine.specs.Sayings.{Finds, Saying}
use Rattle.pb_search_engine.specs.declared.item.Item.{Item}
use Rattle.pb_base.proofs.Lists.{item_at}
use Rattle.pb_search_engine.proofs.TellLemmas.{views_of}
use Rattle.pb_voice.specs.Held.{at}
use Rattle.pb_voice.specs.Tellings.{Breaking, Telling}
use Rattle.pb_search_engine.proofs.teller.tell_items.Goals as goal

pub loop-i-init : goal.loop-i-init
loop-i-init g c = refl

pub loop-i-preserved : goal.loop-i-preserved
loop-i-preserved g c =
    one_told g.T.Teller.tells g.T.Teller.breaks (λ item. Finds (names_view c.args.names.now) (labels_view c.args.labels.now) (given_item_view item))
    c.args.items.now c.loop-i.i c.index-items-i.result (item_at c.args.items.now c.loop-i.i c.index-items-i.result c.loop-i-test.true c.index-items-i.is)
    (at g.O.Output.written g.O.Output.failures c.args.teller.now c.args.output.now)
    (at g.O.Output.written g.O.Output.failures c.loop-i.teller c.loop-i.output)
    (at g.O.Output.written g.O.Output.failures c.tell.new.self c.tell.new.output) c.loop-i.invariant c.in_ok-tell.ensures.told

pub returns-in_err-tell-clause-broken : goal.returns-in_err-tell-clause-broken
returns-in_err-tell-clause-broken g c =
    let said = λ (item : Item). Finds (names_view c.args.names.now) (labels_view c.args.labels.now) (given_item_view item) in
    OnErr-of c.from_residual.result
    (subst (λ (l : List Saying). Breaking g.T.Teller.tells g.T.Teller.breaks (at g.O.Output.written g.O.Output.failures c.args.teller.now c.args.output.now) l
    (at g.O.Output.written g.O.Output.failures c.tell.new.self c.tell.new.output)) (views_of (names_view c.args.names.now) (labels_view c.args.labels.now) c.args.items.now)
    (one_broken g.T.Teller.tells g.T.Teller.breaks said
    c.args.items.now c.loop-i.i c.index-items-i.result (item_at c.args.items.now c.loop-i.i c.index-items-i.result c.loop-i-test.true c.index-items-i.is)
    (at g.O.Output.written g.O.Output.failures c.args.teller.now c.args.output.now)
    (at g.O.Output.written g.O.Output.failures c.loop-i.teller c.loop-i.output)
    (at g.O.Output.written g.O.Output.failures c.tell.new.self c.tell.new.output) c.loop-i.invariant c.in_err-tell.ensures.broken))

pub returns-clause-told : goal.returns-clause-told
returns-clause-told g c =
    let said = λ (item : Item). Finds (names_view c.args.names.now) (labels_view c.args.labels.now) (given_item_view item) in
    subst (λ (l : List Saying). Telling g.T.Teller.tells (at g.O.Output.written g.O.Output.failures c.args.teller.now c.args.output.now) l
    (at g.O.Output.written g.O.Output.failures c.loop-i.teller c.loop-i.output)) (views_of (names_view c.args.names.now) (labels_view c.args.labels.now) c.args.items.now)
    (all_are_told g.T.Teller.tells said c.args.items.now c.loop-i.i
    (at g.O.Output.written g.O.Output.failures c.args.teller.now c.args.output.now)
    (at g.O.Output.written g.O.Output.failures c.loop-i.teller c.loop-i.output) c.loop-i-test.false c.loop-i.invariant)
