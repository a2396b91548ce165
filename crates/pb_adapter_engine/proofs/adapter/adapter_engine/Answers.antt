use Rattle.std.proofs.Common.{◌≡◌, ◌∙◌, Option, Some, None, option_map, ap, sym, subst}
use Rattle.std.proofs.lemmas.Option.{IfSome_then}
use Rattle.pb_conversations.specs.Conversations.{TalksOut, TalksSome}
use Rattle.pb_adapter_engine.specs.Waiting.{AnswersWaiting, WaitingValue, launched_view}
use Rattle.pb_adapter_engine.specs.declared.launched.Launched.{Launched}
use Rattle.pb_adapter_engine.proofs.AdapterLemmas.{launched_read, launched_told, waiting_broken, waiting_done, waiting_read}
use Rattle.pb_adapter_engine.proofs.adapter.adapter_engine.Goals as goal

pub returns-in-Err-clause-text : goal.returns-in-Err-clause-text
returns-in-Err-clause-text g c =
    let old = g.O.Output.written c.args.output.now in
    let new = g.O.Output.written c.converse.new.output in
    IfSome_then (g.I.Input.rest c.args.input.now) c.in-Err.ensures.some
    (λ bytes some. waiting_broken bytes old new c.in-Err.stop c.status_of.result c.status_of.ensures
    (subst (λ (s : WaitingValue). TalksSome AnswersWaiting (λ s. s.over) s 1 bytes old new c.in-Err.stop) c.new-waiting.ensures some))

pub returns-in-Some-clause-text : goal.returns-in-Some-clause-text
returns-in-Some-clause-text g c =
    let old = g.O.Output.written c.args.output.now in
    let mid = g.O.Output.written c.converse.new.output in
    let new = g.O.Output.written c.debug_launched.new.output in
    let left = g.I.Input.rest c.converse.new.input in
    let after = c.converse.new.adapter in
    let is : after.launched ≡ Some (launched_view c.in-Some.launched) =
    sym (ap (λ (s : WaitingValue). s.launched) c.waiting.view_is) ∙ ap (λ (o : Option Launched). option_map launched_view o) c.in-Some.is in
    IfSome_then (g.I.Input.rest c.args.input.now) c.in-Ok.ensures.all
    (λ bytes all. launched_told bytes left old mid after c.in-Ok.next
    (subst (λ (s : WaitingValue). TalksOut AnswersWaiting (λ s. s.over) s 1 bytes left old mid after c.in-Ok.next) c.new-waiting.ensures all)
    (launched_view c.in-Some.launched) is new c.debug_launched.result c.debug_launched.ensures.text)

pub returns-in-None-clause-text : goal.returns-in-None-clause-text
returns-in-None-clause-text g c =
    let old = g.O.Output.written c.args.output.now in
    let mid = g.O.Output.written c.converse.new.output in
    let left = g.I.Input.rest c.converse.new.input in
    let after = c.converse.new.adapter in
    let none : after.launched ≡ None =
    sym (ap (λ (s : WaitingValue). s.launched) c.waiting.view_is) ∙ ap (λ (o : Option Launched). option_map launched_view o) c.in-None.is in
    IfSome_then (g.I.Input.rest c.args.input.now) c.in-Ok.ensures.all
    (λ bytes all. waiting_done bytes left old mid after c.in-Ok.next
    (subst (λ (s : WaitingValue). TalksOut AnswersWaiting (λ s. s.over) s 1 bytes left old mid after c.in-Ok.next) c.new-waiting.ensures all) none)

pub returns-in-Err-clause-answered : goal.returns-in-Err-clause-answered
returns-in-Err-clause-answered g c = λ changed.
    let before = c.in-Err.ensures.answered changed in (
      before.0,
      waiting_read c.new-waiting.result (g.I.Input.rest c.args.input.now) (g.I.Input.rest c.converse.new.input) (g.O.Output.written c.args.output.now)
          (g.O.Output.written c.converse.new.output) c.new-waiting.ensures before.1,
    )

pub returns-in-Some-clause-answered : goal.returns-in-Some-clause-answered
returns-in-Some-clause-answered g c = λ changed.
    let old = g.O.Output.written c.args.output.now in
    let mid = g.O.Output.written c.converse.new.output in
    let new = g.O.Output.written c.debug_launched.new.output in
    let left = g.I.Input.rest c.converse.new.input in
    let after = c.converse.new.adapter in
    let is : after.launched ≡ Some (launched_view c.in-Some.launched) =
    sym (ap (λ (s : WaitingValue). s.launched) c.waiting.view_is) ∙ ap (λ (o : Option Launched). option_map launched_view o) c.in-Some.is in
    let before = c.debug_launched.ensures.answered (λ same. changed (same ∙ c.in-Ok.ensures.counted_reads)) in (
      before.0 ∙ c.in-Ok.ensures.counted_writes,
      IfSome_then (g.I.Input.rest c.args.input.now) c.in-Ok.ensures.all
          (λ bytes all. launched_read bytes left old mid after c.in-Ok.next
          (subst (λ (s : WaitingValue). TalksOut AnswersWaiting (λ s. s.over) s 1 bytes left old mid after c.in-Ok.next) c.new-waiting.ensures all)
          (launched_view c.in-Some.launched) is (g.I.Input.rest c.debug_launched.new.input) new before.1),
    )

pub returns-in-None-clause-answered : goal.returns-in-None-clause-answered
returns-in-None-clause-answered g c = λ changed. absurd (changed c.in-Ok.ensures.counted_reads)
