use Rattle.std.proofs.Common.{◌≡◌, ◌<◌, ◌≤◌, map, length, subst, refl, sym, arith}
use Rattle.std.specs.Prelude.{IfOk, OnErr}
use Rattle.std.proofs.lemmas.List.{length-map, map-set}
use Rattle.pb_base.specs.Steps.{IsStepOf}
use Rattle.pb_names.specs.Source.{source_step}
use Rattle.pb_rewrite.specs.Sound.{AreSound}
use Rattle.pb_rewrite.specs.View.{bank_view, process_view}
use Rattle.pb_rewrite.proofs.Sources.{answer_so, refused_so, bank_stays, sound_so, nowhere, state_with, view_at}
use Rattle.pb_rewrite.proofs.source.Source.step.Goals as goal

pub returns-then-p-len-clause-step : goal.returns-then-p-len-clause-step
returns-then-p-len-clause-step g c =
    let past : length (map process_view c.args.self.now.processes.items) ≤ c.args.pick.process =
    omega (arith, c.args.self.now.processes.ok.0, length-map c.args.self.now.processes.items (process_view {A = g.row.A.Denot})) in
    (nowhere c.args.self.now.banker.state (map process_view c.args.self.now.processes.items) c.args.pick past, refl)

pub step-requires-clause-process : goal.step-requires-clause-process
step-requires-clause-process g c =
    omega (arith, c.args.self.now.processes.ok.0, length-map c.args.self.now.processes.items (process_view {A = g.row.A.Denot}), c.requires.number)

pub step-requires-clause-sound : goal.step-requires-clause-sound
step-requires-clause-sound g c =
    let within : c.args.pick.process < length c.args.self.now.processes.items = omega (arith, c.args.self.now.processes.ok.0) in
    c.requires.each c.args.pick.process (process_view c.index_mut.result.now)
    (view_at c.args.self.now.processes.items c.args.pick.process c.index_mut.result.now within c.index_mut.ensures.value)

pub returns-clause-step : goal.returns-clause-step
returns-clause-step g c =
    let s = c.args.self.now.banker.state in
    let items = c.args.self.now.processes.items in
    let p = c.args.pick.process in
    let within : p < length items = omega (arith, c.args.self.now.processes.ok.0) in
    let there = view_at items p c.index_mut.result.now within c.index_mut.ensures.value in
    subst (λ ps. IfOk c.step.result (λ answer. IsStepOf (bank_view s) source_step (state_with (map process_view items)
    s.loans) c.args.pick answer (state_with ps c.step.new.banker.state.loans)))
    (sym (map-set process_view items p c.step.new.self))
    (answer_so s c.step.new.banker.state (map process_view items) c.args.pick (process_view c.index_mut.result.now) (process_view c.step.new.self) there
    c.step.result c.step.ensures.ok)

pub returns-clause-same : goal.returns-clause-same
returns-clause-same g c =
    let s = c.args.self.now.banker.state in
    let items = c.args.self.now.processes.items in
    let p = c.args.pick.process in
    let within : p < length items = omega (arith, c.args.self.now.processes.ok.0) in
    let there = view_at items p c.index_mut.result.now within c.index_mut.ensures.value in
    subst (λ ps. OnErr c.step.result (state_with ps c.step.new.banker.state.loans ≡ state_with (map process_view items) s.loans))
    (sym (map-set process_view items p c.step.new.self))
    (refused_so s c.step.new.banker.state (map process_view items) c.args.pick (process_view c.index_mut.result.now) (process_view c.step.new.self) there
    c.step.result c.step.ensures.same c.step.ensures.same_loans)

pub returns-clause-bank : goal.returns-clause-bank
returns-clause-bank g c =
    let s = c.args.self.now.banker.state in
    let items = c.args.self.now.processes.items in
    let p = c.args.pick.process in
    let within : p < length items = omega (arith, c.args.self.now.processes.ok.0) in
    let there = view_at items p c.index_mut.result.now within c.index_mut.ensures.value in
    bank_stays s c.step.new.banker.state (map process_view items) c.args.pick (process_view c.index_mut.result.now) (process_view c.step.new.self) there
    c.step.result c.step.ensures.ok c.step.ensures.same_loans

pub returns-clause-source : goal.returns-clause-source
returns-clause-source g c =
    let s = c.args.self.now.banker.state in
    let items = c.args.self.now.processes.items in
    let p = c.args.pick.process in
    let within : p < length items = omega (arith, c.args.self.now.processes.ok.0) in
    let there = view_at items p c.index_mut.result.now within c.index_mut.ensures.value in
    subst (AreSound c.step.new.banker.state) (sym (map-set process_view items p c.step.new.self))
    (sound_so s c.step.new.banker.state (map process_view items) c.args.pick (process_view c.index_mut.result.now) (process_view c.step.new.self) there
    c.processes.ensures.well_formed c.requires c.step.result c.step.ensures.ok c.step.ensures.same c.step.ensures.same_loans)
