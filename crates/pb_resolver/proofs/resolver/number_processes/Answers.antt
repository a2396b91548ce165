use Rattle.std.proofs.Common.{arith, map, length, ap}
use Rattle.std.proofs.lemmas.List.{take_all, length-map}
use Rattle.pb_tree.specs.View.{name_view, process_view}
use Rattle.pb_names.specs.Causes.{InProcess}
use Rattle.pb_names.specs.Resolves.{ResolvesProcess}
use Rattle.pb_names.specs.Search.{names_in}
use Rattle.pb_names.specs.View.{process_view as process_of}
use Rattle.pb_base.proofs.Lists.{view_read}
use Rattle.pb_names.proofs.FirstCauses.{free_at, free_right}
use Rattle.pb_names.proofs.Wholes.{zip_view_more, fitting_at}
use Rattle.pb_resolver.proofs.resolver.number_processes.Goals as goal

pub loop-process-preserved : goal.loop-process-preserved
loop-process-preserved g c =
    let ps = c.args.processes.now.items in
    let p = c.process-item.result in
    let i = c.loop-process.process-index in
    let read = view_read process_view ps _ i p c.deref-process-items.ensures.value (omega arith) c.process-item.is in
    zip_view_more (ResolvesProcess (names_in c.args.resources.now)) process_view process_of ps _ _ i p _
    read c.in_ok-push.ensures.items c.loop-process.invariant c.in_ok-number_process.ensures

pub returns : goal.returns
returns g c =
    let ps = c.args.processes.now.items in
    rw (← take_all c.loop-process.process-index (map process_view ps)
    (omega (arith, length-map ps process_view, ap length c.deref-process-items.ensures.value)))
    c.loop-process.invariant

pub number_process-requires-clause-free : goal.number_process-requires-clause-free
number_process-requires-clause-free g c =
    let ps = c.args.processes.now.items in
    let p = c.process-item.result in
    let i = c.loop-process.process-index in
    let read = view_read process_view ps _ i p c.deref-process-items.ensures.value (omega arith) c.process-item.is in
    free_right (free_at (InProcess (names_in c.args.resources.now)) (map process_view ps) i (process_view p) read c.requires.free)

pub number_process-requires-clause-few_integers : goal.number_process-requires-clause-few_integers
number_process-requires-clause-few_integers g c =
    let ps = c.args.processes.now.items in
    let p = c.process-item.result in
    let i = c.loop-process.process-index in
    let read = view_read process_view ps _ i p c.deref-process-items.ensures.value (omega arith) c.process-item.is in
    let fits = fitting_at (map process_view ps) i (process_view p) read c.requires.fitting in
    omega (arith, fits.few_integers, length-map p.integers.items name_view)

pub number_process-requires-clause-complete : goal.number_process-requires-clause-complete
number_process-requires-clause-complete g c =
    let ps = c.args.processes.now.items in
    let p = c.process-item.result in
    let i = c.loop-process.process-index in
    let read = view_read process_view ps _ i p c.deref-process-items.ensures.value (omega arith) c.process-item.is in
    let fits = fitting_at (map process_view ps) i (process_view p) read c.requires.fitting in
    fits.complete

pub number_process-requires-clause-narrow : goal.number_process-requires-clause-narrow
number_process-requires-clause-narrow g c =
    let ps = c.args.processes.now.items in
    let p = c.process-item.result in
    let i = c.loop-process.process-index in
    let read = view_read process_view ps _ i p c.deref-process-items.ensures.value (omega arith) c.process-item.is in
    let fits = fitting_at (map process_view ps) i (process_view p) read c.requires.fitting in
    fits.narrow

pub number_process-requires-clause-room : goal.number_process-requires-clause-room
number_process-requires-clause-room g c =
    let ps = c.args.processes.now.items in
    let p = c.process-item.result in
    let i = c.loop-process.process-index in
    let read = view_read process_view ps _ i p c.deref-process-items.ensures.value (omega arith) c.process-item.is in
    let fits = fitting_at (map process_view ps) i (process_view p) read c.requires.fitting in
    fits.room
