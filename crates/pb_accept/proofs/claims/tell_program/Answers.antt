use Rattle.std.proofs.Common.{◌≡◌, ◌<◌, ◌≤◌, ◌∙◌, List, [], length, map, get_or, refl, sym, subst, ap, arith}
use Rattle.std.proofs.lemmas.List.{get_or_default, length-map}
use Rattle.pb_accept.proofs.ClaimLemmas.{as_many, names_of_processes, names_of_resources}
use Rattle.pb_base.specs.Banker.{row_of}
use Rattle.pb_command_io.proofs.PageLemmas.{OnErr-of}
use Rattle.pb_names.specs.Program.{Name}
use Rattle.pb_names.specs.Resolves.{process_names, resource_names}
use Rattle.pb_names.specs.View.{resolved_view}
use Rattle.pb_names.specs.declared.resolved.Process.{Process}
use Rattle.pb_names.specs.declared.resolved.Resource.{Resource}
use Rattle.pb_accept.specs.Claims.{said_of_process}
use Rattle.pb_accept.specs.Sayings.{Saying}
use Rattle.pb_voice.specs.Tellings.{Telling, Breaking}
use Rattle.pb_accept.proofs.ClaimLemmas.{pair_told, pair_broken, pairs_told, view_at}
use Rattle.pb_voice.specs.Held.{at}
use Rattle.pb_accept.proofs.claims.tell_program.Goals as goal

pub loop-p-init : goal.loop-p-init
loop-p-init g c = refl

pub tell_process-requires-clause-process : goal.tell_process-requires-clause-process
tell_process-requires-clause-process g c =
    let h = (as_many c.args.program.now c.args.claims.now c.requires).0 in
    let n = c.len-p-end.ensures in
    let t = c.loop-p-test.true in
    omega (arith, h, n, t)

pub tell_process-requires-clause-width : goal.tell_process-requires-clause-width
tell_process-requires-clause-width g c =
    λ q within. (as_many c.args.program.now c.args.claims.now c.requires).1 q within
    ∙ ap (λ (l : List (Resource _)). length l) (sym c.deref-in-loop-p.ensures.value)

pub loop-p-preserved : goal.loop-p-preserved
loop-p-preserved g c =
    let given = c.args.program.now in
    let resources = resource_names (resolved_view given) in
    let names = process_names (resolved_view given) in
    let claims = c.args.claims.now in
    let p = c.loop-p.p in
    let process = c.index.result.now in
    let row = row_of claims p in
    let within : p < length given.processes.items =
    (let n = c.len-p-end.ensures in let t = c.loop-p-test.true in omega (arith, n, t))
    in
    let in_claims : p < length claims = (let h = (as_many given claims c.requires).0 in omega (arith, h, within)) in
    let in_names : p < length names =
    (
    let n = ap (λ (l : List Name). length l) (names_of_processes given) in
    let m = length-map given.processes.items (λ (q : Process _). q.name.items) in
    omega (arith, n, m, within)
    )
    in
    let name : get_or names p process.name.items ≡ process.name.items =
    ap (λ (l : List Name). get_or l p process.name.items) (sym (names_of_processes given))
    ∙ view_at (λ (q : Process _). q.name.items) given.processes.items p process within c.index.ensures
    in
    let said : List Saying = said_of_process (map (λ (q : Resource _). q.name.items) c.deref-in-loop-p.result.now) c.deref.result.now row in
    let is : said ≡ said_of_process resources process.name.items row =
    ap (λ (l : List (Resource _)). said_of_process (map (λ q. q.name.items) l) c.deref.result.now row) c.deref-in-loop-p.ensures.value
    ∙ ap (λ (l : List Name). said_of_process l c.deref.result.now row) (names_of_resources given)
    ∙ ap (λ (n : Name). said_of_process resources n row) c.deref.ensures.value
    in
    pair_told g.T.Teller.tells g.T.Teller.breaks (λ process. said_of_process resources process.0 process.1) names claims p process.name.items row
    in_names in_claims name (get_or_default claims p row [] in_claims) (at g.O.Output.written g.O.Output.failures c.args.teller.now c.args.output.now) (at g.O.Output.written g.O.Output.failures c.loop-p.teller c.loop-p.output) (at g.O.Output.written g.O.Output.failures c.tell_process.new.teller c.tell_process.new.output)
    c.loop-p.invariant
    (subst (λ (l : List Saying). Telling g.T.Teller.tells (at g.O.Output.written g.O.Output.failures c.loop-p.teller c.loop-p.output) l (at g.O.Output.written g.O.Output.failures c.tell_process.new.teller c.tell_process.new.output)) is c.in_ok-tell_process.ensures.told)

pub returns-in_err-tell_process-clause-broken : goal.returns-in_err-tell_process-clause-broken
returns-in_err-tell_process-clause-broken g c =
    let given = c.args.program.now in
    let resources = resource_names (resolved_view given) in
    let names = process_names (resolved_view given) in
    let claims = c.args.claims.now in
    let p = c.loop-p.p in
    let process = c.index.result.now in
    let row = row_of claims p in
    let within : p < length given.processes.items =
    (let n = c.len-p-end.ensures in let t = c.loop-p-test.true in omega (arith, n, t))
    in
    let in_claims : p < length claims = (let h = (as_many given claims c.requires).0 in omega (arith, h, within)) in
    let in_names : p < length names =
    (
    let n = ap (λ (l : List Name). length l) (names_of_processes given) in
    let m = length-map given.processes.items (λ (q : Process _). q.name.items) in
    omega (arith, n, m, within)
    )
    in
    let name : get_or names p process.name.items ≡ process.name.items =
    ap (λ (l : List Name). get_or l p process.name.items) (sym (names_of_processes given))
    ∙ view_at (λ (q : Process _). q.name.items) given.processes.items p process within c.index.ensures
    in
    let said : List Saying = said_of_process (map (λ (q : Resource _). q.name.items) c.deref-in-loop-p.result.now) c.deref.result.now row in
    let is : said ≡ said_of_process resources process.name.items row =
    ap (λ (l : List (Resource _)). said_of_process (map (λ q. q.name.items) l) c.deref.result.now row) c.deref-in-loop-p.ensures.value
    ∙ ap (λ (l : List Name). said_of_process l c.deref.result.now row) (names_of_resources given)
    ∙ ap (λ (n : Name). said_of_process resources n row) c.deref.ensures.value
    in
    OnErr-of c.from_residual.result
    (pair_broken g.T.Teller.tells g.T.Teller.breaks (λ process. said_of_process resources process.0 process.1) names claims p process.name.items row
    in_names in_claims name (get_or_default claims p row [] in_claims) (at g.O.Output.written g.O.Output.failures c.args.teller.now c.args.output.now) (at g.O.Output.written g.O.Output.failures c.loop-p.teller c.loop-p.output) (at g.O.Output.written g.O.Output.failures c.tell_process.new.teller c.tell_process.new.output)
    c.loop-p.invariant
    (subst (λ (l : List Saying). Breaking g.T.Teller.tells g.T.Teller.breaks (at g.O.Output.written g.O.Output.failures c.loop-p.teller c.loop-p.output) l (at g.O.Output.written g.O.Output.failures c.tell_process.new.teller c.tell_process.new.output)) is c.in_err-tell_process.ensures.broken))

pub returns-clause-told : goal.returns-clause-told
returns-clause-told g c =
    let given = c.args.program.now in
    let claims = c.args.claims.now in
    let end : length claims ≤ c.loop-p.p =
    (
    let h = (as_many given claims c.requires).0 in
    let n = c.len-p-end.ensures in
    let past = c.loop-p-test.false in
    omega (arith, h, n, past)
    )
    in
    pairs_told g.T.Teller.tells (λ process. said_of_process (resource_names (resolved_view given)) process.0 process.1)
    (process_names (resolved_view given)) claims c.loop-p.p (at g.O.Output.written g.O.Output.failures c.args.teller.now c.args.output.now) (at g.O.Output.written g.O.Output.failures c.loop-p.teller c.loop-p.output) end c.loop-p.invariant
