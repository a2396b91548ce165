use Rattle.std.proofs.Common.{◌≡◌, ◌++◌, ◌∷◌, [], map, ap, subst, sym, ◌∙◌, List, ℕ, Result}
use Rattle.std.proofs.lemmas.List.{map_push}
use Rattle.std.proofs.lemmas.List.Elements.{All-push}
use Rattle.std.proofs.lemmas.Simd.{map-map}
use Rattle.pb_object.specs.declared.fault.Fault.{Fault}
use Rattle.pb_object.specs.Lines.{Fails, many}
use Rattle.pb_object.specs.Objects.{ProcessRow}
use Rattle.pb_object.specs.Reading.{process_at, process_after}
use Rattle.pb_object.specs.Rows.{process_row, IsRow}
use Rattle.pb_object.proofs.Loops.{goes_on, ends, is_done}
use Rattle.pb_object.proofs.reader.processes_of.Goals as goal

pub returns-in-Err : goal.returns-in-Err
returns-in-Err c =
    let front = map process_row c.loop.processes.items in
    let names : map (λ p. p.name) front ≡ map (λ p. p.name.items) c.loop.processes.items = map-map (λ (p :
    ProcessRow). p.name) process_row c.loop.processes.items in
    let at = ap (λ (ns : List (List ℕ)). process_after c.args.format c.args.resources ns c.loop.rest.now) names in
    let fails : Fails c.in-Err.fault (process_at c.args.format c.args.resources front c.loop.rest.now) =
    subst (λ (r : Result (ProcessRow × List ℕ) Fault). Fails c.in-Err.fault r) (sym at) (rw c.deref.ensures.value at c.in-Err.ensures.read) in
    record {
      read = ends (process_at c.args.format c.args.resources) c.in-Err.fault front c.args.count c.loop.counter c.loop.rest.now
          (many (process_at c.args.format c.args.resources) [] c.args.count c.args.text.now) c.loop-test.true fails c.loop.invariant.read;
      fit = tt;
    }

pub loop-preserved : goal.loop-preserved
loop-preserved c =
    let front = map process_row c.loop.processes.items in
    let names : map (λ p. p.name) front ≡ map (λ p. p.name.items) c.loop.processes.items = map-map (λ (p :
    ProcessRow). p.name) process_row c.loop.processes.items in
    let at = ap (λ (ns : List (List ℕ)). process_after c.args.format c.args.resources ns c.loop.rest.now) names in
    let read = at ∙ rw c.deref.ensures.value at c.in-Ok.ensures.read in
    let pushed : map process_row c.push.new.self.items ≡ front ++ process_row c.in-Ok.process ∷ [] =
    rw c.in_ok-push-in-Ok.ensures.items (map_push process_row c.loop.processes.items c.in-Ok.process) in
    record {
      read = rw pushed (goes_on (process_at c.args.format c.args.resources) front c.args.count c.loop.counter
          c.loop.rest.now (process_row c.in-Ok.process) c.in-Ok.after.now
          (many (process_at c.args.format c.args.resources) [] c.args.count c.args.text.now) c.loop-test.true read c.loop.invariant.read);
      fit = rw c.in_ok-push-in-Ok.ensures.items (All-push IsRow c.loop.processes.items c.in-Ok.process c.loop.invariant.fit c.in-Ok.ensures.fit);
    }

pub returns : goal.returns
returns c = record {
  read = is_done (process_at c.args.format c.args.resources) (map process_row c.loop.processes.items) c.args.count c.loop.counter c.loop.rest.now
      (many (process_at c.args.format c.args.resources) [] c.args.count c.args.text.now) c.loop-test.false c.loop.invariant.read;
  fit = c.loop.invariant.fit;
}
