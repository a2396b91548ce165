use Rattle.std.proofs.Common.{List, ℕ, subst}
use Rattle.pb_code.specs.View.{labels_view}
use Rattle.pb_history.specs.Entries.{picks_of}
use Rattle.pb_machine.specs.Views.{machine_view}
use Rattle.pb_page.specs.Runs.{IsRunDocument}
use Rattle.pb_page_engine.proofs.states.document.Goals as goal

pub ending_of-ending-requires : goal.ending_of-ending-requires
ending_of-ending-requires c = (c.args.lending, c.requires.machine)

pub returns : goal.returns
returns c =
    let lending = c.args.lending in
    let shown = c.args.shown in
    let picks = picks_of c.args.trace.now.entries in
    let text = c.args.text.now in
    let document = c.in_ok-said.said.items in
    let ending = c.ending_of-ending.result in
    let code = c.args.verified.now.code in
    let machine = machine_view c.args.machine.now in
    record {
      object = c.in_ok-object.object.items;
      spelled = c.in_ok-object.ensures;
      ending = ending;
      ends = c.ending_of-ending.ensures lending c.requires.machine;
      written = subst (λ (word : List ℕ). IsRunDocument lending code (labels_view c.args.labels.now) picks text c.in_ok-object.object.items shown.from shown.rows word document)
          c.last_line.ensures
          (subst (λ (o : List ℕ). IsRunDocument lending code (labels_view c.args.labels.now) picks text o shown.from shown.rows c.last_line.result.now document)
          c.deref.ensures.value c.in_ok-said.ensures);
      told = c.end_status.ensures.status machine c.status_at-faulted.ensures.status;
    }
