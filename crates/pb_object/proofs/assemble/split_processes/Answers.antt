use Rattle.std.proofs.Common.{refl, rules, map-id}
use Rattle.std.proofs.lemmas.Iterator.Consumers.{YieldsList-end}
use Rattle.std.proofs.lemmas.Iterator.Adapters.{YieldsList-from_vec}
use Rattle.pb_object.proofs.Columns.{push_map, push_column}
use Rattle.pb_object.proofs.assemble.split_processes.Goals as goal

pub loop-row-preserved : goal.loop-row-preserved
loop-row-preserved c =
    let columns = c.loop-row.columns in
    record {
      names = rw c.in_ok-add.ensures.names (push_map (λ name. name.items) (λ p. p.name.items) columns.names.items
          c.loop-row.yielded c.in-Some.row.name c.in-Some.row c.loop-row.invariant.names refl);
      claims = rw c.in_ok-add.ensures.claims (push_map (λ row. row.items) (λ p. p.claims.items) columns.claims.items
          c.loop-row.yielded c.in-Some.row.claims c.in-Some.row c.loop-row.invariant.claims refl);
      codes = rw c.in_ok-add.ensures.codes (push_column (λ p. p.code) columns.codes.items c.loop-row.yielded c.in-Some.row c.loop-row.invariant.codes);
      labels = rw c.in_ok-add.ensures.labels (push_column (λ p. p.labels) columns.labels.items c.loop-row.yielded c.in-Some.row c.loop-row.invariant.labels);
    }

pub returns : goal.returns
returns c =
    let end = YieldsList-end (YieldsList-from_vec {s = c.into_iter-row-iterator.result} c.args.rows.items (search rules) (search rules))
    c.loop-row.yielded c.loop-row.row-iterator c.loop-row.yielded_by c.next.result c.next.new.self c.in-None.is c.next.ensures.steps in
    rw (← end.0, map-id) c.loop-row.invariant
