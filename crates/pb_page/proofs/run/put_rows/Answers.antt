use Rattle.std.proofs.Common.{◌≡◌, ◌+◌, ℕ, List, [], ◌++◌, refl, sym, ap, ◌∙◌, subst, append_assoc, arith}
use Rattle.std.proofs.lemmas.List.{append-nil}
use Rattle.pb_code.specs.View.{labels_view}
use Rattle.pb_history.specs.Entries.{picks_of}
use Rattle.pb_json.specs.Values.{comma}
use Rattle.pb_page.specs.Rows.{IsRow}
use Rattle.pb_page.specs.Runs.{AreRows}
use Rattle.pb_page.proofs.PartsMore.{one_part_more}
use Rattle.pb_page.proofs.run.put_rows.Goals as goal

pub put_next_row-requires-clause-walks : goal.put_next_row-requires-clause-walks
put_next_row-requires-clause-walks c =
    let (lending, walks) = c.requires.walks in (lending, c.loop-k.invariant.walks lending walks)

pub loop-k-init : goal.loop-k-init
loop-k-init c = record {
  walks = λ lending walks. walks;
  at = (omega arith);
  state = λ lending walks is. is;
  rows = ([], sym (append-nil c.args.out.now.items), λ lending walks is. refl);
}

pub loop-k-preserved : goal.loop-k-preserved
loop-k-preserved c =
    let v = c.args.verified.now in
    let picks = picks_of c.args.trace.now.entries in
    let from = c.args.walker.now.at in
    let k = c.loop-k.k in
    let made = c.in_ok-put_next_row.ensures in
    let row = made.row.0 in
    let old = c.args.out.now.items in
    let here = c.loop-k.out.items in
    let before = c.loop-k.invariant in
    let rows = before.rows.0 in
    let at = before.at in
    let after = made.at in
    record {
      walks = λ lending walks. made.walks lending (before.walks lending walks);
      at = (omega (arith, at, after));
      state = λ lending walks is. made.state lending (before.walks lending walks);
      rows = (
        rows ++ (comma k ++ row),
        made.row.1 ∙ (ap (λ (t : List ℕ). t ++ row) c.in_ok-put_comma.ensures
            ∙ (append_assoc here (comma k) row
            ∙ (ap (λ (t : List ℕ). t ++ (comma k ++ row)) before.rows.1 ∙ append_assoc old rows (comma k ++ row)))),
        λ lending walks is.
            one_part_more (λ j part. (row : List ℕ) × IsRow lending v.code (labels_view c.args.labels.now) picks (from + j) row × (part ≡ comma j ++ row)) k rows (comma k ++ row)
            (before.rows.2 lending walks is) (
              row,
              subst (λ (i : ℕ). IsRow lending v.code (labels_view c.args.labels.now) picks i row) at
                  (made.row.2 lending (before.walks lending walks) (before.state lending walks is)),
              refl,
            ),
      );
    }

pub returns-clause-rows : goal.returns-clause-rows
returns-clause-rows c =
    let rows = c.loop-k.invariant.rows in
    let test = c.loop-k-test.false in
    let past = c.loop-k.auto.k-end in
    let e : c.loop-k.k ≡ c.args.rows = omega (arith, test, past) in (
      rows.0,
      rows.1,
      λ lending walks is.
          subst (λ (n : ℕ). AreRows lending c.args.verified.now.code (labels_view c.args.labels.now) (picks_of c.args.trace.now.entries) c.args.walker.now.at n rows.0) e
          (rows.2 lending walks is),
    )
