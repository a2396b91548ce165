use Rattle.std.proofs.Common.{Vec, Global, ◌≡◌, ◌+◌, ℕ, List, ◌++◌, length, ap, ◌∙◌, subst, arith}
use Rattle.std.proofs.lemmas.List.{length-map}
use Rattle.pb_base.specs.Steppers.{State}
use Rattle.pb_code.specs.Code.{CodeProcess}
use Rattle.pb_code.specs.View.{labels_view}
use Rattle.pb_history.specs.Entries.{Entry, picks_of}
use Rattle.pb_history.specs.Positions.{state_after}
use Rattle.pb_page.specs.Runs.{AreRows, IsEnd, end_text, first_of, head_text, rows_of, start_text}
use Rattle.pb_page.specs.States.{IsStateBy}
use Rattle.pb_page.specs.Texts.{texts}
use Rattle.pb_page.proofs.PartsMore.{four_parts}
use Rattle.pb_page.proofs.run.run_document.Goals as goal

pub put_rows-requires-clause-walks : goal.put_rows-requires-clause-walks
put_rows-requires-clause-walks c = (c.args.lending, c.in_ok-walker.ensures.walks)

pub returns : goal.returns
returns c =
    let code = c.args.verified.now.code in
    let lending = c.args.lending in
    let picks = picks_of c.args.trace.now.entries in
    let shown = c.args.shown in
    let many = length-map c.args.trace.now.entries (λ (e : Entry). e.pick) in
    let len = c.len-picks.ensures in
    let first = c.min-from.ensures in
    let most = c.min-rows.ensures in
    let all : c.len-picks.result ≡ length picks = omega (arith, many, len) in
    let from : c.min-from.result ≡ first_of picks shown.from = omega (arith, first, all) in
    let rows : c.min-rows.result ≡ rows_of picks shown.from shown.rows = omega (arith, most, from, all) in
    let start = texts c.in_ok-state.state.items in
    let made = c.in_ok-put_rows.ensures in
    let walks = c.in_ok-walker.ensures.walks in
    let at : c.in_ok-walker.walker.at ≡ first_of picks shown.from = c.in_ok-walker.ensures.at ∙ from in
    let last : c.put_rows.new.walker.at ≡ first_of picks shown.from + rows_of picks shown.from shown.rows =
    let m = made.at in omega (arith, m, at, rows) in
    let here : IsStateBy lending code (labels_view c.args.labels.now) (state_after code picks c.in_ok-walker.walker.at) start =
    subst (λ (s : State CodeProcess). IsStateBy lending code (labels_view c.args.labels.now) s start) walks.stands.state
    (c.in_ok-state.ensures lending walks.stands.machine) in
    record {
      start = start;
      is_start = subst (λ (i : ℕ). IsStateBy lending code (labels_view c.args.labels.now) (state_after code picks i) start) at here;
      rows = made.rows.0;
      are_rows = subst (λ (i : ℕ). AreRows lending code (labels_view c.args.labels.now) picks i (rows_of picks shown.from shown.rows) made.rows.0) at
          (subst (λ (n : ℕ). AreRows lending code (labels_view c.args.labels.now) picks c.in_ok-walker.walker.at n made.rows.0) rows (made.rows.2 lending walks here));
      end = c.end_word.result.now;
      is_end = subst (λ (i : ℕ). IsEnd picks c.args.ending.now i c.end_word.result.now) last c.end_word.ensures;
      written = four_parts c.new-out.result.items
          (head_text c.args.source.now c.args.object.now lending (length picks) (first_of picks shown.from)) (start_text start)
          made.rows.0 (end_text c.end_word.result.now) c.put_head.new.out.items c.put_start.new.out.items c.put_rows.new.out.items
          c.put_end.new.out.items c.new-out.ensures.items
          (c.in_ok-put_head.ensures
          ∙ (ap (λ (n : ℕ). c.new-out.result.items ++ head_text c.args.source.now c.args.object.now lending n c.min-from.result) all
          ∙ ap (λ (n : ℕ). c.new-out.result.items ++ head_text c.args.source.now c.args.object.now lending (length picks) n) from))
          (c.in_ok-put_start.ensures
          ∙ ap (λ (es : List (Vec ℕ Global)). c.put_head.new.out.items ++ start_text (texts es)) c.deref.ensures.value)
          made.rows.1 c.in_ok-put_end.ensures;
    }

pub state_of-requires : goal.state_of-requires
state_of-requires c = (c.args.lending, c.in_ok-walker.ensures.walks.stands.machine)
