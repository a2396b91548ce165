use Rattle.std.proofs.Common.{Vec, Global, refl, ℕ, List, ◌++◌, sym, ap, ◌∙◌, subst}
use Rattle.pb_base.specs.Lines.{NameTable, names_view}
use Rattle.pb_base.specs.Steppers.{State}
use Rattle.pb_code.specs.Code.{CodeProcess}
use Rattle.pb_code.specs.View.{labels_view}
use Rattle.pb_code.specs.Whole.{Code}
use Rattle.pb_history.specs.Entries.{picks_of}
use Rattle.pb_history.specs.Positions.{state_after}
use Rattle.pb_page.specs.Rows.{HasNamesOf, row_text}
use Rattle.pb_page.specs.States.{IsStateBy}
use Rattle.pb_page.specs.Texts.{texts}
use Rattle.pb_page.proofs.RunSteps.{steps_named}
use Rattle.pb_page.proofs.row.put_next_row.Goals as goal

pub put_row-requires : goal.put_row-requires
put_row-requires c =
    let v = c.args.verified.now in
    let (lending, walks) = c.requires.walks in
    subst (λ (n : NameTable). HasNamesOf n c.advance-step.result) (sym (ap (λ (x : Code). x.names) c.code-code.ensures.code))
    (steps_named {lending = lending} v c.code-code.ensures.verified (picks_of c.args.trace.now.entries) walks.enabled c.args.walker.now.at
    c.advance-step.result c.advance-step.ensures.steps)

pub returns-clause-row : goal.returns-clause-row
returns-clause-row c =
    let v = c.args.verified.now in
    let picks = picks_of c.args.trace.now.entries in
    let before = texts c.args.state.now.items in
    let after = texts c.in_ok-after.after.items in
    let step = c.advance-step.result in
    let pick = c.pick-pick.result in
    let old = c.args.out.now.items in
    let named = names_view c.code-code.result.now.names in (
      row_text v.code.names c.pick-pick.result before after step,
      c.in_ok-put_row.ensures
          ∙ (ap (λ (es : List (Vec ℕ Global)). old ++ row_text named pick (texts es) (texts c.deref-2.result.now) step) c.deref.ensures.value
          ∙ (ap (λ (es : List (Vec ℕ Global)). old ++ row_text named pick before (texts es) step) c.deref-2.ensures.value
          ∙ ap (λ (x : Code). c.args.out.now.items ++ row_text x.names c.pick-pick.result before after step) c.code-code.ensures.code)),
      λ lending walks is_before.
          let stands = (c.advance-step.ensures.walks lending walks).stands in
          let reached = stands.state ∙ ap (state_after v.code picks) c.advance-step.ensures.at in
          record {
            pick = c.pick-pick.result;
            there = c.pick-pick.ensures;
            step = step;
            steps = c.advance-step.ensures.steps;
            before = before;
            is_before = is_before;
            after = after;
            is_after = subst (λ (s : State CodeProcess). IsStateBy lending v.code (labels_view c.args.labels.now) s after) reached (c.in_ok-after.ensures lending stands.machine);
            written = refl;
          },
    )

pub state_of-requires : goal.state_of-requires
state_of-requires c =
    let (lending, walks) = c.requires.walks in (lending, (c.advance-step.ensures.walks lending walks).stands.machine)

pub returns-clause-walks : goal.returns-clause-walks
returns-clause-walks c = c.advance-step.ensures.walks

pub returns-clause-state : goal.returns-clause-state
returns-clause-state c lending walks =
    let stands = (c.advance-step.ensures.walks lending walks).stands in
    subst (λ (s : State CodeProcess). IsStateBy lending c.args.verified.now.code (labels_view c.args.labels.now) s (texts c.in_ok-after.after.items))
    stands.state (c.in_ok-after.ensures lending stands.machine)
