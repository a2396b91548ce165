use Rattle.std.proofs.Common.{◌≡◌, ap, ◌∙◌}
use Rattle.std.proofs.lemmas.Result.{IfOk-weaker}
use Rattle.serde_json.specs.Data.{Data}
use Rattle.serde_json.specs.View.{view}
use Rattle.pb_diagnostics.specs.Actions.{action_data, edit_range, text_edit, workspace_edit}
use Rattle.pb_mends.specs.Mends.{edit_of}
use Rattle.pb_diagnostics.proofs.act.action.Goals as goal

pub returns-clause-action : goal.returns-clause-action
returns-clause-action c =
    IfOk-weaker c.titled.result _ _
    (λ v is. record {
      edit = edit_of c.args.mend.now;
      mends = c.requires;
      title = c.deref-2.result.now;
      is = is ∙ ap (action_data c.deref-2.result.now)
          (c.in_ok-edit-2.ensures ∙ ap (workspace_edit c.args.uri.now)
          (c.in_ok-edit.ensures ∙ (ap (text_edit (view c.in_ok-range.range)) c.deref.ensures
          ∙ ap (λ (d : Data). text_edit d (edit_of c.args.mend.now).bytes) c.in_ok-range.ensures.range)));
    })
    c.titled.ensures
