use Rattle.pb_base.proofs.Results.{on_ok}
use Rattle.pb_bank.specs.Objects.{third_forms, form_json, key_text, kind_text, string_member}
use Rattle.pb_bank.proofs.Appended.{three_more}
use Rattle.pb_bank.proofs.objects.put_third_forms.Goals as goal

pub returns : goal.returns
unfolding third_forms form_json kind_text string_member key_text
returns c =
    on_ok c.put_form-3.result _ _ c.put_form-3.ensures
    (three_more c.args.out.now.items c.put_form.new.out.items c.put_form-2.new.out.items c.put_form-3.new.out.items
    _ _ _ c.in_ok-put_form.ensures c.in_ok-put_form-2.ensures)
