use Rattle.std.proofs.Common.{◌≡◌, ◌∙◌, rules, sym, subst}
use Rattle.serde_json.specs.Data.{null}
use Rattle.serde_json.specs.View.{view}
use Rattle.serde_json.specs.declared.value.Value.{Null, the_lemmas}
use Rattle.pb_code.specs.Limits.{IsName}
use Rattle.pb_outline.specs.Places.{place, places}
use Rattle.pb_outline.specs.Scopes.{Refuses}
use Rattle.pb_server_names.proofs.Renames.{not_renamed}
use Rattle.pb_server_names.proofs.places.rename_value.Goals as goal

nothing : view Null ≡ null
nothing = search (rules, the_lemmas)

pub returns-in-Err-NotAName : goal.returns-in-Err-NotAName
returns-in-Err-NotAName c =
    let other = subst (Refuses (place c.in-Some.one) c.as_bytes.result.now (places c.args.outline.now))
    c.in-Err-NotAName.field-0-is c.in-Err-NotAName.ensures.refused in
    let said = not_renamed c.args.uri.now c.args.text.now c.args.new_name.now (places c.args.outline.now) (place c.in-Some.one)
    (λ is. other (subst IsName (sym c.as_bytes.ensures.value) is)) in
    rw c.in-Some.is (nothing ∙ said)
