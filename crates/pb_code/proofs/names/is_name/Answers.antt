use Rattle.std.proofs.Common.{sym, ◌∙◌}
use Rattle.pb_code.proofs.NameTests.{name_decides}
use Rattle.pb_code.proofs.names.is_name.Goals as goal

pub returns-clause-name : goal.returns-clause-name
returns-clause-name c =
    let d = name_decides c.args.word.now in
    (λ e. d.0 (sym c.has_form.ensures ∙ e), λ n. c.has_form.ensures ∙ d.1 n)
