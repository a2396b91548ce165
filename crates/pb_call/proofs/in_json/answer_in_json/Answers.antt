use Rattle.std.proofs.Common.{◌≡◌, true, false, ap, sym, ◌∙◌, map, subst}
use Rattle.std.specs.Borrow.{Bor}
use Rattle.clap.specs.Words.{Text}
use Rattle.pb_command_io.specs.declared.status.Status.TheVariants.{Done}
use Rattle.pb_call.specs.Explained.{AnswersLive}
use Rattle.pb_call.proofs.ExplainedLemmas.{as_it_comes, at_the_end}
use Rattle.pb_json_lines.specs.Dialects.{comes_live, dialect_of}
use Rattle.pb_json_lines.specs.declared.form.Dialect.{Dialect}
use Rattle.pb_call.proofs.in_json.answer_in_json.Goals as goal

pub returns-then-comes_live : goal.returns-then-comes_live
returns-then-comes_live g c =
    let words = c.args.words.now in
    let spoken = dialect_of (map (λ (w : Bor Text). w.now) words) Done in
    let live : comes_live spoken ≡ true =
    ap comes_live (sym c.dialect_of-dialect.ensures) ∙ (sym c.comes_live.ensures ∙ c.if-comes_live.true) in
    as_it_comes g.C.Commands.tool g.C.Commands.MaySay g.C.Commands.Leaves words (g.I.Input.rest c.args.input.now) (g.I.Input.rest c.answer_live.new.input) (g.I.Input.failures c.args.input.now)
    (g.I.Input.failures c.answer_live.new.input) c.args.output.now c.answer_live.new.output c.answer_live.result (comes_live spoken) live
    (subst (λ (d : Dialect). AnswersLive g.C.Commands.tool g.C.Commands.MaySay g.C.Commands.Leaves d words (g.I.Input.rest c.args.input.now) (g.I.Input.rest c.answer_live.new.input)
    (g.I.Input.failures c.args.input.now) (g.I.Input.failures c.answer_live.new.input) c.args.output.now c.answer_live.new.output
    c.answer_live.result) c.dialect_of-dialect.ensures c.answer_live.ensures)

pub returns-else-comes_live : goal.returns-else-comes_live
returns-else-comes_live g c =
    let words = c.args.words.now in
    let spoken = dialect_of (map (λ (w : Bor Text). w.now) words) Done in
    let late : comes_live spoken ≡ false =
    ap comes_live (sym c.dialect_of-dialect.ensures) ∙ (sym c.comes_live.ensures ∙ c.if-comes_live.false) in
    at_the_end g.C.Commands.tool g.C.Commands.MaySay g.C.Commands.Leaves words (g.I.Input.rest c.args.input.now) (g.I.Input.rest c.answer_at_the_end.new.input) (g.I.Input.failures c.args.input.now)
    (g.I.Input.failures c.answer_at_the_end.new.input) c.args.output.now c.answer_at_the_end.new.output c.answer_at_the_end.result
    (comes_live spoken) late c.answer_at_the_end.ensures.text c.answer_at_the_end.ensures.faults
