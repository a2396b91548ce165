use Rattle.std.proofs.Common.{ap, sym, subst, ◌∙◌, Err, inl, inr}
use Rattle.std.proofs.lemmas.Result.{err_from_is_err_and}
use Rattle.pb_lexer.specs.Tokens.{tokens}
use Rattle.pb_grammar.specs.declared.fault.ParseFault.TheVariants as fault
use Rattle.pb_grammar.proofs.ProgramLaws.{program_sound}
use Rattle.pb_parser.proofs.Wholes.{Judged, syntax_of, judged_refused, judged_high, judged_large, judged_made}
use Rattle.pb_parser.proofs.Wholes.{not_nested, is_high, not_high, is_large, not_large}
use Rattle.pb_parser.proofs.parser.parse.Goals as goal

pub returns-in_err-measure : goal.returns-in_err-measure
returns-in_err-measure g c =
    let p = err_from_is_err_and c.from_residual.result c.from_residual.ensures.1 in
    let shallow = not_nested (tokens c.args.tokens.now) c.if-nests_too_deep.ensures in
    let j = subst (λ r. Judged (tokens c.args.tokens.now) r) (sym (p.1 ∙ ap Err p.2)) (judged_refused (tokens
    c.args.tokens.now) _ shallow c.in_err-measure.ensures) in
    record {
      found = j.found;
      limits = j.limits;
      nested = λ n. j.too_deep.1 (inl n);
      syntax = syntax_of _ c.from_residual.result j;
      too_deep = j.too_deep.0;
      too_large = λ e. (j.too_large.0 e).1;
      no_program = λ shallow none. j.syntax.1 (shallow, none);
      high = λ h. j.too_deep.1 (inr h);
      large = λ shallow many. j.too_large.1 (shallow, many);
      memory = j.memory;
    }

pub returns-then-measure-gt-MAX_HEIGHT : goal.returns-then-measure-gt-MAX_HEIGHT
returns-then-measure-gt-MAX_HEIGHT g c =
    let shallow = not_nested (tokens c.args.tokens.now) c.if-nests_too_deep.ensures in
    let m = c.in_ok-measure.ensures in
    let j = judged_high (tokens c.args.tokens.now) m.syntax shallow (program_sound _ _ _ m.syntax m.found) (is_high _
    _ _ m.same c.if-measure-gt-MAX_HEIGHT.true) in
    record {
      found = j.found;
      limits = j.limits;
      nested = λ n. j.too_deep.1 (inl n);
      syntax = syntax_of _ (Err fault.TooDeep) j;
      too_deep = j.too_deep.0;
      too_large = λ e. (j.too_large.0 e).1;
      no_program = λ shallow none. j.syntax.1 (shallow, none);
      high = λ h. j.too_deep.1 (inr h);
      large = λ shallow many. j.too_large.1 (shallow, many);
      memory = j.memory;
    }

pub returns-then-measure-gt-MAX_NODES : goal.returns-then-measure-gt-MAX_NODES
returns-then-measure-gt-MAX_NODES g c =
    let shallow = not_nested (tokens c.args.tokens.now) c.if-nests_too_deep.ensures in
    let m = c.in_ok-measure.ensures in
    let j = judged_large (tokens c.args.tokens.now) m.syntax shallow (program_sound _ _ _ m.syntax m.found) (not_high
    _ _ _ m.same c.if-measure-gt-MAX_HEIGHT.false)
    (is_large _ _ _ m.same c.if-measure-gt-MAX_NODES.true) in
    record {
      found = j.found;
      limits = j.limits;
      nested = λ n. j.too_deep.1 (inl n);
      syntax = syntax_of _ (Err fault.TooLarge) j;
      too_deep = j.too_deep.0;
      too_large = λ e. (j.too_large.0 e).1;
      no_program = λ shallow none. j.syntax.1 (shallow, none);
      high = λ h. j.too_deep.1 (inr h);
      large = λ shallow many. j.too_large.1 (shallow, many);
      memory = j.memory;
    }

pub returns : goal.returns
returns g c =
    let shallow = not_nested (tokens c.args.tokens.now) c.if-nests_too_deep.ensures in
    let m = c.in_ok-measure.ensures in
    let j = judged_made (tokens c.args.tokens.now) _ c.read-2.result m.syntax shallow m.found
    (record {
      height = not_high _ _ _ m.same c.if-measure-gt-MAX_HEIGHT.false;
      nodes = not_large _ _ _ m.same
          c.if-measure-gt-MAX_NODES.false;
    }) c.read-2.ensures in
    record {
      found = j.found;
      limits = j.limits;
      nested = λ n. j.too_deep.1 (inl n);
      syntax = syntax_of _ c.read-2.result j;
      too_deep = j.too_deep.0;
      too_large = λ e. (j.too_large.0 e).1;
      no_program = λ shallow none. j.syntax.1 (shallow, none);
      high = λ h. j.too_deep.1 (inr h);
      large = λ shallow many. j.too_large.1 (shallow, many);
      memory = j.memory;
    }
