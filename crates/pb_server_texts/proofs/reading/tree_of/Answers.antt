use Rattle.std.proofs.Common.{◌∙◌, Err, ap}
use Rattle.pb_lexer.specs.Tokens.{tokens}
use Rattle.pb_server_texts.proofs.ReadTexts.{no_tree_if_deep, no_tree_if_large, no_tree_if_syntax}
use Rattle.pb_server_texts.proofs.reading.tree_of.Goals as goal

pub returns-in-Err-Syntax : goal.returns-in-Err-Syntax
returns-in-Err-Syntax c =
    no_tree_if_syntax (tokens c.args.given.now) c.in-Err-Syntax.field-0 _ c.in-Err-Syntax.field-0-is
    c.in-Err-Syntax.ensures.syntax

pub returns-in-Err-TooDeep : goal.returns-in-Err-TooDeep
returns-in-Err-TooDeep c =
    no_tree_if_deep (tokens c.args.given.now) (c.parse.ensures.too_deep (c.in-Err-TooDeep.is ∙ ap Err c.in-Err-TooDeep.field-0-is))

pub returns-in-Err-TooLarge : goal.returns-in-Err-TooLarge
returns-in-Err-TooLarge c =
    no_tree_if_large (tokens c.args.given.now) (c.parse.ensures.too_large (c.in-Err-TooLarge.is ∙ ap Err c.in-Err-TooLarge.field-0-is))
