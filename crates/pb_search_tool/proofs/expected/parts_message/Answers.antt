use Rattle.std.proofs.Common.{◌∙◌, ℕ, ap}
use Rattle.pb_lexer.specs.Cutting.{line_at}
use Rattle.pb_search_tool.proofs.MessageLemmas.{text_expected}
use Rattle.pb_search_tool.proofs.expected.parts_message.Goals as goal

pub returns : goal.returns
returns c =
    let before = c.place_of-before.ensures.line ∙ ap (λ (n : ℕ). line_at c.args.bytes.now n) c.min.ensures in
    text_expected (λ told. told.items) c.place_of-before.result.line c.args.bytes.now _ _ c.expected_text_message.result c.two_parts.ensures
    before c.expected_text_message.ensures
