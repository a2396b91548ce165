use Rattle.std.proofs.Common.{◌∙◌, ◌+◌, sym, arith}
use Rattle.pb_lexer.specs.Forms.{fixed}
use Rattle.pb_lexer.proofs.LongestTokens.{built, slice_one, slice_two, longest_one, longest_two, NoTwo, nothing_there}
use Rattle.pb_lexer.proofs.lexer.symbol_at.Goals as goal
use Rattle.pb_lexer.proofs.lexer.symbol_at.Goals.{then-at-text+in_default, else-at-text}

pub returns-in-Some : goal.returns-in-Some
returns-in-Some c =
    let asks = c.requires in
    let longest = longest_two _ _ asks.in_text asks.no_letter asks.no_digit in
    let form = fixed (slice_two _ _ c.if-at-text.true ∙ sym c.in-Some.ensures) in
    (built _ c.args.at (c.args.at + 2) _ _ (omega arith) (omega arith) asks.line form longest, tt)

pub returns-in-Some-symbol : goal.returns-in-Some-symbol
returns-in-Some-symbol c =
    let asks = c.requires in
    let no_two : NoTwo c.args.text.now c.args.at = elim c.if-at-text.branch [
      | then-at-text+in_default w ↦ (λ lt. w.in_default.ensures)
      | else-at-text w ↦ (λ lt. absurd (omega arith))
    ] in
    let longest = longest_one _ _ asks.in_text asks.no_letter asks.no_digit no_two in
    let form = fixed (slice_one _ _ asks.in_text ∙ sym c.in-Some-symbol.ensures) in
    (built _ c.args.at (c.args.at + 1) _ _ (omega arith) (omega arith) asks.line form longest, tt)

pub returns-in-None : goal.returns-in-None
returns-in-None c =
    let asks = c.requires in
    let no_two : NoTwo c.args.text.now c.args.at = elim c.if-at-text.branch [
      | then-at-text+in_default w ↦ (λ lt. w.in_default.ensures)
      | else-at-text w ↦ (λ lt. absurd (omega arith))
    ] in
    nothing_there _ _ asks.in_text asks.no_letter asks.no_digit no_two
    c.in-None.ensures asks.no_blank asks.no_comment
