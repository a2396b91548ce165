use Rattle.std.proofs.Common.{List, ℕ, ap, sym, ◌∙◌}
use Rattle.pb_bank.specs.Answers.{rest_of}
use Rattle.pb_bank.specs.Words.{words_of}
use Rattle.pb_bank.proofs.WordLemmas.{first_is}
use Rattle.pb_bank.proofs.words.after_command.Goals as goal

pub returns : goal.returns
returns c =
    let text = c.trimmed.result.now in
    let parts = first_is (words_of text) c.first_word.result.word.now (words_of c.first_word.result.rest.now) c.first_word.ensures.words
    c.first_word.ensures.none in
    sym parts.1 ∙ ap (λ (t : List ℕ). rest_of (words_of t)) c.trimmed.ensures
