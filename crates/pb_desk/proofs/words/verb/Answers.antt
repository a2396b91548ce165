use Rattle.std.proofs.Common.{sym, ap, ◌∙◌}
use Rattle.pb_bank.specs.Answers.{first_of}
use Rattle.pb_desk.proofs.words.verb.Goals as goal

pub returns : goal.returns
returns c = c.first_word.ensures.first ∙ ap first_of (sym c.first_word.ensures.trimmed)
