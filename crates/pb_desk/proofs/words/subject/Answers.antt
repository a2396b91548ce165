use Rattle.std.proofs.Common.{ap, ◌∙◌}
use Rattle.pb_bank.specs.Answers.{first_of}
use Rattle.pb_desk.proofs.words.subject.Goals as goal

pub returns : goal.returns
returns c = c.first_word.ensures.first ∙ ap first_of c.after_command.ensures
