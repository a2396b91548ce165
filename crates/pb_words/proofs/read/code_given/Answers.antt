use Rattle.clap.specs.Words.{found_of}
use Rattle.pb_words.proofs.ReadLemmas.{code_read, code_unread}
use Rattle.pb_words.proofs.read.code_given.Goals as goal

pub returns-in-Ok-clause-some : goal.returns-in-Ok-clause-some
returns-in-Ok-clause-some c =
    code_read (found_of c.args.matches.now) _ c.in-Ok.code c.in-Ok.ensures.none c.in-Ok.ensures.value

pub returns-in-Err-clause-none : goal.returns-in-Err-clause-none
returns-in-Err-clause-none c =
    code_unread (found_of c.args.matches.now) _ _ c.in-Err.ensures.none c.in-Err.ensures.value
