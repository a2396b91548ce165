use Rattle.clap.specs.Words.{found_of}
use Rattle.pb_options.specs.declared.options.UnknownLend.{UnknownLend}
use Rattle.pb_words.proofs.ReadLemmas.{lend_read, lend_unread}
use Rattle.pb_words.proofs.read.lend.Goals as goal

pub returns-in-Some-clause-some : goal.returns-in-Some-clause-some
returns-in-Some-clause-some c =
    lend_read UnknownLend (found_of c.args.matches.now) c.in-Some.lend c.in-Some.ensures.none c.in-Some.ensures.value

pub returns-in-None-clause-none : goal.returns-in-None-clause-none
returns-in-None-clause-none c = lend_unread UnknownLend (found_of c.args.matches.now) c.in-None.ensures.value
