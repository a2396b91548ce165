use Rattle.std.specs.Str.Parse.{ParsesBool}
use Rattle.clap.specs.Words.{found_of}
use Rattle.pb_words.proofs.ReadLemmas.{flag_read, flag_unread}
use Rattle.pb_words.proofs.read.flag.Goals as goal

pub returns-in-Some : goal.returns-in-Some
returns-in-Some c =
    flag_read (found_of c.args.matches.now) c.args.id.now c.in-Some.set c.in-Some.ensures.none c.in-Some.ensures.value

pub returns-in-None : goal.returns-in-None
returns-in-None c =
    flag_unread (λ bs r. ParsesBool bs r) (found_of c.args.matches.now) c.args.id.now (λ t e read. read.0) c.in-None.ensures.value
