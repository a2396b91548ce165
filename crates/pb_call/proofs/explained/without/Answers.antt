use Rattle.std.proofs.Common.{refl}
use Rattle.pb_call.specs.Explained.IsWithout.{whole}
use Rattle.pb_call.proofs.ExplainedLemmas.{after_the_name, no_words}
use Rattle.pb_call.proofs.explained.without.Goals as goal

pub returns-in-len1-up : goal.returns-in-len1-up
returns-in-len1-up c = after_the_name c.args.word.now c.args.words.now (c.if-is_first.ensures.0 refl)

pub returns-in_default : goal.returns-in_default
returns-in_default c = no_words c.args.word.now c.args.words.now c.in_default.len_below

pub returns-in_default-2 : goal.returns-in_default-2
returns-in_default-2 c = whole c.args.words.now (λ first. let same = c.if-is_first.ensures.1 first in cc)
