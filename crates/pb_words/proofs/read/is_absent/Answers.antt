use Rattle.std.proofs.Common.{◌∙◌, Ok, ap, refl}
use Rattle.std.specs.Str.Parse.{ParsesUnsigned, ExplainsUnsignedError, HasUnsignedDigitsIfOk}
use Rattle.clap.specs.Words.{found_of}
use Rattle.pb_words.proofs.ReadLemmas.{no_text, some_text}
use Rattle.pb_words.proofs.read.is_absent.Goals as goal

pub returns-in-Ok-None : goal.returns-in-Ok-None
returns-in-Ok-None c = (
  λ yes_it_is. no_text (λ bs r. ParsesUnsigned 64 10 bs r × ExplainsUnsignedError 10 bs r × HasUnsignedDigitsIfOk bs r)
      (found_of c.args.matches.now) c.args.id.now c.try_get_one.result (c.in-Ok-None.is ∙ ap Ok c.in-Ok-None.field-0-is) c.try_get_one.ensures.value,
  λ absent. refl,
)

pub returns-in-Ok-Some : goal.returns-in-Ok-Some
returns-in-Ok-Some c = (
  λ w. cc,
  λ absent. absurd (some_text (found_of c.args.matches.now) c.args.id.now c.try_get_one.result c.try_get_one.ensures.none
      (λ none. let w = c.in-Ok-Some.is in let v = c.in-Ok-Some.field-0-is in cc) absent),
)

pub returns-in-Err : goal.returns-in-Err
returns-in-Err c = (
  λ w. cc,
  λ absent. absurd (some_text (found_of c.args.matches.now) c.args.id.now c.try_get_one.result c.try_get_one.ensures.none
      (λ none. let w = c.in-Err.is in cc) absent),
)
