use Rattle.pb_options.proofs.CodeLemmas.{none_has}
use Rattle.pb_options.proofs.code.CodeFromStr.from_str.Goals as goal

pub returns-in-None : goal.returns-in-None
returns-in-None c = none_has c.as_slice.result.now c.args.name.now c.as_slice.ensures c.in-None.ensures.none
