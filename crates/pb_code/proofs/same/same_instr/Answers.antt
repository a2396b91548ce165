use Rattle.pb_code.proofs.AlikeCodes.{plain_from}
use Rattle.pb_code.proofs.same.same_instr.Goals as goal

pub same_numbers-requires : goal.same_numbers-requires
same_numbers-requires c = plain_from c.args.one c.in_default.not-Take c.in_default.not-Give
