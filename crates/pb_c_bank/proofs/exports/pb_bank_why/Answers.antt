use Rattle.pb_c_bank.proofs.Amounts.{bundle_below}
use Rattle.pb_c_bank.proofs.exports.pb_bank_why.Goals as goal

pub why-requires-clause-below : goal.why-requires-clause-below
why-requires-clause-below c =
    bundle_below c.args.bank.now.accounts c.requires.sound c.args.amounts.now c.bundle_of-bundle.result
    c.bundle_of-bundle.ensures c.if-not-is_request.ensures.each
