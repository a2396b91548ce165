use Rattle.std.proofs.Common.{◌∷◌, []}
use Rattle.pb_bank.specs.Answers.{share_said}
use Rattle.pb_bank.proofs.EachNumber.{all_next}
use Rattle.pb_bank.proofs.state.say_shares.Goals as goal

pub loop-r-preserved : goal.loop-r-preserved
loop-r-preserved c =
    all_next (λ r. share_said c.args.bank.now.state c.args.p r ∷ []) c.loop-r.r c.args.out.now.items c.loop-r.out.items c.say_share.new.out.items c.loop-r.invariant
    c.in_ok-say_share.ensures
