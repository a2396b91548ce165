use Rattle.std.proofs.Common.{◌∷◌, []}
use Rattle.pb_bank.specs.Answers.{stock_said}
use Rattle.pb_bank.proofs.EachNumber.{all_next}
use Rattle.pb_bank.proofs.state.say_stocks.Goals as goal

pub loop-r-preserved : goal.loop-r-preserved
loop-r-preserved c =
    all_next (λ r. stock_said c.args.bank.now.state r ∷ []) c.loop-r.r c.args.out.now.items c.loop-r.out.items c.say_stock.new.out.items c.loop-r.invariant
    c.in_ok-say_stock.ensures
