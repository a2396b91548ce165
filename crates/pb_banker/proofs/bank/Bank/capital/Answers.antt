use Rattle.std.proofs.Common.{◌<◌, arith, sym, ap, subst, ◌∙◌}
use Rattle.std.proofs.lemmas.List.{get_or-take}
use Rattle.pb_base.specs.Banker.{capital, resources}
use Rattle.pb_banker.specs.Accounts.{state_of}
use Rattle.pb_banker.specs.Jobs.{BankValue}
use Rattle.pb_banker.proofs.TableCells.{resources_of}
use Rattle.pb_banker.proofs.bank.Bank.capital.Goals as goal

pub returns : goal.returns
returns c =
    let k : c.args.r < resources (state_of c.self.inside.accounts) =
    subst (λ (v : BankValue). c.args.r < resources v.state) (sym c.self.view_is) c.requires in
    let l : c.args.r < c.self.inside.accounts.resources =
    (let e = resources_of c.self.inside.accounts c.self.invariant.sound in omega (arith, e, k)) in
    sym (get_or-take c.self.inside.accounts.resources c.self.inside.accounts.capital c.args.r 0 l)
    ∙ ap (λ (v : BankValue). capital v.state c.args.r) c.self.view_is
