use Rattle.std.proofs.Common.{◌≡◌, ◌<◌, sym, ap, ◌∙◌, subst}
use Rattle.pb_banker.specs.Lenders.{lender_state}
use Rattle.pb_base.specs.Banker.{BankerState, cash, resources}
use Rattle.pb_base.specs.Steppers.{banker_state}
use Rattle.pb_code.specs.Whole.{bank_of}
use Rattle.pb_machine.specs.Views.{machine_view}
use Rattle.pb_draw.proofs.cash.cash_of.Goals as goal

pub cash-requires : goal.cash-requires
cash-requires c =
    let e : lender_state c.lender.result.now ≡ banker_state (bank_of c.args.verified.now.code) (machine_view c.args.machine.now).loans =
    ap lender_state c.lender.ensures.bank ∙ c.requires.machine.1.bank in
    subst (λ (s : BankerState). c.args.r < resources s) (sym e) c.requires.resource

pub returns : goal.returns
returns c =
    let e : lender_state c.lender.result.now ≡ banker_state (bank_of c.args.verified.now.code) (machine_view c.args.machine.now).loans =
    ap lender_state c.lender.ensures.bank ∙ c.requires.machine.1.bank in
    c.cash.ensures ∙ ap (λ (s : BankerState). cash s c.args.r) e
