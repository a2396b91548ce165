use Rattle.std.proofs.Common.{Vec, Global, refl, sym, subst, ap, ◌∙◌, ◌++◌, ◌∷◌, []}
use Rattle.pb_base.specs.Banker.{BankerState, resources}
use Rattle.pb_base.specs.Lines.{names_view}
use Rattle.pb_bank.specs.declared.said.Jobs.{Jobs}
use Rattle.pb_bank.specs.declared.said.Said.TheVariants.{WaitRest}
use Rattle.pb_banker.proofs.Capitals.{resources-with}
use Rattle.pb_bank.specs.declared.request.Request.{Request}
use Rattle.pb_bank.specs.Desks.{IsQueueOf}
use Rattle.pb_bank.proofs.CapitalDesks.{desk_same, queue_changed, told_rest}
use Rattle.pb_bank.proofs.SlotNames.{slots_same}
use Rattle.pb_bank.proofs.Waiting.{desk_opened}
use Rattle.pb_base.proofs.Results.{on_ok}
use Rattle.pb_bank.proofs.desk.Desk.set_capital.Goals as goal

pub invariant_of-self : goal.invariant_of-self
invariant_of-self c =
    let bank = c.self.inside.bank in
    let next = c.set_capital.new.self in
    let names = names_view c.self.inside.names in
    let state = c.in-Changed.ensures.state in
    let none = ap (λ (v : Vec Request Global). v.items) c.replace-wishes.ensures.after ∙ c.new.ensures.items in
    let money = ap (λ (s : BankerState). resources s) state ∙ resources-with bank.state c.args.r c.args.amount in
    desk_opened bank next names names c.self.inside.wishes.items c.replace-wishes.new.dest.items none refl refl money
    (slots_same bank next names.processes (ap (λ (s : BankerState). s.claims) state) money c.in-Changed.ensures.used c.self.invariant.slots)
    c.self.invariant

pub serve-requires-clause-queue : goal.serve-requires-clause-queue
serve-requires-clause-queue c =
    subst (IsQueueOf c.set_capital.new.self) (sym (ap (λ (v : Vec Request Global). v.items) c.replace-wishes.ensures.value))
    (queue_changed c.self.inside.bank c.set_capital.new.self c.args.r c.args.amount c.self.inside.wishes.items c.in-Changed.ensures.state
    c.in-Changed.ensures.used c.self.invariant.wishes)

pub invariant_of-self-in-Claimed : goal.invariant_of-self-in-Claimed
invariant_of-self-in-Claimed c =
    desk_same c.self.inside.bank c.set_capital.new.self (names_view c.self.inside.names) c.self.inside.wishes.items
    c.in-Claimed.ensures.state c.in-Claimed.ensures.used c.self.invariant

pub invariant_of-self-in-OverCash : goal.invariant_of-self-in-OverCash
invariant_of-self-in-OverCash c =
    desk_same c.self.inside.bank c.set_capital.new.self (names_view c.self.inside.names) c.self.inside.wishes.items
    c.in-OverCash.ensures.state c.in-OverCash.ensures.used c.self.invariant

pub invariant_of-self-in-Rest : goal.invariant_of-self-in-Rest
invariant_of-self-in-Rest c =
    desk_same c.self.inside.bank c.set_capital.new.self (names_view c.self.inside.names) c.self.inside.wishes.items
    c.in-Rest.ensures.state c.in-Rest.ensures.used c.self.invariant

pub returns-in-Rest : goal.returns-in-Rest
returns-in-Rest c =
    on_ok c.say-in-Rest.result _ _ c.say-in-Rest.ensures
    (λ more. told_rest c.args.self.now c.self.inside.bank c.set_capital.new.self (names_view c.self.inside.names) c.self.inside.wishes.items
    c.args.r c.args.amount c.in-Rest.slots c.args.out.now.items c.say-in-Rest.new.out.items c.self.view_is
    c.in-Rest.ensures.said c.in-Rest.ensures.state c.in-Rest.ensures.used
    (more ∙ ap (λ (jobs : Jobs). c.args.out.now.items ++ WaitRest jobs ∷ []) c.jobs_of-in-Rest.ensures))
