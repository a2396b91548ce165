use Rattle.std.proofs.Common.{Vec, Global, ◌+◌, ◌<◌, ◌≤◌, refl, sym, ap, ◌∙◌, ◌++◌, ◌∷◌, [], subst}
use Rattle.pb_base.specs.Banker.{BankerState, loan, processes, resources}
use Rattle.pb_base.specs.Lines.{names_view}
use Rattle.pb_base.proofs.Results.{on_ok}
use Rattle.pb_banker.specs.Jobs.{HasJob}
use Rattle.pb_bank.specs.declared.request.Request.{Request}
use Rattle.pb_bank.specs.declared.said.Jobs.{Jobs}
use Rattle.pb_bank.specs.declared.said.Said.TheVariants.{WaitRest}
use Rattle.pb_bank.specs.Claims.{wished}
use Rattle.pb_bank.specs.Desks.{DeskValue, IsQueueOf}
use Rattle.pb_bank.proofs.CapitalDesks.{desk_same}
use Rattle.pb_bank.proofs.ClaimDesks.{requests_claimed, told_rest}
use Rattle.pb_bank.proofs.QueuedWishes.{waiting_claimed}
use Rattle.pb_bank.proofs.SlotNames.{slots_claimed}
use Rattle.pb_bank.proofs.Waiting.{desk_opened}
use Rattle.pb_bank.proofs.desk.Desk.change_claim.Goals as goal

pub invariant_of-self : goal.invariant_of-self
invariant_of-self c =
    let bank = c.self.inside.bank in
    let next = c.set_claim.new.self in
    let names = names_view c.self.inside.names in
    let has : HasJob bank c.args.job = subst (λ (d : DeskValue). HasJob d.bank c.args.job) (sym c.self.view_is) c.requires.job in
    let none = ap (λ (v : Vec Request Global). v.items) c.replace-wishes.ensures.after ∙ c.new.ensures.items in
    desk_opened bank next names names c.self.inside.wishes.items c.replace-wishes.new.dest.items none refl refl
    (ap (λ (s : BankerState). resources s) c.in-Changed.ensures.state)
    (slots_claimed bank next names.processes c.args.job c.args.pair.resource c.args.pair.amount c.in-Changed.ensures.state
    c.in-Changed.ensures.used has c.self.invariant.slots)
    c.self.invariant

pub serve-requires-clause-queue : goal.serve-requires-clause-queue
serve-requires-clause-queue c =
    let bank = c.self.inside.bank in
    let next = c.set_claim.new.self in
    let wishes = c.self.inside.wishes.items in
    let p = c.args.job in
    let r = c.args.pair.resource in
    let amount = c.args.pair.amount in
    let queue = c.self.invariant.wishes in
    let row : p < processes bank.state = subst (λ (d : DeskValue). p < processes d.bank.state) (sym c.self.view_is) c.requires.row in
    let below : r < resources bank.state = subst (λ (d : DeskValue). r < resources d.bank.state) (sym c.self.view_is) c.requires.resource in
    let enough : loan bank.state p r + wished wishes p r ≤ amount =
    subst (λ (d : DeskValue). loan d.bank.state p r + wished d.wishes p r ≤ amount) (sym c.self.view_is) c.requires.enough in
    subst (IsQueueOf next) (sym (ap (λ (v : Vec Request Global). v.items) c.replace-wishes.ensures.value)) (record {
      requests = requests_claimed bank next p r amount wishes c.in-Changed.ensures.state queue.requests;
      waiting =
          waiting_claimed bank next p r amount wishes c.slots.ensures.well_formed row below enough c.in-Changed.ensures.state
          c.in-Changed.ensures.used queue;
      one_each = queue.one_each;
    })

pub invariant_of-self-in-Rest : goal.invariant_of-self-in-Rest
invariant_of-self-in-Rest c =
    desk_same c.self.inside.bank c.set_claim.new.self (names_view c.self.inside.names) c.self.inside.wishes.items
    c.in-Rest.ensures.state c.in-Rest.ensures.used c.self.invariant

pub returns-in-Rest : goal.returns-in-Rest
returns-in-Rest c =
    on_ok c.say.result _ _ c.say.ensures
    (λ more. told_rest c.args.self.now c.self.inside.bank c.set_claim.new.self (names_view c.self.inside.names) c.self.inside.wishes.items
    c.args.job c.args.pair c.in-Rest.slots c.args.out.now.items c.say.new.out.items c.self.view_is
    c.in-Rest.ensures.said c.in-Rest.ensures.state c.in-Rest.ensures.used
    (more ∙ ap (λ (jobs : Jobs). c.args.out.now.items ++ WaitRest jobs ∷ []) c.jobs_of.ensures))
