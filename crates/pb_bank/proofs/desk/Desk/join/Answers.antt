use Rattle.std.proofs.Common.{Vec, Global, ◌≡◌, ◌<◌, ℕ, List, length, map, set, take, All, None, sym, ap, ◌∙◌, subst, arith}
use Rattle.pb_base.specs.declared.pair.Pair.{Pair}
use Rattle.pb_base.specs.Banker.{resources}
use Rattle.pb_base.specs.Lines.{names_view}
use Rattle.pb_banker.specs.Jobs.{BankValue}
use Rattle.pb_bank.specs.declared.request.Request.{Request}
use Rattle.pb_bank.specs.Desks.{DeskValue, IsDesk, IsQueueOf, place_of}
use Rattle.pb_bank.specs.Queues.{ServesQueue}
use Rattle.pb_bank.proofs.DeskLemmas.{desk_joining, desk_of, joined_desk, queue_joined}
use Rattle.pb_base.proofs.Results.{on_ok}
use Rattle.pb_bank.proofs.desk.Desk.join.Goals as goal

-- one of the pairs is of a resource that is there
some_resources : (pairs : List Pair) (n m : ℕ) → n ≡ length pairs → 0 < n → All (λ pair. pair.resource < m) pairs → 0 < m
some_resources pairs n m many some below =
    let l = below 0 (record { resource = 0; amount = 0 }) (omega (arith, many, some)) in
    omega (arith, l)

pub invariant_of-self : goal.invariant_of-self
invariant_of-self c =
    let bank = c.self.inside.bank in
    let says = c.in-In.ensures.said in
    let jobs = c.self.inside.names.processes.items in
    let none = ap (λ (v : Vec Request Global). v.items) c.replace-wishes.ensures.after ∙ c.new.ensures.items in
    let new : place_of (map (λ (n : Vec ℕ Global). n.items) jobs) c.args.name.now ≡ None =
    subst (λ (d : DeskValue). place_of d.names.processes c.args.name.now ≡ None) (sym c.self.view_is) c.requires.new in
    let below : All (λ pair. pair.resource < resources bank.state) c.args.bundle.now =
    subst (λ (d : DeskValue). All (λ pair. pair.resource < resources d.bank.state) c.args.bundle.now) (sym c.self.view_is) c.requires.below in
    let money = some_resources c.args.bundle.now c.len.result (resources bank.state) c.len.ensures.len c.len.ensures.some below in
    desk_joining bank c.join.new.self jobs (map (λ (n : Vec ℕ Global). n.items) c.self.inside.names.resources.items)
    c.self.inside.wishes.items c.replace-wishes.new.dest.items c.in-In.p (take c.resources-resources.result c.row_of-row.result)
    c.in_ok-name.name c.args.name.now none c.in_ok-name.ensures c.requires.name new money says.1 says.2 c.self.invariant

pub invariant_of-self-in-OverCapital-1 : goal.invariant_of-self-in-OverCapital-1
invariant_of-self-in-OverCapital-1 c =
    subst (λ (b : BankValue). IsDesk (record { bank = b; names = names_view c.self.inside.names; wishes = c.self.inside.wishes.items }))
    (sym c.in-OverCapital.ensures.said.1) c.self.invariant

pub invariant_of-self-in-Full-1 : goal.invariant_of-self-in-Full-1
invariant_of-self-in-Full-1 c =
    subst (λ (b : BankValue). IsDesk (record { bank = b; names = names_view c.self.inside.names; wishes = c.self.inside.wishes.items }))
    (sym c.in-Full.ensures.said.2) c.self.invariant

pub serve-requires-clause-queue : goal.serve-requires-clause-queue
serve-requires-clause-queue c =
    let bank = c.self.inside.bank in
    let says = c.in-In.ensures.said in
    subst (IsQueueOf c.join.new.self) (sym (ap (λ (v : Vec Request Global). v.items) c.replace-wishes.ensures.value))
    (queue_joined bank c.join.new.self (map (λ (n : Vec ℕ Global). n.items) c.self.inside.names.processes.items) c.in-In.p
    (take c.resources-resources.result c.row_of-row.result) c.self.inside.wishes.items c.slots.ensures.well_formed c.self.invariant.slots
    says.1 says.2 c.self.invariant.wishes)

pub returns-in-In : goal.returns-in-In
returns-in-In c =
    let jobs = c.self.inside.names.processes.items in
    let names = map (λ (n : Vec ℕ Global). n.items) c.self.inside.names.resources.items in
    let taken = ap (λ (v : Vec Request Global). v.items) c.replace-wishes.ensures.value in
    on_ok c.serve.result _ _ c.serve.ensures (λ h. (
      h.0,
      joined_desk c.args.self.now c.self.inside.bank c.join.new.self jobs names c.self.inside.wishes.items c.in-In.p c.resources-resources.result
          c.in_ok-name.name c.args.name.now c.row_of-row.result c.args.bundle.now h.0 c.serve.new.self c.self.view_is c.in_ok-name.ensures
          c.resources-resources.ensures.number c.row_of-row.ensures c.in-In.ensures.said
          (subst (λ (ws : List Request). ServesQueue (desk_of c.join.new.self (set jobs c.in-In.p c.in_ok-name.name) names ws) h.0 c.serve.new.self)
          taken h.1),
      h.2,
    ))
