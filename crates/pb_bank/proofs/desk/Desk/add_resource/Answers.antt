use Rattle.std.proofs.Common.{Vec, Global, ◌≡◌, ℕ, map, None, sym, subst}
use Rattle.pb_base.specs.Banker.{processes}
use Rattle.pb_bank.specs.Desks.{DeskValue, place_of}
use Rattle.pb_bank.proofs.StartDesks.{desk_added}
use Rattle.pb_bank.proofs.desk.Desk.add_resource.Goals as goal

pub invariant_of-self-2 : goal.invariant_of-self-2
invariant_of-self-2 c =
    let bank = c.self.inside.bank in
    let old = c.self.inside.names.resources.items in
    let new : place_of (map (λ (n : Vec ℕ Global). n.items) old) c.args.name.now ≡ None =
    subst (λ (d : DeskValue). place_of d.names.resources c.args.name.now ≡ None) (sym c.self.view_is) c.requires.new in
    let early : processes bank.state ≡ 0 = subst (λ (d : DeskValue). processes d.bank.state ≡ 0) (sym c.self.view_is) c.requires.early in
    desk_added bank c.in_ok-bank.bank c.self.inside.names.processes.items old _ c.self.inside.wishes.items c.new.result.items
    c.in_ok-name.name c.args.name.now c.args.amount c.in_ok-push.ensures.items c.in_ok-name.ensures c.new.ensures.items c.requires.name new
    early c.in_ok-bank.ensures.state c.in_ok-bank.ensures.used c.self.invariant
