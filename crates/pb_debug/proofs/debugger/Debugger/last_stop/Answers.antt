use Rattle.std.proofs.Common.{ℕ, ◌-◌, ◌*◌, ◌/◌, arith, sym, ◌∙◌}
use Rattle.std.proofs.Math.Nat.{div-mul-le_self}
use Rattle.pb_debug_stops.specs.Stops.{Arrives}
use Rattle.pb_debug.proofs.StopSearches.{last_of_all, none_from}
use Rattle.pb_debug.proofs.debugger.Debugger.last_stop.Goals as goal

pub returns-then-is_some : goal.returns-then-is_some
returns-then-is_some c =
    let d = c.args.self.now in
    let holds : ℕ → Type 0 = Arrives d.verified.code d.labels d.picks c.args.lines.now in
    let inv = c.loop-end.invariant in
    last_of_all holds ((c.loop-end.end - 1) / c.self.inside.interval * c.self.inside.interval) c.loop-end.end c.args.past inv.none
    c.in_ok-last.last inv.within (sym c.is_some.ensures ∙ c.if-is_some.true) c.in_ok-last.ensures

pub loop-end-preserved : goal.loop-end-preserved
loop-end-preserved c =
    let d = c.args.self.now in
    let holds : ℕ → Type 0 = Arrives d.verified.code d.labels d.picks c.args.lines.now in
    let inv = c.loop-end.invariant in
    let low = div-mul-le_self (c.loop-end.end - 1) c.self.inside.interval in
    let within = inv.within in
    record {
      within = omega (arith, low, within);
      none = none_from holds ((c.loop-end.end - 1) / c.self.inside.interval * c.self.inside.interval) c.loop-end.end c.args.past inv.none
          c.in_ok-last.last (sym c.is_some.ensures ∙ c.if-is_some.false) c.in_ok-last.ensures;
    }

pub returns : goal.returns
returns c = λ k le lt does. let test = c.loop-end-test.false in c.loop-end.invariant.none k (omega (arith, test)) lt does
