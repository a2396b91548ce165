use Rattle.std.proofs.Common.{◌≡◌, ◌<◌, ◌≤◌, ◌-◌, ◌++◌, List, refl, sym, ap, ◌∙◌, subst, arith}
use Rattle.pb_base.specs.declared.lending.Lending.TheVariants.{ByBanker}
use Rattle.pb_history.specs.Entries.{Entry, silent_picks}
use Rattle.pb_machine.specs.Views.{machine_view}
use Rattle.pb_shared.specs.Books.{ledger_of}
use Rattle.pb_shared.specs.Ledgers.{Ledger, IsLegal, Tries}
use Rattle.pb_shared.specs.Turning.{GoesOn, went_on}
use Rattle.pb_shared.proofs.LegalCalls.{legal_as, machine_there, same_ledger, tries_legal, tries_there, went_on_legal}
use Rattle.pb_shared.proofs.Turns.{goes_all, goes_on, moves_there, stops_there}
use Rattle.pb_shared.proofs.book.Book.go_on.Goals as goal

pub invariant_of-self-then-made-most : goal.invariant_of-self-then-made-most
invariant_of-self-then-made-most g c =
    let code = g.C.CodeBrand.code in
    let s = ledger_of c.self.inside in
    let made = c.run_silent-made.result in
    let next = machine_view c.run_silent-made.new.self in
    let most : c.args.most ≤ s.left = rw (← c.self.view_is) at c.requires in
    let within : made ≤ s.left = omega (arith, most, c.run_silent-made.ensures.within) in
    let moves = moves_there c.self.inside.code.now code c.self.invariant.refers s.machine next c.args.pick made
    c.args.most (c.run_silent-made.ensures.made ByBanker) in
    let entries = c.push_silent.ensures.entries ∙ ap (λ (es : List Entry). es ++ silent_picks c.args.pick made) c.reserve.ensures.same in
    record {
      refers = c.self.invariant.refers;
      legal = legal_as code (went_on s c.args.pick made next) _
          (went_on_legal code s c.args.pick made next c.self.invariant.legal within moves) refl (sym entries) refl refl refl refl;
      machine = machine_there c.self.inside.code.now code _ c.self.invariant.refers (c.run_silent-made.ensures.machine ByBanker (machine_there code c.self.inside.code.now c.self.inside.machine (sym c.self.invariant.refers) c.self.invariant.machine));
      spares = c.self.invariant.spares;
    }

pub returns-then-made-most-clause-ok : goal.returns-then-made-most-clause-ok
returns-then-made-most-clause-ok g c =
    let code = g.C.CodeBrand.code in
    let s = ledger_of c.self.inside in
    let made = c.run_silent-made.result in
    let next = machine_view c.run_silent-made.new.self in
    let moves = moves_there c.self.inside.code.now code c.self.invariant.refers s.machine next c.args.pick made
    c.args.most (c.run_silent-made.ensures.made ByBanker) in
    let stops = stops_there c.self.inside.code.now code c.self.invariant.refers s.machine next c.args.pick made
    c.args.most c.run_silent-made.ensures.stops in
    let entries = c.push_silent.ensures.entries ∙ ap (λ (es : List Entry). es ++ silent_picks c.args.pick made) c.reserve.ensures.same in
    let went : Ledger = record {
      machine = next;
      entries = c.push_silent.new.self.entries;
      limit = s.limit;
      left = s.left - made;
      slips = s.slips;
      refused = s.refused;
    } in
    let same : went_on s c.args.pick made next ≡ went = same_ledger _ _ refl (sym entries) refl refl refl refl in
    let all : made ≡ c.args.most = omega (arith, c.if-made-most.true) in
    subst (λ (x : Ledger). GoesOn code.code x c.args.pick c.args.most made went) c.self.view_is
    (subst (GoesOn code.code s c.args.pick c.args.most made) same
    (goes_all code.code s c.args.pick c.args.most made next c.run_silent-made.ensures.within moves stops all))

pub invariant_of-self-2 : goal.invariant_of-self-2
invariant_of-self-2 g c =
    let code = g.C.CodeBrand.code in
    let s = ledger_of c.self.inside in
    let made = c.run_silent-made.result in
    let next = machine_view c.run_silent-made.new.self in
    let most : c.args.most ≤ s.left = rw (← c.self.view_is) at c.requires in
    let within : made ≤ s.left = omega (arith, most, c.run_silent-made.ensures.within) in
    let moves = moves_there c.self.inside.code.now code c.self.invariant.refers s.machine next c.args.pick made
    c.args.most (c.run_silent-made.ensures.made ByBanker) in
    let entries = c.push_silent.ensures.entries ∙ ap (λ (es : List Entry). es ++ silent_picks c.args.pick made) c.reserve.ensures.same in
    let went : Ledger = record {
      machine = next;
      entries = c.push_silent.new.self.entries;
      limit = s.limit;
      left = s.left - made;
      slips = s.slips;
      refused = s.refused;
    } in
    let legal : IsLegal code went = legal_as code (went_on s c.args.pick made next) went
    (went_on_legal code s c.args.pick made next c.self.invariant.legal within moves) refl (sym entries) refl refl refl refl in
    let some : 0 < went.left = omega (arith, most, c.run_silent-made.ensures.within, c.if-made-most.false) in
    record {
      refers = c.self.invariant.refers;
      legal = tries_legal code went _ c.args.pick c.try_visible-answer.result legal some (tries_there c.self.inside.code.now code went _
          c.args.pick c.try_visible-answer.result c.self.invariant.refers c.try_visible-answer.ensures.tries refl refl);
      machine = machine_there c.self.inside.code.now code _ c.self.invariant.refers c.try_visible-answer.ensures.machine;
      spares = c.self.invariant.spares;
    }

pub returns-clause-ok : goal.returns-clause-ok
returns-clause-ok g c =
    let code = g.C.CodeBrand.code in
    let s = ledger_of c.self.inside in
    let made = c.run_silent-made.result in
    let next = machine_view c.run_silent-made.new.self in
    let moves = moves_there c.self.inside.code.now code c.self.invariant.refers s.machine next c.args.pick made
    c.args.most (c.run_silent-made.ensures.made ByBanker) in
    let stops = stops_there c.self.inside.code.now code c.self.invariant.refers s.machine next c.args.pick made
    c.args.most c.run_silent-made.ensures.stops in
    let entries = c.push_silent.ensures.entries ∙ ap (λ (es : List Entry). es ++ silent_picks c.args.pick made) c.reserve.ensures.same in
    let went : Ledger = record {
      machine = next;
      entries = c.push_silent.new.self.entries;
      limit = s.limit;
      left = s.left - made;
      slips = s.slips;
      refused = s.refused;
    } in
    let end : Ledger = record {
      machine = machine_view c.try_visible-answer.new.machine;
      entries = c.try_visible-answer.new.trace.entries;
      limit = s.limit;
      left = c.try_visible-answer.new.left;
      slips = s.slips;
      refused = c.try_visible-answer.new.refused.items;
    } in
    let same : went_on s c.args.pick made next ≡ went = same_ledger _ _ refl (sym entries) refl refl refl refl in
    let tries : Tries code.code went c.args.pick c.try_visible-answer.result end = tries_there c.self.inside.code.now
    code went end c.args.pick c.try_visible-answer.result c.self.invariant.refers c.try_visible-answer.ensures.tries refl refl in
    let less : made < c.args.most = omega (arith, c.run_silent-made.ensures.within, c.if-made-most.false) in
    subst (λ (x : Ledger). GoesOn code.code x c.args.pick c.args.most made end) c.self.view_is
    (goes_on code.code s c.args.pick c.args.most made next c.run_silent-made.ensures.within moves stops
    c.try_visible-answer.result end less
    (subst (λ (x : Ledger). Tries code.code x c.args.pick c.try_visible-answer.result end) (sym same) tries))
