use Rattle.std.proofs.Common.{◌≡◌, ◌<◌, ◌+◌, ◌-◌, ◌++◌, ℕ, List, None, length, set, slice_set, inl, refl, sym, ap, ◌∙◌}
use Rattle.std.proofs.Common.{subst, arith}
use Rattle.std.proofs.lemmas.Grind.{common_steps}
use Rattle.pb_history.specs.Entries.{Entry, silent_picks}
use Rattle.pb_machine.specs.Steps.{ComesFrom}
use Rattle.pb_machine.specs.Views.{machine_view, proc_view}
use Rattle.pb_shared.specs.Books.{ledger_of}
use Rattle.pb_shared.specs.Ledgers.{Ledger, IsLegal, IsLentBy, Tries, home}
use Rattle.pb_shared.specs.Lending.{IsSilentRun}
use Rattle.pb_shared.specs.Spares.{lent_as, IsSpareOf}
use Rattle.pb_shared.specs.declared.spare.Spare.{Spare}
use Rattle.pb_shared.proofs.LegalCalls.{back_fits, comes_home, home_legal, legal_as, process_within, same_ledger, set_view}
use Rattle.pb_shared.proofs.LegalCalls.{slip_within, machine_there, tries_legal, tries_there}
use Rattle.pb_shared.proofs.SpareStretches.{spare_after, spare_at, spares_stay, spares_with}
use Rattle.pb_shared.proofs.book.Book.commit.Goals as goal

pub push_silent-requires-clause-fits : goal.push_silent-requires-clause-fits
push_silent-requires-clause-fits g c =
    let s = ledger_of c.self.inside in
    let lent = lent_as c.deref-lent.result.now in
    let by : IsLentBy s lent = rw (← c.self.view_is, ← c.stretch.view_is, ← c.deref-lent.ensures) at (c.lent.ensures.0 c.if-not-lent.false) in
    let fits = back_fits g.C.CodeBrand.code s lent c.self.invariant.legal by in
    let limited = c.self.invariant.legal.limited in
    let run : IsSilentRun g.C.CodeBrand.code.code lent = rw (← c.deref-lent.ensures) at c.stretch.invariant.run in
    let within = run.within in
    let same = ap (λ (es : List Entry). length es) c.reserve.ensures.same in
    omega (arith, fits, limited, within, same)

pub exchange-requires : goal.exchange-requires
exchange-requires g c =
    let s = ledger_of c.self.inside in
    let lent = lent_as c.deref-lent.result.now in
    let by : IsLentBy s lent = rw (← c.self.view_is, ← c.stretch.view_is, ← c.deref-lent.ensures) at (c.lent.ensures.0 c.if-not-lent.false) in
    let lt = process_within g.C.CodeBrand.code s lent c.self.invariant.legal by in
    let from = c.from-process.ensures in
    omega (arith, lt, from)

pub index_mut-requires : goal.index_mut-requires
index_mut-requires g c =
    let s = ledger_of c.self.inside in
    let lent = lent_as c.deref-lent.result.now in
    let by : IsLentBy s lent = rw (← c.self.view_is, ← c.stretch.view_is, ← c.deref-lent.ensures) at (c.lent.ensures.0 c.if-not-lent.false) in
    let lt = slip_within g.C.CodeBrand.code s lent c.self.invariant.legal by in
    let from = c.from-process.ensures in
    let all = c.self.invariant.spares.all in
    omega (arith, lt, from, all, c.self.inside.slips.ok.0)

pub index_mut-requires-2 : goal.index_mut-requires-2
index_mut-requires-2 g c =
    let s = ledger_of c.self.inside in
    let lent = lent_as c.deref-lent.result.now in
    let by : IsLentBy s lent = rw (← c.self.view_is, ← c.stretch.view_is, ← c.deref-lent.ensures) at (c.lent.ensures.0 c.if-not-lent.false) in
    let lt = slip_within g.C.CodeBrand.code s lent c.self.invariant.legal by in
    let from = c.from-process.ensures in
    omega (arith, lt, from, c.self.inside.slips.ok.0)

pub overflow_add-self : goal.overflow_add-self
overflow_add-self g c =
    let s = ledger_of c.self.inside in
    let lent = lent_as c.deref-lent.result.now in
    let by : IsLentBy s lent = rw (← c.self.view_is, ← c.stretch.view_is, ← c.deref-lent.ensures) at (c.lent.ensures.0 c.if-not-lent.false) in
    let fits = back_fits g.C.CodeBrand.code s lent c.self.invariant.legal by in
    let limited = c.self.invariant.legal.limited in
    omega (arith, fits, limited)

pub try_visible-requires-clause-fits : goal.try_visible-requires-clause-fits
try_visible-requires-clause-fits g c =
    let s = ledger_of c.self.inside in
    let lent = lent_as c.deref-lent.result.now in
    let by : IsLentBy s lent = rw (← c.self.view_is, ← c.stretch.view_is, ← c.deref-lent.ensures) at (c.lent.ensures.0 c.if-not-lent.false) in
    let run : IsSilentRun g.C.CodeBrand.code.code lent = rw (← c.deref-lent.ensures) at c.stretch.invariant.run in
    let counted = (home_legal g.C.CodeBrand.code s lent c.self.invariant.legal by run).counted in
    let limited = c.self.invariant.legal.limited in
    let within = run.within in
    let same : length c.push_silent.new.self.entries ≡ length (s.entries ++ silent_picks lent.pick lent.made) =
    ap (λ (es : List Entry). length es) (c.push_silent.ensures.entries ∙ ap (λ (es : List Entry). es ++ silent_picks
    lent.pick lent.made) c.reserve.ensures.same) in
    omega (arith, counted, limited, within, same)

pub invariant_of-self-then-made-allowance : goal.invariant_of-self-then-made-allowance
invariant_of-self-then-made-allowance g c =
    let code = g.C.CodeBrand.code in
    let s = ledger_of c.self.inside in
    let lent = lent_as c.deref-lent.result.now in
    let legal = c.self.invariant.legal in
    let run : IsSilentRun g.C.CodeBrand.code.code lent = rw (← c.deref-lent.ensures) at c.stretch.invariant.run in
    let by : IsLentBy s lent = rw (← c.self.view_is, ← c.stretch.view_is, ← c.deref-lent.ensures) at (c.lent.ensures.0 c.if-not-lent.false) in
    let was = c.deref_mut.ensures.value ∙ sym c.deref-lent.ensures in
    let of : IsSpareOf code lent.pick.process c.deref-lent.result.now = rw (← c.deref-lent.ensures) at c.stretch.invariant.spare in
    let comes : ComesFrom code c.self.inside.machine c.from-process.result c.deref_mut.result.now.state =
    subst (λ (x : Spare). ComesFrom code c.self.inside.machine c.from-process.result x.state) (sym was)
    (subst (λ (p : ℕ). ComesFrom code c.self.inside.machine p c.deref-lent.result.now.state) (sym c.from-process.ensures)
    (comes_home code s lent legal by run c.self.inside.machine c.deref-lent.result.now.state refl refl of.state.rooms)) in
    let processes = c.exchange.ensures.processes
    ∙ ap (λ (x : Spare). set (machine_view c.self.inside.machine).processes c.from-process.result (proc_view x.state)) was in
    let view = set_view c.self.inside.machine c.exchange.new.machine c.from-process.result lent.pick.process lent.state
    c.from-process.ensures processes c.exchange.ensures.bank in
    let entries = c.push_silent.ensures.entries ∙ ap (λ (es : List Entry). es ++ silent_picks lent.pick lent.made) c.reserve.ensures.same in
    let of : IsSpareOf code lent.pick.process c.deref-lent.result.now = rw (← c.deref-lent.ensures) at c.stretch.invariant.spare in
    let there = subst (λ (p : ℕ). IsSpareOf code p c.deref-lent.result.now) (sym c.from-process.ensures) of in
    let spare = spare_after code c.from-process.result c.deref-lent.result.now c.exchange.new.self
    (c.exchange.ensures.base ∙ ap (λ (x : Spare). x.base) was) there (c.exchange.ensures.process code c.self.invariant.machine) in
    record {
      refers = c.self.invariant.refers;
      legal = legal_as code (home s lent) _ (home_legal code s lent legal by run) (sym view) (sym entries) refl refl
          (ap (λ (p : ℕ). slice_set s.slips p None) (sym c.from-process.ensures))
          refl;
      machine = c.exchange.ensures.machine code c.self.invariant.machine comes;
      spares = spares_with code _ _ (spares_stay code _ _ c.self.invariant.spares _ None) _ _ (spare_at code c.from-process.result _ spare);
    }

pub try_visible-requires-clause-machine : goal.try_visible-requires-clause-machine
try_visible-requires-clause-machine g c =
    let code = g.C.CodeBrand.code in
    let s = ledger_of c.self.inside in
    let lent = lent_as c.deref-lent.result.now in
    let legal = c.self.invariant.legal in
    let run : IsSilentRun g.C.CodeBrand.code.code lent = rw (← c.deref-lent.ensures) at c.stretch.invariant.run in
    let by : IsLentBy s lent = rw (← c.self.view_is, ← c.stretch.view_is, ← c.deref-lent.ensures) at (c.lent.ensures.0 c.if-not-lent.false) in
    let was = c.deref_mut.ensures.value ∙ sym c.deref-lent.ensures in
    let of : IsSpareOf code lent.pick.process c.deref-lent.result.now = rw (← c.deref-lent.ensures) at c.stretch.invariant.spare in
    let comes : ComesFrom code c.self.inside.machine c.from-process.result c.deref_mut.result.now.state =
    subst (λ (x : Spare). ComesFrom code c.self.inside.machine c.from-process.result x.state) (sym was)
    (subst (λ (p : ℕ). ComesFrom code c.self.inside.machine p c.deref-lent.result.now.state) (sym c.from-process.ensures)
    (comes_home code s lent legal by run c.self.inside.machine c.deref-lent.result.now.state refl refl of.state.rooms)) in
    machine_there code c.self.inside.code.now _ (sym c.self.invariant.refers)
    (c.exchange.ensures.machine code c.self.invariant.machine comes)

pub invariant_of-self-2 : goal.invariant_of-self-2
invariant_of-self-2 g c =
    let code = g.C.CodeBrand.code in
    let s = ledger_of c.self.inside in
    let lent = lent_as c.deref-lent.result.now in
    let legal = c.self.invariant.legal in
    let run : IsSilentRun g.C.CodeBrand.code.code lent = rw (← c.deref-lent.ensures) at c.stretch.invariant.run in
    let by : IsLentBy s lent = rw (← c.self.view_is, ← c.stretch.view_is, ← c.deref-lent.ensures) at (c.lent.ensures.0 c.if-not-lent.false) in
    let was = c.deref_mut.ensures.value ∙ sym c.deref-lent.ensures in
    let processes = c.exchange.ensures.processes
    ∙ ap (λ (x : Spare). set (machine_view c.self.inside.machine).processes c.from-process.result (proc_view x.state)) was in
    let view = set_view c.self.inside.machine c.exchange.new.machine c.from-process.result lent.pick.process lent.state
    c.from-process.ensures processes c.exchange.ensures.bank in
    let entries = c.push_silent.ensures.entries ∙ ap (λ (es : List Entry). es ++ silent_picks lent.pick lent.made) c.reserve.ensures.same in
    let of : IsSpareOf code lent.pick.process c.deref-lent.result.now = rw (← c.deref-lent.ensures) at c.stretch.invariant.spare in
    let there = subst (λ (p : ℕ). IsSpareOf code p c.deref-lent.result.now) (sym c.from-process.ensures) of in
    let spare = spare_after code c.from-process.result c.deref-lent.result.now c.exchange.new.self
    (c.exchange.ensures.base ∙ ap (λ (x : Spare). x.base) was) there (c.exchange.ensures.process code c.self.invariant.machine) in
    let came : Ledger = record {
      machine = machine_view c.exchange.new.machine;
      entries = c.push_silent.new.self.entries;
      limit = s.limit;
      left = s.left + (lent.allowance - lent.made);
      slips = slice_set s.slips c.from-process.result None;
      refused = s.refused;
    } in
    let at_home : IsLegal code came = legal_as code (home s lent) came (home_legal code s lent legal by run)
    (sym view)
    (sym entries)
    refl
    refl
    (ap (λ (p : ℕ). slice_set s.slips p None) (sym c.from-process.ensures))
    refl in
    let unused : 0 < came.left = omega (arith, run.within) in record {
      refers = c.self.invariant.refers;
      legal = tries_legal code came _ lent.pick c.try_visible.result at_home unused (tries_there c.self.inside.code.now code came _ lent.pick
          c.try_visible.result c.self.invariant.refers c.try_visible.ensures.tries refl refl);
      machine = machine_there c.self.inside.code.now code _ c.self.invariant.refers c.try_visible.ensures.machine;
      spares = spares_with code _ _ (spares_stay code _ _ c.self.invariant.spares _ None) _ _ (spare_at code c.from-process.result _ spare);
    }

pub returns-then-made-allowance-clause-ok : goal.returns-then-made-allowance-clause-ok
returns-then-made-allowance-clause-ok g c = grind (arith, common_steps)

pub returns-clause-ok : goal.returns-clause-ok
returns-clause-ok g c =
    let code = g.C.CodeBrand.code in
    let s = ledger_of c.self.inside in
    let lent = lent_as c.deref-lent.result.now in
    let run : IsSilentRun g.C.CodeBrand.code.code lent = rw (← c.deref-lent.ensures) at c.stretch.invariant.run in
    let by : IsLentBy s lent = rw (← c.self.view_is, ← c.stretch.view_is, ← c.deref-lent.ensures) at (c.lent.ensures.0 c.if-not-lent.false) in
    let was = c.deref_mut.ensures.value ∙ sym c.deref-lent.ensures in
    let processes = c.exchange.ensures.processes
    ∙ ap (λ (x : Spare). set (machine_view c.self.inside.machine).processes c.from-process.result (proc_view x.state)) was in
    let view = set_view c.self.inside.machine c.exchange.new.machine c.from-process.result lent.pick.process lent.state
    c.from-process.ensures processes c.exchange.ensures.bank in
    let entries = c.push_silent.ensures.entries ∙ ap (λ (es : List Entry). es ++ silent_picks lent.pick lent.made) c.reserve.ensures.same in
    let came : Ledger = record {
      machine = machine_view c.exchange.new.machine;
      entries = c.push_silent.new.self.entries;
      limit = s.limit;
      left = s.left + (lent.allowance - lent.made);
      slips = slice_set s.slips c.from-process.result None;
      refused = s.refused;
    } in
    let after : Ledger = record {
      machine = machine_view c.try_visible.new.machine;
      entries = c.try_visible.new.trace.entries;
      limit = s.limit;
      left = c.try_visible.new.left;
      slips = slice_set s.slips c.from-process.result None;
      refused = c.try_visible.new.refused.items;
    } in
    let same : home s lent ≡ came = same_ledger (home s lent) came (sym view) (sym entries) refl refl
    (ap (λ (p : ℕ). slice_set s.slips p None) (sym c.from-process.ensures)) refl in
    let tries : Tries code.code (home s lent) lent.pick c.try_visible.result after =
    subst (λ (x : Ledger). Tries code.code x lent.pick c.try_visible.result after) (sym same)
    (tries_there c.self.inside.code.now code came after lent.pick c.try_visible.result c.self.invariant.refers c.try_visible.ensures.tries refl refl) in
    let less : lent.made < lent.allowance = (let most = run.within in let other = c.if-made-allowance.false in omega (arith, most, other)) in
    rw (← c.self.view_is, ← c.stretch.view_is, ← c.deref-lent.ensures) (by, inl (less, tries))
