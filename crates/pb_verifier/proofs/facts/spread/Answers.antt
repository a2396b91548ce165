use Rattle.std.proofs.Common.{length, refl, ap, subst, arith}
use Rattle.pb_verifier.specs.Given.{instrs_of}
use Rattle.pb_verifier.specs.Spread.{rules_of, notes_of}
use Rattle.pb_verifier.proofs.FactSpread.{spread_over}
use Rattle.pb_verifier.proofs.Steps.{order_inside, place_within, table_start, never_unknown, is_here, here_leads}
use Rattle.pb_verifier.proofs.Steps.{here_there}
use Rattle.pb_verifier.proofs.Steps.{here_readable, all_readable, here_misfit, here_disagrees, here_agreed}
use Rattle.pb_verifier.proofs.Steps.{here_shared}
use Rattle.pb_verifier.proofs.facts.spread.Goals as goal

pub loop-place-init : goal.loop-place-init
loop-place-init g c =
    table_start record { inside = c.requires.inside; reached = c.requires.reached; grown = c.requires.grown }
    c.in_ok-table.ensures (g.met.F.Fact.firsts c.args.first c.requires.first (instrs_of c.args.code.now) _)

pub instr_at-instr-requires : goal.instr_at-instr-requires
instr_at-instr-requires g c =
    order_inside c.args.entries.now (instrs_of c.args.code.now) c.args.order.now
    record { inside = c.requires.inside; reached = c.requires.reached; grown = c.requires.grown }
    c.loop-place.place-index c.loop-place-test.true

pub index-requires : goal.index-requires
index-requires g c =
    let within = place_within record { inside = c.requires.inside; reached = c.requires.reached; grown = c.requires.grown }
    c.loop-place.invariant c.loop-place-test.true in
    omega (arith, within)

pub unreachable-requires : goal.unreachable-requires
unreachable-requires g c =
    never_unknown record { inside = c.requires.inside; reached = c.requires.reached; grown = c.requires.grown }
    c.loop-place.invariant c.loop-place-test.true c.index.ensures c.in_default.not-Some

pub fits-requires : goal.fits-requires
fits-requires g c =
    let here = is_here record { inside = c.requires.inside; reached = c.requires.reached; grown = c.requires.grown }
    c.loop-place.invariant c.loop-place-test.true c.instr_at-instr.ensures c.index.ensures c.in-Some.is in
    here_readable here c.deref-facts.ensures.value

pub returns-then-not-fits-clause-no : goal.returns-then-not-fits-clause-no
returns-then-not-fits-clause-no g c =
    let here = is_here record { inside = c.requires.inside; reached = c.requires.reached; grown = c.requires.grown }
    c.loop-place.invariant c.loop-place-test.true c.instr_at-instr.ensures c.index.ensures c.in-Some.is in
    here_misfit here c.deref-facts.ensures.value c.if-not-fits.ensures

pub next-next-requires-clause-readable : goal.next-next-requires-clause-readable
next-next-requires-clause-readable g c =
    let here = is_here record { inside = c.requires.inside; reached = c.requires.reached; grown = c.requires.grown }
    c.loop-place.invariant c.loop-place-test.true c.instr_at-instr.ensures c.index.ensures c.in-Some.is in
    here_readable here c.deref-facts.ensures.value

pub next-next-requires-clause-instr : goal.next-next-requires-clause-instr
next-next-requires-clause-instr g c =
    let here = is_here record { inside = c.requires.inside; reached = c.requires.reached; grown = c.requires.grown }
    c.loop-place.invariant c.loop-place-test.true c.instr_at-instr.ensures c.index.ensures c.in-Some.is in
    here.read

pub next-next-requires-clause-fact : goal.next-next-requires-clause-fact
next-next-requires-clause-fact g c =
    let here = is_here record { inside = c.requires.inside; reached = c.requires.reached; grown = c.requires.grown }
    c.loop-place.invariant c.loop-place-test.true c.instr_at-instr.ensures c.index.ensures c.in-Some.is in
    here_there here c.deref-facts.ensures.value

pub all_agree-requires-clause-inside : goal.all_agree-requires-clause-inside
all_agree-requires-clause-inside g c =
    let here = is_here record { inside = c.requires.inside; reached = c.requires.reached; grown = c.requires.grown }
    c.loop-place.invariant c.loop-place-test.true c.instr_at-instr.ensures c.index.ensures c.in-Some.is in
    here_leads here _ (ap length c.deref-facts.ensures.value)

pub all_agree-requires-clause-readable : goal.all_agree-requires-clause-readable
all_agree-requires-clause-readable g c =
    let here = is_here record { inside = c.requires.inside; reached = c.requires.reached; grown = c.requires.grown }
    c.loop-place.invariant c.loop-place-test.true c.instr_at-instr.ensures c.index.ensures c.in-Some.is in
    all_readable here c.deref-facts.ensures.value

pub returns-then-not-all_agree-clause-no : goal.returns-then-not-all_agree-clause-no
returns-then-not-all_agree-clause-no g c =
    let here = is_here record { inside = c.requires.inside; reached = c.requires.reached; grown = c.requires.grown }
    c.loop-place.invariant c.loop-place-test.true c.instr_at-instr.ensures c.index.ensures c.in-Some.is in
    here_disagrees here c.deref-facts.ensures.value c.next-next.result c.next-next.ensures.value c.if-not-all_agree.ensures

pub share_all-requires-clause-inside : goal.share_all-requires-clause-inside
share_all-requires-clause-inside g c =
    let here = is_here record { inside = c.requires.inside; reached = c.requires.reached; grown = c.requires.grown }
    c.loop-place.invariant c.loop-place-test.true c.instr_at-instr.ensures c.index.ensures c.in-Some.is in
    here_leads here _ refl

pub share_all-requires-clause-agree : goal.share_all-requires-clause-agree
share_all-requires-clause-agree g c =
    let here = is_here record { inside = c.requires.inside; reached = c.requires.reached; grown = c.requires.grown }
    c.loop-place.invariant c.loop-place-test.true c.instr_at-instr.ensures c.index.ensures c.in-Some.is in
    here_agreed here c.deref-facts.ensures.value c.next-next.result c.if-not-all_agree.ensures

pub share_all-requires-clause-fact : goal.share_all-requires-clause-fact
share_all-requires-clause-fact g c =
    subst (λ xs. g.F.Fact.IsReadable (instrs_of c.args.code.now) xs c.next-next.result) c.deref-facts.ensures.value
    c.next-next.ensures.readable

pub note_all-requires : goal.note_all-requires
note_all-requires g c =
    let here = is_here record { inside = c.requires.inside; reached = c.requires.reached; grown = c.requires.grown }
    c.loop-place.invariant c.loop-place-test.true c.instr_at-instr.ensures c.index.ensures c.in-Some.is in
    here_leads here _ c.share_all.ensures.sized

pub loop-place-preserved : goal.loop-place-preserved
loop-place-preserved g c =
    let here = is_here record { inside = c.requires.inside; reached = c.requires.reached; grown = c.requires.grown }
    c.loop-place.invariant c.loop-place-test.true c.instr_at-instr.ensures c.index.ensures c.in-Some.is in
    here_shared here c.deref-facts.ensures.value c.next-next.result c.share_all.new.table.items c.note_all.new.table.items
    (g.met.F.Fact.keeps (instrs_of c.args.code.now)) c.if-not-fits.ensures c.next-next.ensures.value
    c.next-next.ensures.readable c.if-not-all_agree.ensures c.share_all.ensures c.note_all.ensures

pub returns-clause-yes : goal.returns-clause-yes
returns-clause-yes g c =
    let spread = c.loop-place.invariant.spread in
    record {
      annotation =
          spread_over (rules_of (g.F.Fact.start c.args.first) g.F.Fact.Fits g.F.Fact.after) c.args.entries.now
          (instrs_of c.args.code.now) c.args.order.now c.loop-place.place-index
          (notes_of (g.F.Fact.value (instrs_of c.args.code.now) c.loop-place.table.items) c.loop-place.table.items) spread (omega arith);
      reached = λ p m e. (c.requires.reached p).0 (spread.within p m e);
      agrees = spread.least;
    }
