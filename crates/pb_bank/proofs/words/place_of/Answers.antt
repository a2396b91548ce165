use Rattle.std.proofs.Common.{Vec, Global, Option, ◌≡◌, ℕ, List, map, true, false, sym, ap, ◌∙◌, arith}
use Rattle.std.proofs.lemmas.List.{drop_all}
use Rattle.std.specs.Str.{bytes_eq}
use Rattle.pb_bank.specs.Desks.{place_from}
use Rattle.pb_bank.proofs.PlaceLemmas.{place_next, place_starts}
use Rattle.pb_bank.proofs.words.place_of.Goals as goal

pub loop-i-init : goal.loop-i-init
loop-i-init c = place_starts (map (λ (n : Vec ℕ Global). n.items) c.args.names.now) c.args.word.now

pub returns-then-eq-clause-place : goal.returns-then-eq-clause-place
returns-then-eq-clause-place c =
    let same : bytes_eq c.index-names-i.result.items c.args.word.now ≡ true =
    ap (λ (xs : List ℕ). bytes_eq xs c.args.word.now) (sym c.as_slice.ensures.value) ∙ (sym c.eq.ensures ∙ c.if-eq.true) in
    sym (c.loop-i.invariant
    ∙ place_next c.args.names.now c.args.word.now c.loop-i.i c.index-names-i.result true (omega arith) c.index-names-i.is same)

pub loop-i-preserved : goal.loop-i-preserved
loop-i-preserved c =
    let same : bytes_eq c.index-names-i.result.items c.args.word.now ≡ false =
    ap (λ (xs : List ℕ). bytes_eq xs c.args.word.now) (sym c.as_slice.ensures.value) ∙ (sym c.eq.ensures ∙ c.if-eq.false) in
    c.loop-i.invariant
    ∙ place_next c.args.names.now c.args.word.now c.loop-i.i c.index-names-i.result false (omega arith) c.index-names-i.is same

pub returns-clause-place : goal.returns-clause-place
returns-clause-place c =
    let found : List (Vec ℕ Global) → Option ℕ = λ ns. place_from c.loop-i.i (map (λ (m : Vec ℕ Global). m.items) ns) c.args.word.now in
    sym (c.loop-i.invariant ∙ ap found (drop_all c.loop-i.i c.args.names.now (omega arith)))
