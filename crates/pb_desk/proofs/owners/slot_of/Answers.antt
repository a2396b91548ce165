use Rattle.std.proofs.Common.{Vec, Global, Option, ◌≡◌, ℕ, List, map, true, false, sym, ap, ◌∙◌, arith}
use Rattle.std.proofs.lemmas.List.{drop_all}
use Rattle.std.specs.Str.{bytes_eq}
use Rattle.pb_bank.specs.Desks.{place_from}
use Rattle.pb_bank.proofs.PlaceLemmas.{place_next, place_starts}
use Rattle.pb_desk.proofs.owners.slot_of.Goals as goal

pub loop-p-init : goal.loop-p-init
loop-p-init c = place_starts (map (λ (n : Vec ℕ Global). n.items) c.args.names.now) c.args.word.now

pub returns-then-eq : goal.returns-then-eq
returns-then-eq c =
    let same : bytes_eq c.index-names-p.result.items c.args.word.now ≡ true =
    ap (λ (xs : List ℕ). bytes_eq xs c.args.word.now) (sym c.as_slice.ensures.value) ∙ (sym c.eq.ensures ∙ c.if-eq.true) in
    sym (c.loop-p.invariant
    ∙ place_next c.args.names.now c.args.word.now c.loop-p.p c.index-names-p.result true (omega arith) c.index-names-p.is same)

pub loop-p-preserved : goal.loop-p-preserved
loop-p-preserved c =
    let same : bytes_eq c.index-names-p.result.items c.args.word.now ≡ false =
    ap (λ (xs : List ℕ). bytes_eq xs c.args.word.now) (sym c.as_slice.ensures.value) ∙ (sym c.eq.ensures ∙ c.if-eq.false) in
    c.loop-p.invariant
    ∙ place_next c.args.names.now c.args.word.now c.loop-p.p c.index-names-p.result false (omega arith) c.index-names-p.is same

pub returns : goal.returns
returns c =
    let found : List (Vec ℕ Global) → Option ℕ = λ ns. place_from c.loop-p.p (map (λ (m : Vec ℕ Global). m.items) ns) c.args.word.now in
    sym (c.loop-p.invariant ∙ ap found (drop_all c.loop-p.p c.args.names.now (omega arith)))
