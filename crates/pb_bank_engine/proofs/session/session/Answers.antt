use Rattle.std.proofs.Common.{◌≡◌, ℕ, ◌<◌, List, length, sym, ap, ◌∙◌, subst, arith}
use Rattle.std.proofs.lemmas.Bool.{eqb-true, eqb-false}
use Rattle.std.proofs.lemmas.Option.{IfSome_then}
use Rattle.pb_bank_engine.specs.Sessions.{IsTold, StopsAt}
use Rattle.pb_bank_engine.proofs.LineParts.{says_some, says_all, says_last, says_stop}
use Rattle.pb_base.proofs.Results.{if_err, on_ok}
use Rattle.pb_bank_engine.proofs.session.session.Goals as goal

pub returns-in-Err-clause-some : goal.returns-in-Err-clause-some
returns-in-Err-clause-some g c =
    IfSome_then (g.I.Input.rest c.args.input.now) c.in-Err.ensures.some
    (λ bytes some. says_some c.args.form c.in-Err.stop c.args.desk.now bytes (g.O.Output.written
    c.args.output.now) (g.O.Output.written c.read_lines.new.output) some)

pub returns-then-is_empty-clause-all : goal.returns-then-is_empty-clause-all
returns-then-is_empty-clause-all g c =
    let line = c.read_lines.new.line in
    let none : length c.as_slice.result.now ≡ 0 = eqb-true (length c.as_slice.result.now) 0 (sym c.is_empty.ensures ∙ c.if-is_empty.true) in
    let empty : length line ≡ 0 = ap (λ (l : List ℕ). length l) (sym c.as_slice.ensures) ∙ none in
    IfSome_then (g.I.Input.rest c.args.input.now) c.in_default.ensures.fed
    (λ bytes fed. says_all c.args.form c.args.desk.now c.read_lines.new.desk bytes (g.O.Output.written c.args.output.now)
    (g.O.Output.written c.read_lines.new.output) line fed empty c.waiting.ensures.waits)

pub returns-clause-all : goal.returns-clause-all
returns-clause-all g c =
    let line = c.read_lines.new.line in
    let m = c.read_lines.new.desk in
    let next = c.tell_line.new.desk in
    let mid = g.O.Output.written c.read_lines.new.output in
    let new = g.O.Output.written c.tell_line.new.output in
    let same = ap (λ (l : List ℕ). length l) c.as_slice.ensures in
    let some' : length c.as_slice.result.now ≡ 0 → ⊥ = eqb-false (length c.as_slice.result.now) 0 (sym c.is_empty.ensures ∙ c.if-is_empty.false) in
    let some : 0 < length line = omega (arith, same, some') in
    on_ok c.tell_line.result _ _ c.tell_line.ensures.told (λ told.
    IfSome_then (g.I.Input.rest c.args.input.now) c.in_default.ensures.fed
    (λ bytes fed. says_last c.args.form c.args.desk.now m bytes (g.O.Output.written c.args.output.now) mid line fed next new some
    (subst (λ (l : List ℕ). IsTold c.args.form m l mid new next) c.as_slice-2.ensures told)))

pub returns-clause-some : goal.returns-clause-some
returns-clause-some g c =
    let line = c.read_lines.new.line in
    let m = c.read_lines.new.desk in
    let next = c.tell_line.new.desk in
    let mid = g.O.Output.written c.read_lines.new.output in
    let new = g.O.Output.written c.tell_line.new.output in
    let same = ap (λ (l : List ℕ). length l) c.as_slice.ensures in
    let some' : length c.as_slice.result.now ≡ 0 → ⊥ = eqb-false (length c.as_slice.result.now) 0 (sym c.is_empty.ensures ∙ c.if-is_empty.false) in
    let some : 0 < length line = omega (arith, same, some') in
    if_err c.tell_line.result _ _ c.tell_line.ensures.stopped (λ fault stop.
    IfSome_then (g.I.Input.rest c.args.input.now) c.in_default.ensures.fed
    (λ bytes fed. says_stop c.args.form c.args.desk.now m bytes (g.O.Output.written c.args.output.now) mid line fed new fault some
    (subst (λ (l : List ℕ). StopsAt c.args.form fault m l mid new) c.as_slice-2.ensures stop)))

pub returns-in-Err-clause-answered : goal.returns-in-Err-clause-answered
returns-in-Err-clause-answered g c grew = c.read_lines.ensures.answered grew

pub returns-then-is_empty-clause-answered : goal.returns-then-is_empty-clause-answered
returns-then-is_empty-clause-answered g c grew = absurd (grew c.in_default.ensures.counted_reads)

pub returns-clause-answered : goal.returns-clause-answered
returns-clause-answered g c grew = absurd (grew c.in_default.ensures.counted_reads)
