use Rattle.std.proofs.Common.{ℕ, ◌++◌, List, [], ◌∷◌, take, drop, get_or, sym, ap, ◌∙◌, subst, arith, refl, Some}
use Rattle.std.proofs.lemmas.List.{take_more, take_all, take-append-drop}
use Rattle.std.proofs.lemmas.Bool.{ne_eqb}
use Rattle.pb_bank_engine.specs.declared.session.Stop.TheVariants.{Memory}
use Rattle.pb_bank_engine.specs.Sessions.{IsTold, FedSome}
use Rattle.pb_bank_engine.proofs.LineParts.{fed_nothing, fed_line, fed_byte, fed_stop, fed_as}
use Rattle.pb_bank_engine.proofs.session.feed_page.Goals as goal
use Rattle.pb_bank_engine.proofs.session.feed_page.Goals.{then-bytes-i-eq10+in-Ok, else-bytes-i-eq10}

pub loop-i-init : goal.loop-i-init
loop-i-init c = λ part e. fed_nothing c.args.form c.args.desk.now part c.args.line.now (Some c.args.page.now.items) e

pub loop-i-preserved : goal.loop-i-preserved
loop-i-preserved c =
    let d = c.args.desk.now in
    let m = c.loop-i.desk in
    let bytes = c.args.bytes.now in
    let i = c.loop-i.i in
    let old = Some c.args.page.now.items in
    let mid = Some c.loop-i.page.items in
    let more = take_more bytes i 0 (omega arith) in
    elim c.if-bytes-i-eq10.branch [
      | then-bytes-i-eq10+in-Ok w ↦
          let new = Some w.answer_line.new.page.items in
          let next = w.answer_line.new.desk in
          let told = subst (λ (l : List ℕ). IsTold c.args.form m l mid new next) w.as_slice.ensures w.in-Ok.ensures.told in
          λ part e.
          fed_as c.args.form d part old next _ _ _ new _ [] _ (fed_line c.args.form d m next part (take i bytes) old mid new c.loop-i.line (c.loop-i.invariant part e) told)
          (ap (λ (b : ℕ). take i bytes ++ b ∷ []) (sym w.if-bytes-i-eq10.true) ∙ sym more)
          (ap (λ v. Some v.items) (sym w.page-is)) (sym (w.line-is ∙ w.clear.ensures)) (sym w.desk-is)
      | else-bytes-i-eq10 w ↦
          let b = get_or bytes i 0 in
          λ part e.
          fed_as c.args.form d part old m _ _ _ mid _ w.put.new.self _ (fed_byte c.args.form d m m part (take i bytes) old mid mid
          c.loop-i.line (c.loop-i.invariant part e) b w.put.new.self (ne_eqb b 10 w.if-bytes-i-eq10.false) w.put.ensures)
          (sym more) (ap (λ v. Some v.items) (sym w.page-is)) (sym w.line-is) (sym w.desk-is)
    ]

pub returns-in-Err-clause-some : goal.returns-in-Err-clause-some
returns-in-Err-clause-some c =
    let d = c.args.desk.now in
    let m = c.loop-i.desk in
    let bytes = c.args.bytes.now in
    let i = c.loop-i.i in
    let old = Some c.args.page.now.items in
    let mid = Some c.loop-i.page.items in
    let new = Some c.answer_line.new.page.items in
    let whole = take-append-drop i bytes in
    λ part e.
    subst (λ (bs : List ℕ). FedSome c.args.form Memory d part bs old new) whole
    (fed_stop c.args.form d m m part (take i bytes) old mid new c.loop-i.line (c.loop-i.invariant part e) (drop i bytes)
    (ap (λ (t : List ℕ). Some t) c.in-Err.ensures.kept))

pub returns-clause-fed : goal.returns-clause-fed
returns-clause-fed c = λ part e.
    let bytes = c.args.bytes.now in
    fed_as c.args.form c.args.desk.now part (Some c.args.page.now.items) c.loop-i.desk _ _ _ (Some c.loop-i.page.items) _ c.loop-i.line _ (c.loop-i.invariant part e)
    (take_all c.loop-i.i bytes (omega arith)) refl refl refl
