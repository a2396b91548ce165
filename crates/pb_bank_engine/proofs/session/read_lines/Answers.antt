use Rattle.std.proofs.Common.{◌≡◌, inl, inr, ℕ, ◌+◌, ◌-◌, ◌≤◌, ◌++◌, List, [], length, take, drop, Option, Some, sym}
use Rattle.std.proofs.Common.{ap, ◌∙◌, subst, arith, refl, length-append}
use Rattle.std.specs.Prelude.{IfSome}
use Rattle.std.proofs.lemmas.List.{drop-drop, length-take, length-drop, take-append-drop}
use Rattle.pb_base.specs.Device.{dropped}
use Rattle.pb_bank_engine.specs.declared.session.Stop.TheVariants.{Device}
use Rattle.pb_bank_engine.specs.Forms.{spoken}
use Rattle.pb_bank_engine.specs.Sessions.{FedSome, session_bytes}
use Rattle.pb_bank_engine.proofs.LineParts.{fed_nothing, fed_broken, fed_as, fed_fed, fed_then_some, some_of_more}
use Rattle.pb_bank_engine.proofs.LineParts.{session_more, bytes_end}
use Rattle.pb_base.proofs.DeviceLemmas.{bytes_read, if_known}
use Rattle.pb_bank_engine.proofs.session.read_lines.Goals as goal

pub loop-left-init : goal.loop-left-init
loop-left-init g c = record {
  most = omega arith;
  room = refl;
  reads = refl;
  writes = refl;
  read = λ bytes e. fed_nothing c.args.form c.args.desk.now [] c.args.line.now (g.O.Output.written c.args.output.now) c.requires;
  rest = λ bytes e. e;
}

pub returns-in_default-clause-some : goal.returns-in_default-clause-some
returns-in_default-clause-some g c = if_known (g.I.Input.rest c.args.input.now) _ (λ bytes e.
    let d = c.args.desk.now in
    let m = c.loop-left.desk in
    let k = 18446744073709551615 - c.loop-left.left in
    let old = g.O.Output.written c.args.output.now in
    let mid = g.O.Output.written c.loop-left.output in
    let more = session_more bytes k (omega arith) in
    subst (λ (bs : List ℕ). FedSome c.args.form Device d [] bs old mid) more.1
    (fed_broken c.args.form d m m [] (take k bytes) old mid mid c.loop-left.line (c.loop-left.invariant.read bytes e) more.0))

pub returns-then-count-eq0-clause-fed : goal.returns-then-count-eq0-clause-fed
returns-then-count-eq0-clause-fed g c = if_known (g.I.Input.rest c.args.input.now) _ (λ bytes e.
    let d = c.args.desk.now in
    let m = c.loop-left.desk in
    let k = 18446744073709551615 - c.loop-left.left in
    let old = g.O.Output.written c.args.output.now in
    let mid = g.O.Output.written c.loop-left.output in
    let rest = c.loop-left.invariant.rest bytes e in
    let size = c.read.auto.buf in
    let end : drop k bytes ≡ [] = elim (c.in-Ok.ensures.end c.if-count-eq0.true) [
      | inl none ↦ (
          let empty : length c.read.new.buf ≡ 0 = ap length none in
          let room = c.loop-left.invariant.room in
          let cut = length-take c.min-most.result c.loop-left.block in
          absurd (omega (arith, size, empty, room, cut)))
      | inr none ↦ subst (λ (o : Option (List ℕ)). IfSome o (λ bs. bs ≡ [])) rest none
    ] in
    fed_as c.args.form d [] old m m (take k bytes) (session_bytes bytes) mid mid c.loop-left.line c.loop-left.line
    (c.loop-left.invariant.read bytes e) (bytes_end bytes k end (omega arith)) refl refl refl)

pub returns-in-Err-clause-some : goal.returns-in-Err-clause-some
returns-in-Err-clause-some g c = if_known (g.I.Input.rest c.args.input.now) _ (λ bytes e.
    let d = c.args.desk.now in
    let m = c.loop-left.desk in
    let next = c.feed.new.desk in
    let k = 18446744073709551615 - c.loop-left.left in
    let n = c.in-Ok.count in
    let old = g.O.Output.written c.args.output.now in
    let mid = g.O.Output.written c.loop-left.output in
    let new = g.O.Output.written c.feed.new.output in
    let fed = c.loop-left.invariant.read bytes e in
    let after = drop c.min-most.result c.loop-left.block in
    let bound = c.in-Ok.ensures.bound in
    let size = c.read.auto.buf in
    let read = bytes_read bytes c.read.new.buf after k n _ (c.loop-left.invariant.rest bytes e) c.in-Ok.ensures.given bound in
    let cut = length-take c.min-most.result c.loop-left.block in
    let within : k + n ≤ 18446744073709551615 = omega (arith, bound, size, cut) in
    let more = session_more bytes (k + n) within in
    let fault = c.in-Err.stop in
    let some = fed_then_some c.args.form d m next [] (take k bytes) old mid new c.loop-left.line fed fault (take n (c.read.new.buf
    ++ after)) (c.in-Err.ensures.some _ fed.last) in
    subst (λ (bs : List ℕ). FedSome c.args.form fault d [] bs old new) more.1
    (some_of_more c.args.form fault d [] (take (k + n) bytes) more.0 old new (subst (λ (bs : List ℕ). FedSome c.args.form fault d [] bs old new) read some)))

pub loop-left-preserved : goal.loop-left-preserved
loop-left-preserved g c =
    let d = c.args.desk.now in
    let m = c.loop-left.desk in
    let next = c.feed.new.desk in
    let k = 18446744073709551615 - c.loop-left.left in
    let n = c.in-Ok.count in
    let old = g.O.Output.written c.args.output.now in
    let mid = g.O.Output.written c.loop-left.output in
    let new = g.O.Output.written c.feed.new.output in
    let after = drop c.min-most.result c.loop-left.block in
    let bound = c.in-Ok.ensures.bound in
    let size = c.read.auto.buf in
    let cut = length-take c.min-most.result c.loop-left.block in
    let rest = length-drop c.min-most.result c.loop-left.block in
    let whole = length-append c.read.new.buf after in
    let room = c.loop-left.invariant.room in
    let further : k + n ≡ 18446744073709551615 - (c.loop-left.left - n) = omega (arith, bound, size, cut) in
    record {
      most = omega arith;
      room = omega (arith, size, cut, rest, whole, room);
      reads = c.in-Ok.ensures.counted ∙ c.loop-left.invariant.reads;
      writes = c.in-Ok-feed.ensures.counted ∙ c.loop-left.invariant.writes;
      read = λ bytes e.
          let fed = c.loop-left.invariant.read bytes e in
          let read = bytes_read bytes c.read.new.buf after k n _ (c.loop-left.invariant.rest bytes e) c.in-Ok.ensures.given bound in
          fed_as c.args.form d [] old next next _ _ new new c.feed.new.line c.feed.new.line
          (fed_fed c.args.form d m next [] (take k bytes) old mid new c.loop-left.line fed (take n (c.read.new.buf ++ after))
          c.feed.new.line (c.in-Ok-feed.ensures.fed _ fed.last))
          (read ∙ ap (λ i. take i bytes) further) refl refl refl;
      rest = λ bytes e.
          c.in-Ok.ensures.taken
          ∙ (ap (λ o. dropped o n) (c.loop-left.invariant.rest bytes e)
          ∙ (ap (λ (bs : List ℕ). Some bs) (drop-drop n k bytes) ∙ ap (λ i. Some (drop i bytes)) further));
    }

pub returns-clause-fed : goal.returns-clause-fed
returns-clause-fed g c = if_known (g.I.Input.rest c.args.input.now) _ (λ bytes e.
    let none : 18446744073709551615 - c.loop-left.left ≡ 18446744073709551615 = omega arith in
    fed_as c.args.form c.args.desk.now [] (g.O.Output.written c.args.output.now) c.loop-left.desk c.loop-left.desk _ _ _ _ c.loop-left.line c.loop-left.line
    (c.loop-left.invariant.read bytes e) (ap (λ i. take i bytes) none) refl refl refl)

pub returns-in_default-clause-answered : goal.returns-in_default-clause-answered
returns-in_default-clause-answered g c grew = if_known (g.I.Input.rest c.args.input.now) _ (λ bytes e.
    let k = 18446744073709551615 - c.loop-left.left in
    let fed = c.loop-left.invariant.read bytes e in
    let coming = c.in_default.ensures.fault.0 ∙ c.loop-left.invariant.rest bytes e in (
      take k bytes,
      spoken c.args.form fed.said,
      (drop k bytes, sym (take-append-drop k bytes), coming),
      (fed.said, fed.session, refl),
      fed.written,
    ))

pub returns-then-count-eq0-clause-answered : goal.returns-then-count-eq0-clause-answered
returns-then-count-eq0-clause-answered g c grew = absurd (grew (c.in-Ok.ensures.counted ∙ c.loop-left.invariant.reads))

pub returns-in-Err-clause-answered : goal.returns-in-Err-clause-answered
returns-in-Err-clause-answered g c grew = absurd (grew (c.in-Ok.ensures.counted ∙ c.loop-left.invariant.reads))

pub returns-clause-answered : goal.returns-clause-answered
returns-clause-answered g c grew = absurd (grew c.loop-left.invariant.reads)
