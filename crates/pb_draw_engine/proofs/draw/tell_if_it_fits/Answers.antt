use Rattle.std.proofs.Common.{◌<◌, ◌≤◌, [], ◌∷◌, ℕ, List, arith, length, subst}
use Rattle.pb_accept.specs.Sayings.{Limit, Text}
use Rattle.pb_command_io.specs.declared.status.Status.TheVariants as status
use Rattle.pb_draw_engine.specs.Draws.{too_large, whole}
use Rattle.pb_voice.specs.Held.{at}
use Rattle.pb_voice.specs.Tellings.{Ends}
use Rattle.pb_draw_engine.proofs.draw.tell_if_it_fits.Goals as goal

pub returns-then-len-gt-MAX_PICTURE : goal.returns-then-len-gt-MAX_PICTURE
returns-then-len-gt-MAX_PICTURE g c =
    let test = c.if-len-gt-MAX_PICTURE.true in
    let len = c.len.ensures in
    let long : 8388608 < length c.args.picture.now.text.items = omega (arith, test, len) in
    (Limit 8388608 ∷ [], status.Limit, too_large long, c.tell_last.ensures)

pub returns : goal.returns
returns g c =
    let test = c.if-len-gt-MAX_PICTURE.false in
    let len = c.len.ensures in
    let short : length c.args.picture.now.text.items ≤ 8388608 = omega (arith, test, len) in (
      Text c.args.picture.now.text.items ∷ [],
      c.args.picture.now.status,
      whole short,
      subst (λ (t : List ℕ). Ends g.T.Teller.tells g.T.Teller.breaks (at g.O.Output.written g.O.Output.failures c.args.teller.now c.args.output.now)
          (Text t ∷ []) c.args.picture.now.status
          (at g.O.Output.written g.O.Output.failures c.tell_last-2.new.teller c.tell_last-2.new.output) c.tell_last-2.result) c.deref.ensures.value c.tell_last-2.ensures,
    )
