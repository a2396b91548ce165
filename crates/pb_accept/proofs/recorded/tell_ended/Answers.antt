use Rattle.std.proofs.Common.{◌≡◌, ◌≤◌, ◌<◌, ◌++◌, ◌∙◌, ◌∷◌, [], ℕ, List, ap, arith, codes, length, subst, take}
use Rattle.std.proofs.Math.Seq.{take-append_seam}
use Rattle.pb_accept.specs.RunTexts.{with_picks}
use Rattle.pb_accept.specs.Sayings.{LongOutput, NoMemory, Recorded}
use Rattle.pb_accept.specs.ToldRuns.{no_memory, recorded, too_long}
use Rattle.pb_base.specs.Lines.{line, names_view}
use Rattle.pb_command_io.specs.declared.status.Status.TheVariants as status
use Rattle.pb_picks.specs.PickLines.{pick_lines}
use Rattle.pb_voice.specs.Held.{at}
use Rattle.pb_voice.specs.Tellings.{Ends}
use Rattle.pb_accept.proofs.recorded.tell_ended.Goals as goal

pub returns-in_default : goal.returns-in_default
returns-in_default g c = λ bytes is. (NoMemory ∷ [], status.Memory, no_memory, c.tell_last.ensures)

pub returns-then-len-gt-MAX_INPUT : goal.returns-then-len-gt-MAX_INPUT
returns-then-len-gt-MAX_INPUT g c = λ bytes is.
    let n = c.len.ensures in
    let test = c.if-len-gt-MAX_INPUT.true in
    let long : 4194304 < length c.in-Ok.whole.items = omega (arith, n, test) in (
      LongOutput ∷ [],
      status.Refused,
      too_long c.args.text.items is (subst (λ (t : List ℕ). 4194304 < length t) c.in-Ok.ensures long),
      c.tell_last-then-len-gt-MAX_INPUT.ensures,
    )

pub returns : goal.returns
returns g c = λ bytes is.
    let names = names_view c.args.names.now in
    let n = c.len.ensures in
    let test = c.if-len-gt-MAX_INPUT.false in
    let short : length c.in-Ok.whole.items ≤ 4194304 = omega (arith, n, test) in
    let whole : c.deref.result.now ≡ with_picks c.args.text.items names c.args.picks.now = c.deref.ensures.value ∙ c.in-Ok.ensures in
    let all = c.len-cut.ensures in
    let cut : c.len-cut.result ≡ length c.args.text.items = omega (arith, all) in
    let text : take c.len-cut.result c.deref.result.now ≡ c.args.text.items =
    ap (λ (k : ℕ). take k c.deref.result.now) cut
    ∙ (ap (take (length c.args.text.items)) whole
    ∙ take-append_seam c.args.text.items (line (codes "%%") ++ pick_lines names.processes c.args.picks.now)) in (
      Recorded c.args.text.items names c.args.picks.now ∷ [],
      c.args.given,
      recorded c.args.text.items is (subst (λ (t : List ℕ). length t ≤ 4194304) c.in-Ok.ensures short),
      subst (λ (t : List ℕ). Ends g.T.Teller.tells g.T.Teller.breaks (at g.O.Output.written g.O.Output.failures c.args.teller.now c.args.output.now)
          (Recorded t names c.args.picks.now ∷ []) c.args.given
          (at g.O.Output.written g.O.Output.failures c.tell_last-2.new.teller c.tell_last-2.new.output) c.tell_last-2.result) text c.tell_last-2.ensures,
    )
