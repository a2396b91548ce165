use Rattle.std.proofs.Common.{List, option_map, subst, sym, ap, ◌∙◌}
use Rattle.std.proofs.lemmas.Option.{IfSome_then}
use Rattle.pb_code.specs.Limits.{KeepsLimits}
use Rattle.pb_code.specs.View.{labels_view}
use Rattle.pb_code.specs.Whole.{Code}
use Rattle.pb_debug.specs.Value.{at_start, showing}
use Rattle.pb_debug_engine.specs.Debugs.{IsOpened}
use Rattle.pb_debug_engine.specs.Live.{AnswersLines, AnswersOfCode}
use Rattle.pb_history.specs.Replays.{IsStoppedBy, spread}
use Rattle.pb_history.specs.declared.counted.CountedPick.{CountedPick}
use Rattle.pb_picks.specs.PickLines.{IsFaulty, SpellsPicks}
use Rattle.pb_verifier.specs.declared.fault.VerifyFault.TheVariants.{OutOfLimits}
use Rattle.pb_command_io.proofs.InputLemmas.{IfSome-of}
use Rattle.pb_debug_engine.proofs.DebugLemmas.{no_picks_told, session_told}
use Rattle.pb_debug_engine.proofs.PartLemmas.{says_weaker}
use Rattle.pb_debug_engine.proofs.parts.debug_code.Goals as goal

pub read_picks-requires : goal.read_picks-requires
read_picks-requires g c = subst KeepsLimits (sym c.code.ensures.code) (c.code.ensures.verified.faultless OutOfLimits)

pub returns-in-Err-clause-text : goal.returns-in-Err-clause-text
returns-in-Err-clause-text g c =
    let faulty = subst (λ (code : Code). IsFaulty code c.args.lines.now c.in-Err.fault) c.code.ensures.code c.in-Err.ensures.refused in
    let shown = option_map (λ text. text.now) c.args.shown in
    IfSome-of (g.I.Input.rest c.args.commands.now) _
    (λ bytes. no_picks_told c.args.verified.now (labels_view c.args.labels.now) shown c.args.lines.now bytes c.lines_refusal.result _ _ c.tell.result
    (c.lines_refusal.ensures c.args.lending c.args.verified.now.code c.args.lines.now faulty) c.tell.ensures.said c.tell.ensures.memory)

pub returns-in-Ok-from_object_counted : goal.returns-in-Ok-from_object_counted
returns-in-Ok-from_object_counted g c =
    let verified = c.args.verified.now in
    let labels = labels_view c.args.labels.now in
    let shown = option_map (λ text. text.now) c.args.shown in
    let d = c.with_source-debugger.result in
    let opened : IsOpened c.args.lending verified labels shown c.args.lines.now d = record {
      counted = c.in-Ok.picks.items;
      spelled = subst (λ (code : Code). SpellsPicks code c.args.lines.now c.in-Ok.picks.items) c.code.ensures.code c.in-Ok.ensures.read;
      opened =
          c.with_source-debugger.ensures.shown
          ∙ ap (showing shown) (c.in-Ok-from_object_counted.ensures.opened
          ∙ ap (λ (picks : List CountedPick). at_start c.args.lending verified labels (spread picks)) c.as_slice.ensures.value);
      placed = c.with_source-debugger.ensures.placed;
    } in
    record {
      text = IfSome_then (g.I.Input.rest c.args.commands.now) c.tell_session.ensures.text
          (λ bytes. session_told verified labels shown c.args.lines.now bytes d _ _ c.tell_session.result opened);
      answered = λ grew.
          says_weaker (AnswersLines d) (AnswersOfCode c.args.lending verified labels shown c.args.lines.now) (λ read text says. (d, opened, says))
          (g.I.Input.rest c.args.commands.now) _ _ _ (c.tell_session.ensures.answered grew);
      faults = c.tell_session.ensures.faults;
      taken = c.tell_session.ensures.taken;
    }

pub returns-clause-text : goal.returns-clause-text
returns-clause-text g c =
    let code = c.args.verified.now.code in
    let picks = c.in-Ok.picks.items in
    let fault = c.in-Err-from_object_counted.fault in
    let spelled = subst (λ (code : Code). SpellsPicks code c.args.lines.now picks) c.code.ensures.code c.in-Ok.ensures.read in
    let stopped =
    subst (λ (picks : List CountedPick). IsStoppedBy c.args.lending code (spread picks) fault) c.as_slice.ensures.value
    c.in-Err-from_object_counted.ensures.stopped in
    let shown = option_map (λ text. text.now) c.args.shown in
    IfSome-of (g.I.Input.rest c.args.commands.now) _
    (λ bytes. no_picks_told c.args.verified.now (labels_view c.args.labels.now) shown c.args.lines.now bytes
    c.lines_refusal-in-Err-from_object_counted.result _ _ c.tell-in-Err-from_object_counted.result
    (c.lines_refusal-in-Err-from_object_counted.ensures c.args.lending code c.args.lines.now (picks, spelled, stopped))
    c.tell-in-Err-from_object_counted.ensures.said c.tell-in-Err-from_object_counted.ensures.memory)
