use Rattle.std.proofs.Common.{◌≡◌, None, Some, false, true, inl, refl}
use Rattle.std.proofs.lemmas.Option.{IfSome_then}
use Rattle.pb_code.specs.View.{labels_view}
use Rattle.pb_debug_engine.specs.Live.{AnswersOfCode, AnswersOfParts}
use Rattle.pb_object.proofs.TextLimits.{text_keeps}
use Rattle.pb_command_io.proofs.InputLemmas.{IfSome-of}
use Rattle.pb_debug_engine.proofs.DebugLemmas.{code_told, code_of_text_told, no_code_told, text_answers, text_refused}
use Rattle.pb_debug_engine.proofs.PartLemmas.{says_weaker}
use Rattle.pb_debug_engine.proofs.parts.debug_parts.Goals as goal

pub debug_code-requires : goal.debug_code-requires
debug_code-requires g c = (text_keeps c.in-Ok.verified.code (labels_view c.in-Ok.labels) c.in-Ok.ensures.writable).fit

pub returns-in-Ok-clause-text : goal.returns-in-Ok-clause-text
returns-in-Ok-clause-text g c =
    let object = c.if-is_object.ensures.0 refl in
    IfSome_then (g.I.Input.rest c.args.commands.now) c.debug_code.ensures.text
    (λ bytes. code_told c.args.source.now c.args.lines.now bytes c.in-Ok.verified (labels_view c.in-Ok.labels) None _ _ c.debug_code.result
    (inl (object, c.in-Ok.ensures.loaded, refl)))

pub returns-in-Ok-clause-answered : goal.returns-in-Ok-clause-answered
returns-in-Ok-clause-answered g c grew =
    let object = c.if-is_object.ensures.0 refl in
    says_weaker (AnswersOfCode c.args.lending c.in-Ok.verified (labels_view c.in-Ok.labels) None c.args.lines.now)
    (AnswersOfParts c.args.lending c.args.source.now c.args.lines.now)
    (λ read text answers. (c.in-Ok.verified, labels_view c.in-Ok.labels, None, inl (object, c.in-Ok.ensures.loaded, refl), answers))
    (g.I.Input.rest c.args.commands.now) _ _ _ (c.debug_code.ensures.answered grew)

pub returns-in-Err-clause-text : goal.returns-in-Err-clause-text
returns-in-Err-clause-text g c =
    let object = c.if-is_object.ensures.0 refl in
    IfSome-of (g.I.Input.rest c.args.commands.now) _
    (λ bytes. no_code_told c.args.source.now c.args.lines.now bytes c.load_refusal.result _ _ c.tell.result object
    (c.load_refusal.ensures c.args.source.now c.in-Err.ensures.fault) c.tell.ensures.said c.tell.ensures.memory)

pub returns-in-Ok-compile_text-clause-text : goal.returns-in-Ok-compile_text-clause-text
returns-in-Ok-compile_text-clause-text g c =
    IfSome_then (g.I.Input.rest c.args.commands.now) c.debug_code-in-Ok-compile_text.ensures.text
    (λ bytes. code_of_text_told c.args.source.now c.args.lines.now bytes c.verified-in-Ok-compile_text.result.now
    c.in-Ok-compile_text.compiled.verified (labels_view c.labels.result.now) c.in-Ok-compile_text.compiled.labels _ _
    c.debug_code-in-Ok-compile_text.result
    (λ object. let w : false ≡ true = c.if-is_object.ensures.1 object in cc)
    c.in-Ok-compile_text.ensures.compiled c.verified-in-Ok-compile_text.ensures c.labels.ensures.labels)

pub returns-in-Ok-compile_text-clause-answered : goal.returns-in-Ok-compile_text-clause-answered
returns-in-Ok-compile_text-clause-answered g c grew =
    let seen = c.verified-in-Ok-compile_text.result.now in
    let seen_labels = labels_view c.labels.result.now in
    says_weaker (AnswersOfCode c.args.lending seen seen_labels (Some c.args.source.now) c.args.lines.now)
    (AnswersOfParts c.args.lending c.args.source.now c.args.lines.now)
    (text_answers c.args.source.now c.args.lines.now seen c.in-Ok-compile_text.compiled.verified seen_labels
    c.in-Ok-compile_text.compiled.labels (λ object. let w : false ≡ true = c.if-is_object.ensures.1 object in cc)
    c.in-Ok-compile_text.ensures.compiled c.verified-in-Ok-compile_text.ensures c.labels.ensures.labels)
    (g.I.Input.rest c.args.commands.now) _ _ _ (c.debug_code-in-Ok-compile_text.ensures.answered grew)

pub returns-in-Err-compile_text-clause-text : goal.returns-in-Err-compile_text-clause-text
returns-in-Err-compile_text-clause-text g c =
    IfSome-of (g.I.Input.rest c.args.commands.now) _
    (λ bytes. text_refused c.args.source.now c.args.lines.now bytes _ _ c.refuse.result c.requires
    (λ object. let w : false ≡ true = c.if-is_object.ensures.1 object in cc)
    (c.refuse.ensures.text c.args.source.now c.requires c.in-Err-compile_text.ensures.refused))
