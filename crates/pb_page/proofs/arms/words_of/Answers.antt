use Rattle.std.proofs.Common.{◌≡◌, ◌<◌, ◌++◌, ◌∙◌, ℕ, List, length, sym, ap, subst, arith}
use Rattle.std.specs.Prelude.{slice_get}
use Rattle.pb_banker.specs.Lenders.{lending_by}
use Rattle.pb_base.specs.Lines.{names_view}
use Rattle.pb_code.specs.Code.{CodeProcess}
use Rattle.pb_code.specs.View.{labels_view, process_view}
use Rattle.pb_code.specs.Whole.{Code}
use Rattle.pb_json.specs.Strings.{string_text}
use Rattle.pb_machine.proofs.EitherLending.{good_reached}
use Rattle.pb_machine.proofs.GivenCode.{codes_number, code_at}
use Rattle.pb_machine.specs.Views.{machine_view, proc_view}
use Rattle.pb_page.specs.States.{labelled_words}
use Rattle.pb_page.proofs.PartsMore.{if_ok, process_is}
use Rattle.pb_page.proofs.arms.words_of.Goals as goal

pub index-of-requires : goal.index-of-requires
index-of-requires c =
    let v = c.args.verified.now in
    let given = c.code-code.result.now in
    let count = (good_reached v.code c.code-code.ensures.verified.faultless (lending_by c.args.machine.now.bank) (machine_view c.args.machine.now) c.requires.machine.reached).count in
    let within = c.requires.process in
    omega (arith, within, count, codes_number given v.code c.code-code.ensures.code)

pub put_words-requires : goal.put_words-requires
put_words-requires c =
    let s = machine_view c.args.machine.now in
    subst (λ (q : CodeProcess). c.args.arm < length q.threads) (process_is s c.args.p _ c.proc.ensures.state) c.requires.arm

pub returns : goal.returns
returns c =
    let v = c.args.verified.now in
    let s = machine_view c.args.machine.now in
    let given = c.code-code.result.now in
    let same = c.code-code.ensures.code in
    let count = (good_reached v.code c.code-code.ensures.verified.faultless (lending_by c.args.machine.now.bank) s c.requires.machine.reached).count in
    let inside = c.requires.process in
    let within : c.args.p < length given.processes.items = omega (arith, inside, count, codes_number given v.code same) in
    let of = process_view c.index-of.result.now in
    let code = code_at given v.code same c.args.p c.index-of.result.now within c.index-of.ensures in
    let labels = slice_get (labels_view c.args.labels.now) c.args.p in
    let process = proc_view c.proc.result.now in
    let arm = c.args.arm in
    let why = c.args.why.now in
    let said = labelled_words (names_view given.names) c.args.p labels of process arm why in
    let put : c.put_words.new.text.items ≡ said =
    c.in_ok-put_words.ensures ∙ ap (λ (t : List ℕ). t ++ said) c.new-words.ensures.items in
    if_ok c.string_of.result _ _ c.string_of.ensures (λ text string. record {
      of = of;
      there = code;
      why = why;
      is_why = c.requires.why;
      written = string ∙ (ap string_text (c.deref.ensures.value ∙ put)
          ∙ (ap (λ (x : Code). string_text (labelled_words x.names c.args.p labels of process arm why)) same
          ∙ ap (λ (q : CodeProcess). string_text (labelled_words v.code.names c.args.p labels of q arm why)) (sym (process_is s c.args.p _ c.proc.ensures.state))));
    })
