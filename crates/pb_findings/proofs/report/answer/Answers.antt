use Rattle.std.proofs.Common.{◌++◌}
use Rattle.pb_command_io.specs.declared.status.Status.TheVariants.{Refused}
use Rattle.pb_findings.specs.Reports.{SaysOfFiles, call_status, laid_out, no_file, no_layout, refused_input, reported, sums_line}
use Rattle.pb_findings.proofs.TellingLemmas.{if_ok, says_same}
use Rattle.pb_findings.proofs.report.answer.Goals as goal

pub returns-in-NoLayout : goal.returns-in-NoLayout
returns-in-NoLayout c =
    let none = rw c.new-input.ensures at c.in-NoLayout.ensures in
    if_ok c.refusal.result (λ r both. says_same (SaysOfFiles c.args.options.warn c.args.bytes.now) refused_input r.text.items Refused r.status
    both.0 both.1 (no_layout none)) c.refusal.ensures

pub returns-in-Whole : goal.returns-in-Whole
returns-in-Whole c =
    let (named, frame, layout) = rw c.new-input.ensures at c.in-Layout.ensures in
    let told = rw c.deref.ensures.value at c.reply_of.ensures in
    if_ok c.reply_of.result (λ r both. says_same (SaysOfFiles c.args.options.warn c.args.bytes.now)
    (laid_out c.in-Layout.layout c.args.options.warn c.in-Whole.said.items ++ sums_line c.in-Whole.said.items) r.text.items
    (call_status c.in-Whole.said.items) r.status both.0 both.1
    (reported named c.first_layout.new.input c.in-Layout.layout c.in-Whole.said.items frame layout c.in-Whole.ensures)) told

pub returns-in-NoFile : goal.returns-in-NoFile
returns-in-NoFile c =
    let (named, frame, layout) = rw c.new-input.ensures at c.in-Layout.ensures in
    let (left, said, are, none) = c.in-NoFile.ensures in
    if_ok c.refusal-in-NoFile.result (λ r both. says_same (SaysOfFiles c.args.options.warn c.args.bytes.now) refused_input r.text.items Refused r.status
    both.0 both.1 (no_file named c.first_layout.new.input left c.in-Layout.layout said frame layout are none)) c.refusal-in-NoFile.ensures
