use Rattle.pb_search_tool.proofs.MessageLemmas.{print_told}
use Rattle.pb_search_tool.proofs.prints.unsaid_message.Goals as goal

pub returns : goal.returns
returns c =
    print_told (λ told. told.items) _ c.args.lines.before c.args.lines.text.now c.in-NotPrint.at c.line_wording-wording.result c.worded.result
    (rw c.in-NotPrint.is at c.requires) c.line_wording-wording.ensures c.worded.ensures.told c.worded.ensures.shows c.worded.ensures.whole
