use Rattle.pb_search_tool.proofs.Notes.{line_kept}
use Rattle.pb_search_tool.proofs.prints.line_wording.Goals as goal

pub returns : goal.returns
returns c =
    line_kept c.args.lines.before c.args.lines.text.now c.args.at c.bad_print_line-wording.result c.tell_requirement.new.wording c.tell_requirement.ensures
    c.bad_print_line-wording.ensures
