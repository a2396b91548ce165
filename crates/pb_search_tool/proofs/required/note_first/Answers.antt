use Rattle.std.proofs.Common.{◌∙◌, sym}
use Rattle.std.specs.Prelude.{string_bytes}
use Rattle.pb_base.proofs.Cases.{both_true}
use Rattle.pb_search_tool.proofs.Notes.{kept_after}
use Rattle.pb_search_tool.proofs.required.note_first.Goals as goal

pub returns-in-Ok : goal.returns-in-Ok
returns-in-Ok c = λ whole.
    let both = both_true c.args.wording.now.is_whole c.is_ok.result whole in (
      both.0,
      kept_after string_bytes c.args.wording.now.notes.items c.insert.new.self.items _ c.in-Ok.note (sym c.is_ok.ensures.value ∙ both.1)
          c.insert.ensures.items,
    )
