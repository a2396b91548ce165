use Rattle.std.proofs.Common.{◌≡◌, false, sym, ◌∙◌}
use Rattle.pb_bank.specs.Words.{is_blank}
use Rattle.pb_bank_engine.proofs.Kept.{kept_more, kept_full}
use Rattle.pb_bank_engine.proofs.line.Line.put.Goals as goal
use Rattle.pb_bank_engine.proofs.line.Line.put.Goals.{else-self-eq0-via-then-self-eq0+else-is_blank, else-self-eq0-via-else-self-eq0}

pub returns-then-self-lt-ROOM : goal.returns-then-self-lt-ROOM
returns-then-self-lt-ROOM c =
    let some : c.self.inside.len ≡ 0 → is_blank c.args.byte ≡ false = elim c.else-self-eq0.branch [
      | else-self-eq0-via-then-self-eq0+else-is_blank w ↦ λ none. sym w.is_blank.ensures ∙ w.if-is_blank.false
      | else-self-eq0-via-else-self-eq0 w ↦ λ none. absurd (w.if-self-eq0.false none)
    ] in
    kept_more c.self.inside.bytes c.args.self.now c.self.inside.len c.args.byte c.self.view_is c.self.told c.if-self-lt-ROOM.true some

pub returns-else-self-lt-ROOM : goal.returns-else-self-lt-ROOM
returns-else-self-lt-ROOM c =
    kept_full c.self.inside.bytes c.args.self.now c.self.inside.len c.args.byte c.self.view_is c.self.told c.if-self-lt-ROOM.false
