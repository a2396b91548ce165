use Rattle.std.proofs.Common.{◌≡◌, ℕ, List, take, Some}
use Rattle.pb_bank_engine.specs.Sessions.{Fed, kept}
use Rattle.pb_bank_engine.proofs.session.feed_page.Given as goal

abbrev pub invariant-loop-i : goal.invariant-loop-i
invariant-loop-i l =
    (part : List ℕ) → l.initial.line ≡ kept part
    → Fed l.form l.initial.desk part (take l.i l.bytes) (Some l.initial.page.items) (Some l.page.items) l.line l.desk
