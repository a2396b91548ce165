use Rattle.std.proofs.Common.{◌≡◌, true, arith}
use Rattle.pb_base.specs.Steppers.{IsFinished}
use Rattle.pb_code.specs.Code.{code_over}
use Rattle.pb_machine.specs.Views.{proc_view}
use Rattle.pb_shared.specs.Books.{ledger_of}
use Rattle.pb_shared.proofs.book.Book.outcome_beside.Goals as goal

pub returns-then-not-is_over : goal.returns-then-not-is_over
returns-then-not-is_over g c = (
  λ over.
      let here : IsFinished code_over (ledger_of c.self.inside).machine = rw (← c.self.view_is) at over in
      let t : c.is_over.result ≡ true = c.is_over.ensures.1 (here c.args.process (proc_view c.proc.result.now) c.proc.ensures.state) in
      let f = c.if-not-is_over.true in cc,
  λ none. absurd (omega (arith, c.requires.left, none)),
)
