use Rattle.std.proofs.Common.{◌≡◌, true, false, sym, ◌∙◌, arith}
use Rattle.pb_base.specs.Steppers.{IsFinished}
use Rattle.pb_code.specs.Code.{code_over}
use Rattle.pb_shared.specs.Books.{ledger_of}
use Rattle.pb_shared.specs.Ledgers.{all_home}
use Rattle.pb_shared.proofs.LegalCalls.{at_limit}
use Rattle.pb_shared.proofs.book.Book.outcome.Goals as goal
use Rattle.pb_shared.proofs.book.Book.outcome.Goals.{else-self-eq0-via-then-self-eq0+else-all_home, else-self-eq0-via-else-self-eq0}

pub returns-then-all_home-clause-outcome : goal.returns-then-all_home-clause-outcome
returns-then-all_home-clause-outcome g c = (
  λ over.
      let here : IsFinished code_over (ledger_of c.self.inside).machine = rw (← c.self.view_is) at over in
      let t : c.finished.result ≡ true = c.finished.ensures.1 here in
      let f = c.if-finished.false in cc,
  rw (← c.self.view_is) c.if-self-eq0.true,
  sym c.all_home.ensures ∙ c.if-all_home.true,
)

pub returns-then-all_home-clause-limit : goal.returns-then-all_home-clause-limit
returns-then-all_home-clause-limit g c =
    let all : all_home c.args.self.now.slips ≡ true = sym c.all_home.ensures ∙ c.if-all_home.true in
    λ same. rw (← c.self.view_is) (at_limit g.C.CodeBrand.code (ledger_of c.self.inside) c.self.invariant.legal
    c.if-self-eq0.true (rw (← c.self.view_is) at all))

pub returns-else-self-eq0-clause-outcome : goal.returns-else-self-eq0-clause-outcome
returns-else-self-eq0-clause-outcome g c = (
  λ over.
      let here : IsFinished code_over (ledger_of c.self.inside).machine = rw (← c.self.view_is) at over in
      let t : c.finished.result ≡ true = c.finished.ensures.1 here in
      let f = c.if-finished.false in cc,
  λ none all.
      let none' : c.self.inside.left ≡ 0 = rw (← c.self.view_is) at none in
      elim c.else-self-eq0.branch [
        | else-self-eq0-via-then-self-eq0+else-all_home w ↦
            (let t = sym w.all_home.ensures in let f = w.if-all_home.false in let both : false ≡ true = sym f ∙ (w.all_home.ensures ∙ all) in cc)
        | else-self-eq0-via-else-self-eq0 w ↦ absurd (omega (arith, none', w.if-self-eq0.false))
      ],
)
