use Rattle.std.proofs.Common.{◌≡◌, ◌<◌, arith, length, take, All}
use Rattle.std.proofs.lemmas.List.{take_all}
use Rattle.pb_banker.specs.Accounts.{state_of}
use Rattle.pb_banker.specs.Askers.{FitBy}
use Rattle.pb_banker.proofs.Pairs.{All-more-at}
use Rattle.pb_banker.proofs.accounts.Accounts.still_fit.Goals as goal
use Rattle.pb_banker.proofs.accounts.Accounts.still_fit.Goals.{else-pair-gt0-via-then-pair-gt0+else-not-still_fit_by, else-pair-gt0-via-else-pair-gt0}

pub loop-i-preserved : goal.loop-i-preserved
loop-i-preserved c =
    let l : c.loop-i.i < length c.args.bundle.now = omega arith in
    All-more-at (λ pair. 0 < pair.amount → FitBy (state_of c.args.self.now) (take c.args.place c.args.order.now) pair.resource)
    c.args.bundle.now c.loop-i.i c.get-pair.result l c.get-pair.ensures c.loop-i.invariant
    (λ some.
    elim c.else-pair-gt0.branch [
      | else-pair-gt0-via-then-pair-gt0+else-not-still_fit_by w ↦ w.if-not-still_fit_by.ensures
      | else-pair-gt0-via-else-pair-gt0 w ↦ absurd (let none = w.if-pair-gt0.false in omega (arith, some, none))
    ])

pub returns : goal.returns
returns c =
    let all : take c.loop-i.i c.args.bundle.now ≡ c.args.bundle.now = take_all c.loop-i.i c.args.bundle.now (omega arith) in
    let inv : All (λ pair. 0 < pair.amount → FitBy (state_of c.args.self.now) (take c.args.place c.args.order.now) pair.resource) (take c.loop-i.i c.args.bundle.now) =
    c.loop-i.invariant in
    rw all at inv
