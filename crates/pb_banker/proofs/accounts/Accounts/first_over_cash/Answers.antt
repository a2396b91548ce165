use Rattle.std.proofs.Common.{◌≡◌, ◌<◌, ◌≤◌, arith, length, take, All}
use Rattle.std.proofs.lemmas.List.{take_all}
use Rattle.pb_base.specs.Banker.{cash}
use Rattle.pb_banker.specs.Accounts.{state_of}
use Rattle.pb_banker.proofs.Pairs.{All-at, All-more-at}
use Rattle.pb_banker.proofs.Reasons.{first_without}
use Rattle.pb_banker.proofs.accounts.Accounts.first_over_cash.Goals as goal

pub returns-then-pair-self-clause-some : goal.returns-then-pair-self-clause-some
returns-then-pair-self-clause-some c =
    let l : c.loop-i.i < length c.args.bundle.now = omega arith in
    let below : c.get-pair.result.resource < c.args.self.now.resources =
    All-at (λ p. p.resource < c.args.self.now.resources) c.args.bundle.now c.loop-i.i c.get-pair.result l c.get-pair.ensures c.requires.below in
    let e = c.requires.sound.cash c.get-pair.result.resource below in
    first_without (λ p. p.amount ≤ cash (state_of c.args.self.now) p.resource)
    c.args.bundle.now c.loop-i.i c.get-pair.result c.get-pair.ensures c.loop-i.invariant (λ h. absurd (omega arith))

pub loop-i-preserved : goal.loop-i-preserved
loop-i-preserved c =
    let l : c.loop-i.i < length c.args.bundle.now = omega arith in
    let below : c.get-pair.result.resource < c.args.self.now.resources =
    All-at (λ p. p.resource < c.args.self.now.resources) c.args.bundle.now c.loop-i.i c.get-pair.result l c.get-pair.ensures c.requires.below in
    let e = c.requires.sound.cash c.get-pair.result.resource below in
    All-more-at (λ p. p.amount ≤ cash (state_of c.args.self.now) p.resource) c.args.bundle.now c.loop-i.i c.get-pair.result l c.get-pair.ensures
    c.loop-i.invariant (omega arith)

pub returns-clause-none : goal.returns-clause-none
returns-clause-none c =
    let all : take c.loop-i.i c.args.bundle.now ≡ c.args.bundle.now = take_all c.loop-i.i c.args.bundle.now (omega arith) in
    let inv : All (λ p. p.amount ≤ cash (state_of c.args.self.now) p.resource) (take c.loop-i.i c.args.bundle.now) = c.loop-i.invariant in
    rw all at inv
