use Rattle.std.proofs.Common.{◌≡◌, ◌<◌, ◌≤◌, ◌+◌, arith, length, take, All}
use Rattle.std.proofs.lemmas.List.{take_all}
use Rattle.pb_base.specs.Banker.{claim, loan}
use Rattle.pb_banker.specs.Accounts.{state_of}
use Rattle.pb_banker.proofs.TableCells.{claim_of, loan_of, processes_of, resources_of}
use Rattle.pb_banker.proofs.Pairs.{All-at, All-more-at}
use Rattle.pb_banker.proofs.Reasons.{first_without}
use Rattle.pb_banker.proofs.accounts.Accounts.first_over_claim.Goals as goal

pub overflow_sub-self : goal.overflow_sub-self
overflow_sub-self c =
    let l : c.loop-i.i < length c.args.bundle.now = omega arith in
    let below : c.get-pair.result.resource < c.args.self.now.resources =
    All-at (λ p. p.resource < c.args.self.now.resources) c.args.bundle.now c.loop-i.i c.get-pair.result l c.get-pair.ensures c.requires.below in
    let a = claim_of c.args.self.now c.requires.sound c.args.p c.get-pair.result.resource c.requires.process below in
    let b = loan_of c.args.self.now c.requires.sound c.args.p c.get-pair.result.resource c.requires.process below in
    let d = processes_of c.args.self.now c.requires.sound in
    let e = resources_of c.args.self.now c.requires.sound in
    let f = c.requires.sound.well_formed.loans_fit c.args.p c.get-pair.result.resource (omega arith) (omega arith) in
    omega arith

pub returns-then-pair-self-clause-some : goal.returns-then-pair-self-clause-some
returns-then-pair-self-clause-some c =
    let l : c.loop-i.i < length c.args.bundle.now = omega arith in
    let below : c.get-pair.result.resource < c.args.self.now.resources =
    All-at (λ p. p.resource < c.args.self.now.resources) c.args.bundle.now c.loop-i.i c.get-pair.result l c.get-pair.ensures c.requires.below in
    let a = claim_of c.args.self.now c.requires.sound c.args.p c.get-pair.result.resource c.requires.process below in
    let b = loan_of c.args.self.now c.requires.sound c.args.p c.get-pair.result.resource c.requires.process below in
    first_without (λ p. loan (state_of c.args.self.now) c.args.p p.resource + p.amount ≤ claim (state_of c.args.self.now) c.args.p p.resource)
    c.args.bundle.now c.loop-i.i c.get-pair.result c.get-pair.ensures c.loop-i.invariant (λ h. absurd (omega arith))

pub loop-i-preserved : goal.loop-i-preserved
loop-i-preserved c =
    let l : c.loop-i.i < length c.args.bundle.now = omega arith in
    let below : c.get-pair.result.resource < c.args.self.now.resources =
    All-at (λ p. p.resource < c.args.self.now.resources) c.args.bundle.now c.loop-i.i c.get-pair.result l c.get-pair.ensures c.requires.below in
    let a = claim_of c.args.self.now c.requires.sound c.args.p c.get-pair.result.resource c.requires.process below in
    let b = loan_of c.args.self.now c.requires.sound c.args.p c.get-pair.result.resource c.requires.process below in
    let d = processes_of c.args.self.now c.requires.sound in
    let e = resources_of c.args.self.now c.requires.sound in
    let f = c.requires.sound.well_formed.loans_fit c.args.p c.get-pair.result.resource (omega arith) (omega arith) in
    All-more-at (λ p. loan (state_of c.args.self.now) c.args.p p.resource + p.amount ≤ claim (state_of c.args.self.now) c.args.p p.resource)
    c.args.bundle.now c.loop-i.i c.get-pair.result l c.get-pair.ensures c.loop-i.invariant (omega arith)

pub returns-clause-none : goal.returns-clause-none
returns-clause-none c =
    let all : take c.loop-i.i c.args.bundle.now ≡ c.args.bundle.now = take_all c.loop-i.i c.args.bundle.now (omega arith) in
    let inv : All (λ p. loan (state_of c.args.self.now) c.args.p p.resource + p.amount ≤ claim (state_of
    c.args.self.now) c.args.p p.resource) (take c.loop-i.i c.args.bundle.now) =
    c.loop-i.invariant in
    rw all at inv
