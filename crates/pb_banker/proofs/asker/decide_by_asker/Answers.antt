use Rattle.std.proofs.Common.{◌≤◌, List, ℕ, All, take, sym, ap, subst, ◌∙◌}
use Rattle.pb_base.specs.Banker.{BankerState, Finishes, loan, without_loan}
use Rattle.pb_banker.specs.declared.accounts.Accounts.{Accounts}
use Rattle.pb_banker.specs.Accounts.{state_of}
use Rattle.pb_banker.proofs.KeptOrders.{Finishes-of}
use Rattle.pb_banker.proofs.RefusedRequests.{covered, not_over, held_lent, taken_back}
use Rattle.pb_banker.proofs.asker.decide_by_asker.Goals as goal

pub reorder-requires-clause-lent : goal.reorder-requires-clause-lent
reorder-requires-clause-lent c =
    let there = covered c.args.accounts.now c.requires.sound c.args.asker c.args.bundle.now c.requires.process c.requires.below
    c.is_within_claim.ensures.distinct c.if-not-is_within_claim.ensures.answer c.if-not-is_within_cash.ensures.answer in
    record {
      before = state_of c.args.accounts.now;
      well_formed = c.requires.sound.well_formed;
      finishes = rw c.lend.ensures.tables c.requires.finishes;
      covered = there;
      is = c.lend.ensures.state;
    }

pub take_back-requires-clause-held : goal.take_back-requires-clause-held
take_back-requires-clause-held c =
    let there = covered c.args.accounts.now c.requires.sound c.args.asker c.args.bundle.now c.requires.process c.requires.below
    c.is_within_claim.ensures.distinct c.if-not-is_within_claim.ensures.answer c.if-not-is_within_cash.ensures.answer in
    subst (λ (s : BankerState). All (λ pair. pair.amount ≤ loan s c.args.asker pair.resource) c.args.bundle.now)
    (sym c.lend.ensures.state) (held_lent (state_of c.args.accounts.now) c.args.asker c.args.bundle.now c.requires.sound.well_formed there)

pub returns-clause-answer : goal.returns-clause-answer
returns-clause-answer c =
    let within = c.if-not-is_within_claim.ensures.answer in
    let same = c.lend.ensures.state in
    record {
      over_claim = (λ e. cc, λ over. absurd (not_over (state_of c.args.accounts.now) c.args.asker c.args.bundle.now within over));
      granted = (λ e. cc, λ allowed. absurd (c.if-reorder.ensures.unsafe_state (rw same allowed.safe)));
    }

pub returns-clause-state : goal.returns-clause-state
returns-clause-state c =
    let there = covered c.args.accounts.now c.requires.sound c.args.asker c.args.bundle.now c.requires.process c.requires.below
    c.is_within_claim.ensures.distinct c.if-not-is_within_claim.ensures.answer c.if-not-is_within_cash.ensures.answer in
    c.take_back.ensures.state
    ∙ ap (λ (s : BankerState). without_loan s c.args.asker c.args.bundle.now) c.lend.ensures.state
    ∙ taken_back (state_of c.args.accounts.now) c.args.asker c.args.bundle.now c.requires.sound.well_formed there

pub returns-clause-finishes : goal.returns-clause-finishes
returns-clause-finishes c =
    let there = covered c.args.accounts.now c.requires.sound c.args.asker c.args.bundle.now c.requires.process c.requires.below
    c.is_within_claim.ensures.distinct c.if-not-is_within_claim.ensures.answer c.if-not-is_within_cash.ensures.answer in
    Finishes-of c.take_back.new.self (state_of c.args.accounts.now) c.args.accounts.now.processes c.reorder.new.order
    (c.take_back.ensures.state
    ∙ ap (λ (s : BankerState). without_loan s c.args.asker c.args.bundle.now) c.lend.ensures.state
    ∙ taken_back (state_of c.args.accounts.now) c.args.asker c.args.bundle.now c.requires.sound.well_formed there)
    (c.take_back.ensures.processes ∙ ap (λ (a : Accounts). a.processes) c.lend.ensures.tables)
    (subst (λ (order : List ℕ). Finishes (state_of c.args.accounts.now) (take c.args.accounts.now.processes order)) (sym c.if-reorder.ensures.kept)
    c.requires.finishes)
