use Rattle.std.proofs.lemmas.Grind.{common_steps}
use Rattle.std.proofs.Common.{take, arith, sym, ap, subst, rules}
use Rattle.pb_base.specs.Banker.{Finishes}
use Rattle.pb_banker.specs.declared.accounts.Accounts.{Accounts}
use Rattle.pb_banker.specs.Accounts.{state_of, IsSound}
use Rattle.pb_banker.proofs.RefusedRequests.{undone, not_over}
use Rattle.pb_banker.proofs.decide.decide.Goals as goal

pub returns-clause-answer : goal.returns-clause-answer
returns-clause-answer c =
    let within = c.if-not-is_within_claim.ensures.answer in
    let same = c.lend.ensures.state in
    record {
      over_claim = (λ e. cc, λ over. absurd (not_over (state_of c.args.accounts.now) c.args.p c.args.bundle.now within over));
      granted = (λ e. cc, λ allowed. absurd (c.search-found.ensures.unfinished (omega arith) (rw same allowed.safe)));
    }

pub returns-clause-state : goal.returns-clause-state
returns-clause-state c =
    ap state_of (undone c.args.accounts.now c.lend.new.self c.args.p c.args.bundle.now c.lend.ensures.tables)

pub returns-clause-sound : goal.returns-clause-sound
returns-clause-sound c =
    subst IsSound (sym (undone c.args.accounts.now c.lend.new.self c.args.p c.args.bundle.now c.lend.ensures.tables)) c.requires.sound

pub returns-clause-finishes : goal.returns-clause-finishes
returns-clause-finishes c =
    subst (λ (a : Accounts). Finishes (state_of a) (take a.processes c.args.order.now))
    (sym (undone c.args.accounts.now c.lend.new.self c.args.p c.args.bundle.now c.lend.ensures.tables)) c.requires.finishes

pub returns-then-found-accounts-clause-answer : goal.returns-then-found-accounts-clause-answer
returns-then-found-accounts-clause-answer c = search rules

pub returns-then-found-accounts-clause-finishes : goal.returns-then-found-accounts-clause-finishes
returns-then-found-accounts-clause-finishes c = search rules fits 100

pub finishes-requires-clause-room : goal.finishes-requires-clause-room
finishes-requires-clause-room c = search rules fits 100

pub returns-then-finishes-clause-looked : goal.returns-then-finishes-clause-looked
returns-then-finishes-clause-looked c = grind (arith, common_steps) steps 400000

pub search-found-requires-clause-room : goal.search-found-requires-clause-room
search-found-requires-clause-room c = search rules fits 100

pub returns-then-found-accounts-clause-looked : goal.returns-then-found-accounts-clause-looked
returns-then-found-accounts-clause-looked c = grind (arith, common_steps)

pub returns-clause-looked : goal.returns-clause-looked
returns-clause-looked c = grind (arith, common_steps)

pub returns-then-found-accounts-clause-kept_order : goal.returns-then-found-accounts-clause-kept_order
returns-then-found-accounts-clause-kept_order c = search rules

pub returns-then-not-is_within_claim-clause-looked : goal.returns-then-not-is_within_claim-clause-looked
returns-then-not-is_within_claim-clause-looked c = search rules fits 100

pub returns-then-not-is_within_cash-clause-looked : goal.returns-then-not-is_within_cash-clause-looked
returns-then-not-is_within_cash-clause-looked c = search rules fits 100

pub returns-then-not-is_within_cash-clause-answer : goal.returns-then-not-is_within_cash-clause-answer
returns-then-not-is_within_cash-clause-answer c = search rules fits 100

pub returns-then-not-is_within_claim-clause-answer : goal.returns-then-not-is_within_claim-clause-answer
returns-then-not-is_within_claim-clause-answer c = search rules fits 100
