use Rattle.pb_banker.proofs.ChangedClaims.{IsSound-claimed, state_of-claimed}
use Rattle.pb_banker.proofs.accounts.Accounts.set_claim.Goals as goal

pub returns-clause-sound : goal.returns-clause-sound
returns-clause-sound c =
    IsSound-claimed c.args.self.now c.requires.sound c.args.p c.args.r c.args.amount c.requires.process c.requires.resource
    c.requires.held c.requires.within

pub returns-clause-state : goal.returns-clause-state
returns-clause-state c =
    state_of-claimed c.args.self.now c.requires.sound c.args.p c.args.r c.args.amount c.requires.process c.requires.resource
