use Rattle.std.proofs.Common.{ℕ, sym, ap, ◌∙◌, subst}
use Rattle.pb_verifier.specs.Given.{instrs_of}
use Rattle.pb_verifier.specs.Holdings.{held, IsChain}
use Rattle.pb_verifier.proofs.Chains.{counts_same}
use Rattle.pb_verifier.proofs.holdings.HoldingFact.share.Goals as goal

pub share_holds-requires-clause-two : goal.share_holds-requires-clause-two
share_holds-requires-clause-two c =
    let counts = counts_same (instrs_of c.args.code.now) c.args.table.now.items c.args.self c.args.other c.requires.same in
    subst (λ (n : ℕ). IsChain (instrs_of c.args.code.now) c.args.table.now.items n c.args.other.last) (sym counts) c.requires.two.0

pub share_holds-requires-clause-same : goal.share_holds-requires-clause-same
share_holds-requires-clause-same c =
    let counts = counts_same (instrs_of c.args.code.now) c.args.table.now.items c.args.self c.args.other c.requires.same in
    c.requires.same ∙ ap (λ (n : ℕ). held (instrs_of c.args.code.now) c.args.table.now.items n c.args.other.last) (sym counts)
