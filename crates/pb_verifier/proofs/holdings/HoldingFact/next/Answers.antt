use Rattle.std.proofs.Common.{◌≡◌, List, sym, ap, ◌∙◌, subst}
use Rattle.std.specs.Prelude.{slice_index_or, [], Some}
use Rattle.pb_base.specs.Steppers.{Bundle}
use Rattle.pb_code.specs.Code.{Instr, Give, Take}
use Rattle.pb_verifier.specs.Given.{instrs_of, plain}
use Rattle.pb_verifier.specs.Spread.{HoldFits, held_after}
use Rattle.pb_verifier.specs.Holdings.{held_bundles}
use Rattle.pb_verifier.proofs.Chains.{next_give, chain_more}
use Rattle.pb_verifier.proofs.holdings.HoldingFact.next.Goals as goal

pub returns-in-Give-clause-value : goal.returns-in-Give-clause-value
returns-in-Give-clause-value c =
    let instrs : List Instr = instrs_of c.args._code.now in
    let held : List Bundle = held_bundles instrs c.args.table.now c.args.self in
    let is : plain c.args._code.now c.args.instr ≡ Give (slice_index_or c.args._code.now.bundles.items
    c.in-Give.field-0 []) = ap (plain c.args._code.now) c.in-Give.is in
    let fits = subst (λ (i : Instr). HoldFits i held) is c.requires.fits in
    (next_give instrs c.args.table.now c.args.self c.before-in-Give.result _ c.requires.readable fits
    c.before-in-Give.ensures).0 ∙ ap (λ (i : Instr). held_after i held) (sym is)

pub returns-in-Give-clause-readable : goal.returns-in-Give-clause-readable
returns-in-Give-clause-readable c =
    let instrs : List Instr = instrs_of c.args._code.now in
    let held : List Bundle = held_bundles instrs c.args.table.now c.args.self in
    let is : plain c.args._code.now c.args.instr ≡ Give (slice_index_or c.args._code.now.bundles.items
    c.in-Give.field-0 []) = ap (plain c.args._code.now) c.in-Give.is in
    let fits = subst (λ (i : Instr). HoldFits i held) is c.requires.fits in
    (next_give instrs c.args.table.now c.args.self c.before-in-Give.result _ c.requires.readable fits c.before-in-Give.ensures).1

pub returns-in-Take-clause-readable : goal.returns-in-Take-clause-readable
returns-in-Take-clause-readable c =
    let instrs : List Instr = instrs_of c.args._code.now in
    let held : List Bundle = held_bundles instrs c.args.table.now c.args.self in
    let is : plain c.args._code.now c.args.instr ≡ Take (slice_index_or c.args._code.now.bundles.items
    c.in-Take.field-0 []) = ap (plain c.args._code.now) c.in-Take.is in
    chain_more instrs c.args.table.now c.args.self c.args.place _ c.requires.readable (c.requires.instr ∙ ap Some is)
    c.requires.fact (subst (λ (i : Instr). HoldFits i held) is c.requires.fits)
