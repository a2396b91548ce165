use Rattle.std.proofs.Common.{◌≡◌, map, ap, ap₂, subst, sym, ◌∙◌}
use Rattle.pb_banker.specs.Value.{start_state}
use Rattle.pb_names.specs.Program.{capital_of}
use Rattle.pb_names.specs.View.{resolved_view}
use Rattle.pb_rewrite.specs.Sound.{AreSound}
use Rattle.pb_rewrite.specs.View.{process_view}
use Rattle.pb_rewrite.proofs.Openings.{opens, starts, as_wide, within_capital}
use Rattle.pb_rewrite.proofs.Sources.{state_with}
use Rattle.pb_rewrite.proofs.source.Source.new.Goals as goal

pub returns-clause-opening : goal.returns-clause-opening
returns-clause-opening g c =
    let program = resolved_view c.args.program.now in
    let begun : c.in_ok-banker.banker.state ≡ start_state (capital_of program) c.args.claims.now =
    c.in_ok-banker.ensures.state ∙ ap (λ capital. start_state capital c.args.claims.now) c.in_ok-capital.ensures in
    ap₂ state_with c.in_ok-processes.ensures (ap (λ t. t.loans) begun) ∙ opens program c.args.claims.now c.requires

pub returns-clause-source : goal.returns-clause-source
returns-clause-source g c =
    let program = resolved_view c.args.program.now in
    let begun : c.in_ok-banker.banker.state ≡ start_state (capital_of program) c.args.claims.now =
    c.in_ok-banker.ensures.state ∙ ap (λ capital. start_state capital c.args.claims.now) c.in_ok-capital.ensures in
    subst (λ t. AreSound t (map process_view c.in_ok-processes.processes.items)) (sym begun)
    (subst (AreSound (start_state (capital_of program) c.args.claims.now)) (sym c.in_ok-processes.ensures) (starts program c.args.claims.now c.requires))

pub capital-requires-clause-few : goal.capital-requires-clause-few
capital-requires-clause-few g c = c.requires.few_resources

pub capital-requires-clause-small : goal.capital-requires-clause-small
capital-requires-clause-small g c = c.requires.small

pub new-requires-clause-same : goal.new-requires-clause-same
new-requires-clause-same g c =
    as_wide (resolved_view c.args.program.now) c.args.claims.now c.in_ok-capital.capital c.in_ok-capital.ensures c.requires

pub new-requires-clause-fit : goal.new-requires-clause-fit
new-requires-clause-fit g c =
    within_capital (resolved_view c.args.program.now) c.args.claims.now c.in_ok-capital.capital c.in_ok-capital.ensures
    c.requires.within
