use Rattle.std.proofs.lemmas.Grind.{common_steps}
use Rattle.std.proofs.Common.{◌<◌, ℕ, length, get_or, Some, arith, ◌∙◌, length-set}
use Rattle.std.proofs.lemmas.List.Elements.{Contains-get_or}
use Rattle.pb_verifier.specs.Given.{instrs_of}
use Rattle.pb_verifier.proofs.Steps.{started_more, only_more}
use Rattle.pb_verifier.proofs.facts.opening_table.Goals as goal

pub index_mut-requires : goal.index_mut-requires
index_mut-requires g c =
    let inside = c.requires (get_or c.args.entries.now c.loop-entry.entry-index 0)
    (Contains-get_or c.args.entries.now c.loop-entry.entry-index 0 c.loop-entry-test.true) in
    omega (arith, inside, c.loop-entry.invariant.sized)

pub loop-entry-preserved : goal.loop-entry-preserved
loop-entry-preserved g c =
    let place : ℕ = get_or c.args.entries.now c.loop-entry.entry-index 0 in
    let inside : place < length (instrs_of c.args.code.now) = c.requires place
    (Contains-get_or c.args.entries.now c.loop-entry.entry-index 0 c.loop-entry-test.true) in
    let within : place < length c.loop-entry.table.items = omega (arith, inside, c.loop-entry.invariant.sized) in
    record {
      sized = length-set c.loop-entry.table.items place (Some c.args.first) ∙ c.loop-entry.invariant.sized;
      started = started_more c.loop-entry.table.items c.args.entries.now c.loop-entry.entry-index c.args.first within
          c.loop-entry.invariant.started;
      only = only_more c.loop-entry.table.items c.args.entries.now c.loop-entry.entry-index c.args.first within
          c.loop-entry-test.true c.loop-entry.invariant.only;
    }

pub loop-entry-init : goal.loop-entry-init
loop-entry-init g c = grind (arith, common_steps)
