use Rattle.std.proofs.Common.{◌∙◌, ap, arith, length, set, take, get_or, true, length-set, sym, add-one}
use Rattle.std.proofs.lemmas.List.Elements.{Contains-get_or}
use Rattle.pb_verifier.specs.Flow.{with_marks, with_place}
use Rattle.pb_verifier.proofs.ReachSearch.{marks_more, places_more}
use Rattle.pb_verifier.proofs.reach.visit_entries.Goals as goal

pub visit-requires : goal.visit-requires
visit-requires c =
    let inside = c.requires _ (Contains-get_or c.args.entries.now c.loop-entry.entry-index 0 c.loop-entry-test.true) in
    omega (arith, inside, c.loop-entry.invariant.sized)

pub loop-entry-preserved : goal.loop-entry-preserved
loop-entry-preserved c =
    let k = c.loop-entry.entry-index in
    let place = get_or c.args.entries.now k 0 in
    let h = c.in_ok-visit.ensures in
    let i = c.loop-entry.invariant in
    record {
      sized = ap length h.found ∙ (length-set c.loop-entry.found.items place true ∙ i.sized);
      found = rw add-one (h.found ∙ (ap (λ xs. set xs place true) i.found
          ∙ sym (marks_more c.args.found.now.items c.args.entries.now k c.loop-entry-test.true)));
      order = rw add-one (h.order ∙ (ap (λ xs. with_place xs c.loop-entry.order.items place) i.found
          ∙ (ap (λ xs. with_place (with_marks c.args.found.now.items (take k c.args.entries.now)) xs place) i.order
          ∙ sym (places_more c.args.found.now.items c.args.order.now.items c.args.entries.now k
          c.loop-entry-test.true))));
    }
