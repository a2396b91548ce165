use Rattle.std.proofs.Common.{◌≡◌, ℕ, ◌<◌, ◌+◌, List, Bool, false, replicate, ap, length, get_or, arith, ◌∙◌, sym}
use Rattle.std.proofs.Common.{subst}
use Rattle.std.proofs.lemmas.List.{get_or_default, length-map, length-replicate}
use Rattle.pb_code.specs.View.{instr_view}
use Rattle.pb_verifier.specs.Flow.{followers, with_marks, with_places}
use Rattle.pb_verifier.specs.Given.{instrs_of, plain}
use Rattle.pb_verifier.proofs.ReachSearch.{IsSearch, VisitedAll, entries_visited, hand_inside, hand_small}
use Rattle.pb_verifier.proofs.ReachSearch.{hand_target, hand_next, hand_done, extends_contains, search_over}
use Rattle.pb_verifier.proofs.reach.reached.Goals as goal

pub visit_entries-requires : goal.visit_entries-requires
visit_entries-requires c = λ p there.
    let inside = c.requires.inside.starts p there in
    let none = ap (λ (xs : List Bool). length xs) (c.in_ok-found.ensures.items_if_clones_equal (λ y e. e)) in
    let instrs = length-map c.args.code.now.instrs.items (instr_view c.args.code.now.bundles.items) in
    omega (arith, inside, none, instrs, length-replicate c.len.result false, c.len.ensures)

pub loop-next-init : goal.loop-next-init
loop-next-init c =
    let h = c.in_ok-visit_entries.ensures in
    let all = entries_visited c.args.entries.now (instrs_of c.args.code.now) c.requires.inside in
    let instrs = length-map c.args.code.now.instrs.items (instr_view c.args.code.now.bundles.items) in
    let n : c.len.result ≡ length (instrs_of c.args.code.now) = omega (arith, instrs, c.len.ensures) in
    let none : c.in_ok-found.found.items ≡ replicate (length (instrs_of c.args.code.now)) false =
    c.in_ok-found.ensures.items_if_clones_equal (λ y e. e) ∙ ap (λ k. replicate k false) n in
    rw (h.found, h.order, none, c.new-order.ensures.items) record { search = all.search; starts = all.there }

pub instr_at-instr-requires : goal.instr_at-instr-requires
instr_at-instr-requires c =
    let w : c.loop-next.next < length c.loop-next.order.items = omega arith in
    let e : get_or c.loop-next.order.items c.loop-next.next 0 ≡ c.index-place.result.now = get_or_default
    c.loop-next.order.items c.loop-next.next 0 c.index-place.result.now w ∙ sym c.index-place.ensures in
    subst (λ (x : ℕ). x < length (instrs_of c.args.code.now)) e (hand_inside c.args.entries.now (instrs_of
    c.args.code.now) c.loop-next.next c.loop-next.found.items c.loop-next.order.items c.requires.inside
    c.loop-next.invariant.search w)

pub visit_followers-requires-clause-small : goal.visit_followers-requires-clause-small
visit_followers-requires-clause-small c =
    hand_small c.args.entries.now (instrs_of c.args.code.now) c.loop-next.next c.loop-next.found.items
    c.loop-next.order.items c.index-place.result.now (plain c.args.code.now c.instr_at-instr.result)
    record {
      inside = c.requires.inside;
      search = c.loop-next.invariant.search;
      within = omega arith;
      read =
          c.index-place.ensures;
      instr = c.instr_at-instr.ensures;
    }

pub visit_followers-requires-clause-target : goal.visit_followers-requires-clause-target
visit_followers-requires-clause-target c =
    hand_target c.args.entries.now (instrs_of c.args.code.now) c.loop-next.next c.loop-next.found.items
    c.loop-next.order.items c.index-place.result.now (plain c.args.code.now c.instr_at-instr.result)
    record {
      inside = c.requires.inside;
      search = c.loop-next.invariant.search;
      within = omega arith;
      read =
          c.index-place.ensures;
      instr = c.instr_at-instr.ensures;
    }

pub visit_followers-requires-clause-next : goal.visit_followers-requires-clause-next
visit_followers-requires-clause-next c =
    hand_next c.args.entries.now (instrs_of c.args.code.now) c.loop-next.next c.loop-next.found.items
    c.loop-next.order.items c.index-place.result.now (plain c.args.code.now c.instr_at-instr.result)
    record {
      inside = c.requires.inside;
      search = c.loop-next.invariant.search;
      within = omega arith;
      read =
          c.index-place.ensures;
      instr = c.instr_at-instr.ensures;
    }

pub loop-next-preserved : goal.loop-next-preserved
loop-next-preserved c =
    let h = c.in_ok-visit_followers.ensures in
    let places : List ℕ = followers (plain c.args.code.now c.instr_at-instr.result) c.index-place.result.now in
    let done : VisitedAll c.args.entries.now (instrs_of c.args.code.now) c.loop-next.next c.loop-next.order.items
    places (with_marks c.loop-next.found.items places) (with_places c.loop-next.found.items
    c.loop-next.order.items places)
    × IsSearch c.args.entries.now (instrs_of c.args.code.now) (c.loop-next.next + 1) (with_marks
    c.loop-next.found.items places) (with_places c.loop-next.found.items c.loop-next.order.items places) =
    hand_done c.args.entries.now (instrs_of c.args.code.now) c.loop-next.next c.loop-next.found.items
    c.loop-next.order.items c.index-place.result.now (plain c.args.code.now c.instr_at-instr.result)
    record {
      inside = c.requires.inside;
      search = c.loop-next.invariant.search;
      within = omega arith;
      read =
          c.index-place.ensures;
      instr = c.instr_at-instr.ensures;
    }
    in
    rw (h.found, h.order)
    record { search = done.1; starts = λ p k. extends_contains c.loop-next.order.items _ p done.0.extends (c.loop-next.invariant.starts p k) }

pub returns-clause-reached : goal.returns-clause-reached
returns-clause-reached c =
    λ p. (
      λ h. c.loop-next.invariant.search.reached p h,
      λ h. search_over c.args.entries.now (instrs_of c.args.code.now) c.loop-next.next c.loop-next.found.items
          c.loop-next.order.items c.loop-next.invariant.search (omega arith) c.loop-next.invariant.starts p h,
    )
