use Rattle.std.proofs.Common.{◌≡◌, ◌≢◌, ℕ, pos, sym, refl, subst, arith, get_or, List, Some}
use Rattle.std.specs.Prelude.{slice_get}
use Rattle.std.proofs.lemmas.List.Sorted.{length_permutation}
use Rattle.std.proofs.lemmas.Option.{slice_get_within}
use Rattle.pb_search_stages.specs.declared.print.Print.{Print}
use Rattle.pb_search_engine.proofs.WantedLemmas.{more_found, not_found, not_so, nothing_left}
use Rattle.pb_search_engine.proofs.wanted.are_some_order.Goals as goal

-- what an index gives where there is nothing
abbrev none : Print
none = record { pick = record { process = 0; arm = 0 }; value = pos 0 }

pub returns-then-wanted-prints : goal.returns-then-wanted-prints
returns-then-wanted-prints c =
    (λ is. absurd (not_so is), λ h. absurd (c.if-wanted-prints.true (sym (length_permutation c.args.wanted.now c.args.prints.now h))))

pub remove-requires : goal.remove-requires
remove-requires c =
    let w = slice_get_within c.deref.result.now c.in-Some.at _ c.in-Some.ensures.some in
    let l = c.deref.ensures.len in
    omega (arith, w, l)

pub returns-in-None : goal.returns-in-None
returns-in-None c = (
  λ is. absurd (not_so is),
  λ h. absurd (not_found c.args.wanted.now c.args.prints.now c.loop-i.left.items c.loop-i.i _ c.loop-i-test.true
      (subst (λ (l : List Print). (at : ℕ) → slice_get l at ≢ Some (get_or c.args.prints.now c.loop-i.i none)) c.deref.ensures.value c.in-None.ensures.none)
      c.loop-i.invariant h),
)

pub loop-i-preserved : goal.loop-i-preserved
loop-i-preserved c =
    more_found c.args.wanted.now c.args.prints.now c.loop-i.left.items c.remove.new.self.items c.loop-i.i c.in-Some.at none c.loop-i-test.true
    (subst (λ (l : List Print). slice_get l c.in-Some.at ≡ Some (get_or c.args.prints.now c.loop-i.i none)) c.deref.ensures.value c.in-Some.ensures.some)
    c.remove.ensures.items c.loop-i.invariant

pub returns : goal.returns
returns c = (
  λ is. nothing_left c.args.wanted.now c.args.prints.now c.loop-i.left.items c.loop-i.i c.if-wanted-prints.false c.loop-i-test.false c.loop-i.invariant,
  λ h. refl,
)
