use Rattle.std.proofs.Common.{◌≡◌, ◌+◌, ◌++◌, ◌∷◌, [], List, arith, map, subst, sym, take}
use Rattle.std.proofs.lemmas.List.{map-append, take_more}
use Rattle.pb_findings.specs.Findings.{AreWarned, more, none}
use Rattle.pb_findings.specs.declared.warned.Warned.{Warned}
use Rattle.pb_warnings.specs.Warnings.{Warning, warning}
use Rattle.pb_warnings.specs.declared.warning.Warning.{Warning as Given}
use Rattle.pb_findings.proofs.warned.warned_of.Goals as goal

pub loop-given-init : goal.loop-given-init
loop-given-init c =
    subst (λ (those : List Warned). AreWarned c.args.part.file.now c.args.part.start [] those) (sym c.new-warned.ensures.items) none

pub loop-given-preserved : goal.loop-given-preserved
loop-given-preserved c =
    let found = c.args.found.now in
    let i = c.loop-given.given-index in
    let given : Given = c.given-item.result in
    let test = c.loop-given-test.true in
    let is = c.given-item.is in
    let one = take_more found i given test in
    let taken : take (i + 1) found ≡ take i found ++ given ∷ [] = grind (arith, one, is) in
    let file = c.args.part.file.now in
    let start = c.args.part.start in
    subst (λ (those : List Given). AreWarned file start (map warning those) c.push.new.self.items) (sym taken)
    (subst (λ (those : List Warning). AreWarned file start those c.push.new.self.items) (sym (map-append warning (take i found) (given ∷ [])))
    (subst (λ (those : List Warned). AreWarned file start (map warning (take i found) ++ warning given ∷ []) those) (sym c.in_ok-push.ensures.items)
    (more (map warning (take i found)) c.loop-given.warned.items (warning given) c.in_ok-one_warned.field-0 c.loop-given.invariant
    c.in_ok-one_warned.ensures)))
