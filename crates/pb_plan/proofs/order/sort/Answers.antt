use Rattle.std.proofs.Common.{◌≡◌, ◌∙◌, ◌∷◌, [], ◌++◌, ℕ, List, ap, map, subst, sym}
use Rattle.std.proofs.lemmas.Option.{get_or_from_slice_get}
use Rattle.pb_names.specs.View.{process_view}
use Rattle.pb_plan.specs.Nests.{IsAmong, IsBegun, IsFreeAt, IsInside}
use Rattle.pb_plan.specs.declared.nest.Nest.{Nest}
use Rattle.pb_plan.proofs.OrderLemmas.{begun_more}
use Rattle.pb_plan.proofs.order.sort.Goals as goal

pub loop-i-preserved : goal.loop-i-preserved
loop-i-preserved g c =
    let processes = map process_view c.args.processes.now in
    let among = c.args.among.now in
    let left = c.loop-i.left.items in
    let order = c.loop-i.order.items in
    let i = c.in-Some.i in
    let free = subst (λ (xs : List ℕ). IsFreeAt processes xs i) c.deref.ensures.value c.in-Some.ensures.some in
    let r = c.remove-r.result in
    let same : r ≡ free.r = c.remove-r.ensures.value ∙ get_or_from_slice_get left i free.r r free.there in
    let pushed : c.push.new.self.items ≡ order ++ free.r ∷ [] =
    c.in_ok-push.ensures.items ∙ ap (λ (x : ℕ). order ++ x ∷ []) same in
    subst (λ (xs : List ℕ). IsBegun processes among xs c.remove-r.new.self.items) (sym pushed)
    (subst (IsBegun processes among (order ++ free.r ∷ [])) (sym c.remove-r.ensures.items)
    (begun_more processes c.args.resources c.requires among order left i free.r free.there free.free c.loop-i.invariant))

pub returns-clause-left : goal.returns-clause-left
returns-clause-left g c =
    subst (λ (xs : List ℕ). (r : ℕ) → IsAmong xs r → (found : Nest) × IsInside (map process_view c.args.processes.now) xs r found)
    c.deref.ensures.value c.in_default.ensures.none
