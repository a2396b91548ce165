use Rattle.std.proofs.Common.{◌≡◌, ◌∙◌, ℕ, Some, ap, sym, refl, arith, inl, inr, subst}
use Rattle.std.proofs.lemmas.Bool.{cases_lt}
use Rattle.std.proofs.lemmas.Bool.Decides.{Decides-eqb}
use Rattle.std.proofs.lemmas.Option.{slice_get_within}
use Rattle.std.proofs.lemmas.Slice.Eq.{slice_eq-Decides}
use Rattle.std.proofs.lemmas.List.{length-map}
use Rattle.std.specs.Prelude.{slice_get}
use Rattle.pb_code.proofs.ListElements.{read_mapped, same_read}
use Rattle.pb_code.specs.View.{code_view}
use Rattle.pb_search_engine.specs.Requirements.{SomeClaims}
use Rattle.pb_search_engine.proofs.requirements.is_claimed.Goals.{else-eq-via-then-eq+else-some_claims, else-eq-via-else-eq}
use Rattle.pb_search_engine.proofs.requirements.is_claimed.Goals as goal

pub returns-then-some_claims : goal.returns-then-some_claims
returns-then-some_claims c =
    let there = read_mapped (λ n. n.items) c.args.code.now.names.resources.items c.loop-r.r c.index.result.now (omega arith) c.index.ensures in
    let same : c.as_slice.result.now ≡ c.args.name.now = (slice_eq-Decides Decides-eqb _ _ _ c.eq.ensures).0 c.if-eq.true in
    (λ is. (c.loop-r.r, there ∙ ap Some (sym c.as_slice.ensures.value ∙ same), c.some_claims.ensures.0 c.if-some_claims.true), λ is. refl)

pub loop-r-preserved : goal.loop-r-preserved
loop-r-preserved c = λ r below named claims.
    elim (cases_lt r c.loop-r.r) [
      | inl lt ↦ c.loop-r.invariant r lt named claims
      | inr le ↦
          (let here : r ≡ c.loop-r.r = omega arith in
          let names = (code_view c.args.code.now).names.resources in
          let there = read_mapped (λ n. n.items) c.args.code.now.names.resources.items c.loop-r.r c.index.result.now (omega arith) c.index.ensures in
          let same = same_read names c.loop-r.r c.index.result.now.items c.args.name.now there (subst (λ (k : ℕ). slice_get names k ≡ Some c.args.name.now) here named) in
          elim c.else-eq.branch [
            | else-eq-via-then-eq+else-some_claims w ↦
                (let t = w.some_claims.ensures.1 (subst (λ (k : ℕ). SomeClaims (code_view c.args.code.now) c.args.amount k) here claims) in
                cc (t, w.if-some_claims.false))
            | else-eq-via-else-eq w ↦
                (let t = (slice_eq-Decides Decides-eqb _ _ _ c.eq.ensures).1 (c.as_slice.ensures.value ∙ same) in cc (t, w.if-eq.false))
          ])
    ]

pub returns : goal.returns
returns c = (
  λ is. absurd (cc),
  λ claimed.
      let names = c.args.code.now.names.resources.items in
      let within = slice_get_within (code_view c.args.code.now).names.resources claimed.0 c.args.name.now claimed.1 in
      let many = length-map names (λ n. n.items) in
      absurd (c.loop-r.invariant claimed.0 (omega (arith, within, many)) claimed.1 claimed.2),
)
