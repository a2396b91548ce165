use Rattle.std.proofs.Common.{ap, sym, ◌∙◌, ◌++◌, ◌∷◌, List, ℕ, subst}
use Rattle.pb_code.specs.Limits.{IsName}
use Rattle.pb_search_engine.proofs.RequirementLemmas.{claim_parts, no_space}
use Rattle.pb_search_engine.proofs.requirements.amount_and_name.Goals as goal

pub returns-in_err-word : goal.returns-in_err-word
returns-in_err-word c = rw c.from_residual.ensures (λ amount name may. no_space c.args.text.now c.in_err-word.ensures amount name)

pub returns-in_err-amount : goal.returns-in_err-amount
returns-in_err-amount c = rw c.from_residual-in_err-amount.ensures (λ amount name may is.
    let parts = claim_parts c.args.text.now c.in_ok-word.word.now c.in_ok-word.name.now amount name may.0 c.in_ok-word.ensures.1 c.in_ok-word.ensures.0 is in
    c.in_err-amount.ensures amount may.0 parts.0)

pub returns-then-not-is_name : goal.returns-then-not-is_name
returns-then-not-is_name c = λ amount name may is.
    let parts = claim_parts c.args.text.now c.in_ok-word.word.now c.in_ok-word.name.now amount name may.0 c.in_ok-word.ensures.1 c.in_ok-word.ensures.0 is in
    let named = c.is_name.ensures.name.1 (subst IsName (sym parts.1) may.1) in
    cc (named, c.if-not-is_name.true)

pub returns : goal.returns
returns c = (
  (c.in_ok-amount.ensures.0, c.is_name.ensures.name.0 c.if-not-is_name.false),
  c.in_ok-word.ensures.1 ∙ ap (λ (t : List ℕ). t ++ (32 ∷ c.in_ok-word.name.now)) c.in_ok-amount.ensures.1,
)
