-- The token that begins at an offset.
use Rattle.std.proofs.Common.{◌≡◌, ℕ, suc, ◌+◌, ◌<◌, true, false, cond, List, ◌∷◌, length, drop, map, get_or, Option, Some, None, sym, ap, ◌∙◌, arith}
use Rattle.std.specs.List.{find}
use Rattle.std.proofs.Math.Seq.{drop-cons}
use Rattle.std.proofs.lemmas.List.{drop_all}
use Rattle.pb_diagnostics.specs.Ranges.{begins_at}
use Rattle.pb_lexer.specs.Tokens.{Token, token}
use Rattle.pb_lexer.specs.declared.token.Token.{Token as Given}

module _ (at : ℕ) where
  -- the token from a number on
  abbrev pub token_from : List Given → ℕ → Option Token
  token_from ts i = find (begins_at at) (map token (drop i ts))

  step : (ts : List Given) (i : ℕ) (d : Given) → i < length ts
      → token_from ts i ≡ cond (begins_at at (token (get_or ts i d))) (Some (token (get_or ts i d))) (token_from ts (i + 1))
  step ts i d lt =
      let next : suc i ≡ i + 1 = omega arith in
      let here : drop i ts ≡ get_or ts i d ∷ drop (i + 1) ts = drop-cons ts i d lt ∙ ap (λ k. get_or ts i d ∷ drop k ts) next in
      ap (λ (gs : List Given). find (begins_at at) (map token gs)) here

  pub token_found : (ts : List Given) (i : ℕ) (d : Given) → i < length ts → begins_at at (token (get_or ts i d)) ≡ true
      → token_from ts i ≡ Some (token (get_or ts i d))
  token_found ts i d lt begins =
      step ts i d lt ∙ ap (λ t. cond t (Some (token (get_or ts i d))) (token_from ts (i + 1))) begins

  pub token_later : (ts : List Given) (i : ℕ) (d : Given) → i < length ts → begins_at at (token (get_or ts i d)) ≡ false
      → token_from ts (i + 1) ≡ token_from ts i
  token_later ts i d lt other =
      sym (step ts i d lt ∙ ap (λ t. cond t (Some (token (get_or ts i d))) (token_from ts (i + 1))) other)

  pub no_token : (ts : List Given) (i : ℕ) → length ts ≡ i → token_from ts i ≡ None
  no_token ts i ends = ap (λ (gs : List Given). find (begins_at at) (map token gs)) (drop_all i ts (omega (arith, ends)))
