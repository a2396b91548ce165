-- What tokens declare, token by token.
use Rattle.std.proofs.Common.{◌≡◌, ℕ, suc, ◌+◌, ◌<◌, List, ◌∷◌, length, drop, map, get_or, ap, ◌∙◌, arith}
use Rattle.std.proofs.Math.Seq.{drop-cons}
use Rattle.pb_lexer.specs.Tokens.{token}
use Rattle.pb_lexer.specs.declared.token.Token.{Token as Given}
use Rattle.pb_outline.specs.Declares.{behind_token, declared_from, declared_here}
use Rattle.pb_outline.specs.declared.reading.Reading.{Reading}
use Rattle.std.proofs.Common.{◌++◌}

-- the tokens from a number on declare what the first does, and what those after it do
pub one_token_more : (before : Reading) (ts : List Given) (i : ℕ) (d : Given) → i < length ts
    → declared_from before (map token (drop i ts))
    ≡ declared_here before (token (get_or ts i d)) (token (get_or ts i d)).lexeme
    ++ declared_from (behind_token before (token (get_or ts i d))) (map token (drop (i + 1) ts))
one_token_more before ts i d lt =
    let next : suc i ≡ i + 1 = omega arith in
    let here : drop i ts ≡ get_or ts i d ∷ drop (i + 1) ts = drop-cons ts i d lt ∙ ap (λ k. get_or ts i d ∷ drop k ts) next in
    ap (λ (gs : List Given). declared_from before (map token gs)) here
