-- Lists of tokens that are the same but for one.
use Rattle.std.proofs.Common.{◌≡◌, ◌≤◌, ◌<◌, ℕ, ◌+◌, ◌-◌, min, List, [], length, get_or, take, drop, ap, sym, arith, rules, true, eq-eqb, ◌∙◌}
use Rattle.std.proofs.lemmas.List.{take_more_same, get_or-map, take-map, drop-map, drop_min, length-map, take_rest}
use Rattle.pb_lexer.specs.Tokens.{Token, token, tokens}
use Rattle.pb_lexer.specs.declared.token.Token.{Token as Given}
use Rattle.pb_mends.specs.Mends.{KeepsTokens, is_replaced, texts}
use Rattle.std.specs.List.{list_any}
use Rattle.std.proofs.lemmas.List.Folds.{list_any_at}

-- the bytes of the token with a number
text_at : (ts : List Given) (i : ℕ) (d : Given) → i < length ts → get_or (texts (tokens ts)) i [] ≡ (token (get_or ts i d)).text
text_at ts i d l =
    let inside : i < length (tokens ts) = rw length-map l in
    get_or-map (λ (t : Token). t.text) (tokens ts) i (token d) [] inside
    ∙ ap (λ (t : Token). t.text) (get_or-map token ts i d (token d) l)

-- one more token is the same
pub same_more : (ts us : List Given) (i : ℕ) (d e : Given) → i < length ts → i < length us
    → (token (get_or ts i d)).text ≡ (token (get_or us i e)).text
    → take i (texts (tokens ts)) ≡ take i (texts (tokens us))
    → take (i + 1) (texts (tokens ts)) ≡ take (i + 1) (texts (tokens us))
same_more ts us i d e l m same h =
    let inside_these : i < length (texts (tokens ts)) = simp length-map l in
    let inside_those : i < length (texts (tokens us)) = simp length-map m in
    take_more_same (texts (tokens ts)) (texts (tokens us)) i [] inside_these inside_those h
    (text_at ts i d l ∙ same ∙ sym (text_at us i e m))

-- tokens that are the same before one of them and after it
pub keeps : (ts us : List Given) (number behind left : ℕ) → number ≤ length ts
    → behind ≡ min (length ts) (number + 1) → left ≡ length ts - behind → number + left ≤ length us
    → texts (tokens (take number ts)) ≡ texts (tokens (take number us))
    → texts (tokens (take (length ts - behind) (drop behind ts)))
    ≡ texts (tokens (take (length us - (length us - left)) (drop (length us - left) us)))
    → KeepsTokens (tokens ts) (tokens us)
keeps ts us number behind left within b n fits before rest = record {
  number = number;
  to = length us - left;
  order = omega arith;
  before = simp take-map before;
  behind =
      let least : behind ≡ min (number + 1) (length ts) = omega arith in
      let same : drop behind ts ≡ drop (number + 1) ts = ap (λ (k : ℕ). drop k ts) least ∙ drop_min (number + 1) ts in
      let left_of_these : texts (tokens (drop behind ts)) ≡ texts (tokens (drop (length us - left) us)) =
      simp take_rest at rest in
      simp drop-map (ap (λ (xs : List Given). texts (tokens xs)) (sym same) ∙ left_of_these);
}

-- whether a token is what is replaced, by its offsets
is_it : (t : Token) (start end : ℕ) → t.start ≡ start → t.end ≡ end → is_replaced start end t ≡ true
is_it t start end s e = rw (s, e) (search (rules, eq-eqb))

-- one of the tokens is what is replaced
pub is_one : (ts : List Given) (i : ℕ) (d : Given) (start end : ℕ) → i < length ts
    → (token (get_or ts i d)).start ≡ start → (token (get_or ts i d)).end ≡ end
    → list_any (is_replaced start end) (tokens ts) ≡ true
is_one ts i d start end l s e =
    let inside : i < length (tokens ts) = rw length-map l in
    list_any_at (is_replaced start end) (tokens ts) i (token d) inside
    (rw (get_or-map token ts i d (token d) l) (is_it (token (get_or ts i d)) start end s e))
