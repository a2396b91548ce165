-- The end of a name as the code adds it up: no text is so long that it matters.
use Rattle.std.proofs.Common.{◌≡◌, ◌∙◌, ℕ, ◌+◌, ◌-◌, ◌<◌, ◌≤◌, ◌^◌, ◌⊎◌, inl, inr, min, List, [], codes, length, arith, ap, sym}
use Rattle.std.proofs.lemmas.Bool.{cases_lt}
use Rattle.std.proofs.lemmas.List.{take_all}
use Rattle.std.specs.List.{fold}
use Rattle.std.specs.Str.Lossy.{utf8_lossy}
use Rattle.serde_json.specs.Data.{Data, object, no_members, member}
use Rattle.pb_outline.proofs.Offsets.{ends_length}
use Rattle.pb_outline.specs.Places.{Place}
use Rattle.pb_outline.specs.Positions.{beginning, behind, line_ends, position_of}
use Rattle.pb_outline.specs.declared.position.Position.{Position}
use Rattle.pb_server_names.specs.Symbols.{integer_data, symbol_data, symbol_kind, symbol_with}
use Rattle.pb_server_names.specs.Values.{name_range, position_data}

-- past the end of a text all offsets have the position of the end
past_end : (text : List ℕ) (n m : ℕ) → length text ≤ n → length text ≤ m → position_of text n ≡ position_of text m
past_end text n m a b =
    let all = ends_length text in
    ap (fold behind beginning) (take_all n (line_ends text) (omega (arith, a, all)) ∙ sym (take_all m (line_ends text) (omega (arith, b, all))))

pub end_at : (text : List ℕ) (n m : ℕ) → length text < 2 ^ 63 → m ≡ min n (2 ^ 64 - 1) → position_of text m ≡ position_of text n
end_at text n m short is = go (cases_lt n (2 ^ 64))
  where
    go : (n < 2 ^ 64) ⊎ (2 ^ 64 ≤ n) → position_of text m ≡ position_of text n
    go (inl w) = ap (position_of text) (omega (arith, is))
    go (inr w) = past_end text m n (omega (arith, is)) (omega arith)

-- the symbol of a place, with the positions of its two ends and nothing inside
abbrev symbol_between : (text : List ℕ) → Place → (start end : Position) → Data
symbol_between text place start end =
    symbol_with (utf8_lossy place.text) (symbol_kind place.kind)
    (object (member (codes "end") (position_data end) (member (codes "start") (position_data start) no_members))) (name_range text place) []

-- the symbol of an integer that ends there
pub integer_ends : (text : List ℕ) (one : Place) (end : ℕ) (inside : List Data) (d : Data) → length text < 2 ^ 63
    → end ≡ min (one.at + length one.text) (2 ^ 64 - 1) → inside ≡ []
    → d ≡ symbol_data text one (record { start = one.at; end = end }) inside → d ≡ integer_data text one
integer_ends text one end inside d short ends none is =
    is
    ∙ (ap (λ (ds : List Data). symbol_data text one (record { start = one.at; end = end }) ds) none
    ∙ ap (symbol_between text one (position_of text one.at)) (end_at text (one.at + length one.text) end short ends))
