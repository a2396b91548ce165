-- An axis that grows, event by event.
use Rattle.std.proofs.Common.{◌≡◌, ◌⊎◌, ◌<◌, ◌≤◌, ℕ, zero, suc, ◌+◌, List, [], ◌∷◌, ◌++◌, length, refl, sym, ap, ◌∙◌, subst, inl, inr, arith, Some}
use Rattle.std.specs.Prelude.{slice_get}
use Rattle.std.proofs.lemmas.Grind.{common_steps}
use Rattle.std.proofs.lemmas.Option.{slice_get_within}
use Rattle.pb_draw.specs.Marks.{AreInOrder}
use Rattle.pb_draw.specs.declared.drawing.Mark.{Mark}
use Rattle.pb_draw_picture.specs.Axis.{IsAxis, IsBehind, IsChain, IsChainFrom, squeezed, x_at}
use Rattle.pb_draw_picture.specs.declared.knot.Knot.{Knot}
use Rattle.pb_draw_picture.proofs.AxisLemmas.{axis_forward, axis_wide}

-- there is an event at a position
pub record HasKnot (knots : List Knot) (position : ℕ) : Type 0 where
  pub n : ℕ
  pub knot : Knot
  pub there : slice_get knots n ≡ Some knot
  pub is : knot.position ≡ position

-- the events of the marks before i are on the axis, but for the last, which is at a position and begins at x
pub record AxisSoFar (marks : List Mark) (i position x : ℕ) (knots : List Knot) : Type 0 where
  pub chain : (k : Knot) → k.position ≡ position → k.x ≡ x → IsChain (knots ++ k ∷ [])
  pub before : AreInOrder marks → (n : ℕ) (m : Mark) → i ≤ n → slice_get marks n ≡ Some m → position ≤ m.at
  pub covered : AreInOrder marks → (n : ℕ) (m : Mark) → n < i → slice_get marks n ≡ Some m
      → HasKnot knots (m.at + 1) ⊎ (m.at + 1 ≡ position)

chain_from_more : (k a b : Knot) (knots : List Knot) → IsChainFrom k (knots ++ a ∷ []) → IsBehind b a
    → IsChainFrom k ((knots ++ a ∷ []) ++ b ∷ [])
chain_from_more k a b [] h behind = (h.0, (behind, tt))
chain_from_more k a b (next ∷ knots) h behind = (h.0, chain_from_more next a b knots h.1 behind)

chain_more : (a b : Knot) (knots : List Knot) → IsChain (knots ++ a ∷ []) → IsBehind b a → IsChain ((knots ++ a ∷ []) ++ b ∷ [])
chain_more a b [] h behind = (h.0, (behind, tt))
chain_more a b (k ∷ knots) h behind = (h.0, chain_from_more k a b knots h.1 behind)

still_there : (knots : List Knot) (a c : Knot) (n : ℕ) → slice_get knots n ≡ Some c → slice_get (knots ++ a ∷ []) n ≡ Some c
still_there [] a c n e = grind (arith, common_steps)
still_there (k ∷ knots) a c zero e = e
still_there (k ∷ knots) a c (suc n) e = still_there knots a c n e

last_there : (knots : List Knot) (a : Knot) → slice_get (knots ++ a ∷ []) (length knots) ≡ Some a
last_there [] a = refl
last_there (k ∷ knots) a = last_there knots a

has_more : (knots : List Knot) (a : Knot) (position : ℕ) → HasKnot knots position → HasKnot (knots ++ a ∷ []) position
has_more knots a position h = record { n = h.n; knot = h.knot; there = still_there knots a h.knot h.n h.there; is = h.is }

has_last : (knots : List Knot) (a : Knot) (position : ℕ) → a.position ≡ position → HasKnot (knots ++ a ∷ []) position
has_last knots a position e = record { n = length knots; knot = a; there = last_there knots a; is = e }

pub so_far_start : (marks : List Mark) (position x : ℕ) → position ≡ 0 → AxisSoFar marks 0 position x []
so_far_start marks position x start = record {
  chain = λ k e f. (e ∙ start, tt);
  before = λ order n m le there. omega (arith, start);
  covered = λ order n m lt there. absurd (omega (arith, lt));
}

pub so_far_push : (marks : List Mark) (i position x next x' : ℕ) (knots knots' : List Knot) (mark : Mark) (knot : Knot)
    → AxisSoFar marks i position x knots → slice_get marks i ≡ Some mark → next ≡ mark.at + 1 → position < next
    → knot.position ≡ position → knot.x ≡ x → x' ≡ knot.x + knot.width + squeezed knot.silent knot.silent
    → knots' ≡ knots ++ knot ∷ [] → AxisSoFar marks (i + 1) next x' knots'
so_far_push marks i position x next x' knots knots' mark knot h there is lt at from to items =
    subst (λ (ks : List Knot). AxisSoFar marks (i + 1) next x' ks) (sym items) (record {
      chain = λ k e f.
          chain_more knot k knots (h.chain knot at from) (record { later = omega (arith, e, at, lt); right = omega (arith, f, to) });
      before = λ order n m le here. let o = order i n mark m (omega (arith, le)) there here in omega (arith, o, is);
      covered = λ order n m le here. elim (earlier n (omega (arith, le))) [
        | inl e ↦ elim (h.covered order n m e here) [
          | inl has ↦ inl (has_more knots knot (m.at + 1) has)
          | inr last ↦ inl (has_last knots knot (m.at + 1) (at ∙ sym last))
        ]
        | inr e ↦ inr (same m (sym here ∙ (ap (slice_get marks) e ∙ there)) ∙ sym is)
      ];
    })
  where
    earlier : (n : ℕ) → n ≤ i → (n < i) ⊎ (n ≡ i)
    earlier n le = grind (arith, common_steps)

    same : (m : Mark) → Some m ≡ Some mark → m.at + 1 ≡ mark.at + 1
    same m e = grind (arith, common_steps)

pub so_far_skip : (marks : List Mark) (i position x next x' : ℕ) (knots knots' : List Knot) (mark : Mark)
    → AxisSoFar marks i position x knots → slice_get marks i ≡ Some mark → mark.at + 1 ≤ position
    → next ≡ position → x' ≡ x → knots' ≡ knots → AxisSoFar marks (i + 1) next x' knots'
so_far_skip marks i position x next x' knots knots' mark h there le same same_x items =
    subst (λ (ks : List Knot). AxisSoFar marks (i + 1) next x' ks) (sym items) (record {
      chain = λ k e f. h.chain k (e ∙ same) (f ∙ same_x);
      before = λ order n m later here. absurd (not_in order);
      covered = λ order n m lt here. absurd (not_in order);
    })
  where
    not_in : AreInOrder marks → ⊥
    not_in order = let b = h.before order i mark (omega arith) there in omega (arith, b, le)

pub so_far_chain : (marks : List Mark) (i position x : ℕ) (knots : List Knot) (knot : Knot)
    → AxisSoFar marks i position x knots → knot.position ≡ position → knot.x ≡ x → IsChain (knots ++ knot ∷ [])
so_far_chain marks i position x knots knot h at from = h.chain knot at from

pub so_far_axis : (marks : List Mark) (i position x : ℕ) (knots knots' : List Knot) (knot : Knot)
    → AxisSoFar marks i position x knots → length marks ≤ i → knot.position ≡ position → knot.x ≡ x
    → knots' ≡ knots ++ knot ∷ [] → IsAxis marks (x_at knots')
so_far_axis marks i position x knots knots' knot h all at from items =
    subst (λ (ks : List Knot). IsAxis marks (x_at ks)) (sym items) (record {
      forward = λ a b le. axis_forward (knots ++ knot ∷ []) a b (h.chain knot at from) le;
      apart = λ order n j m there lt.
          wide m j lt (elim (h.covered order n m (before n m there) there) [
            | inl has ↦ has_more knots knot (m.at + 1) has
            | inr last ↦ has_last knots knot (m.at + 1) (at ∙ sym last)
          ]);
    })
  where
    before : (n : ℕ) (m : Mark) → slice_get marks n ≡ Some m → n < i
    before n m there = let w = slice_get_within marks n m there in omega (arith, w, all)

    wide : (m : Mark) (j : ℕ) → m.at + 1 < j → HasKnot (knots ++ knot ∷ []) (m.at + 1)
        → x_at (knots ++ knot ∷ []) (m.at + 1) + 16 ≤ x_at (knots ++ knot ∷ []) j
    wide m j lt has =
        axis_wide (knots ++ knot ∷ []) has.knot has.n (m.at + 1) j (h.chain knot at from) has.there has.is lt has.knot.wide
