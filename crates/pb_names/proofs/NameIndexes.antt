-- An index of names: how it is made, one name more at a time, and how a name is looked for in it.
use Rattle.std.proofs.Common.{◌≡◌, ◌≢◌, ℕ, suc, ◌+◌, ◌*◌, ◌<◌, ◌≤◌, List, [], ◌∷◌, length, get_or, set, replicate}
use Rattle.std.proofs.Common.{Some, None, inl, inr, arith, ap, sym, ◌∙◌, length-set}
use Rattle.std.specs.Prelude.{slice_get, bit_and}
use Rattle.std.specs.Int.Bits.{and_zero_l}
use Rattle.std.proofs.lemmas.Bool.{cases_lt, cases_eq}
use Rattle.std.proofs.lemmas.Grind.{get_or_default_zero}
use Rattle.std.proofs.lemmas.List.{get_or-set_same, get_or-set_other, get_or-replicate, length-replicate}
use Rattle.std.proofs.lemmas.Option.{slice_get_within}
use Rattle.pb_names.specs.Index.{IsFirstNumber, IsNext, IsLinked, slot}
use Rattle.pb_names.specs.Program.{Name}
use Rattle.pb_base.proofs.Lists.{some_same}

-- ---- the slot of a short name

pub slot_of_none : (greatest : ℕ) (name : Name) → length name ≡ 0 → 0 ≡ slot greatest name
unfolding slot
slot_of_none greatest [] none = sym (and_zero_l greatest)
slot_of_none greatest (x ∷ rest) none = absurd (omega arith)

pub slot_of_one : (greatest : ℕ) (name : Name) → length name ≡ 1
    → bit_and (1 + 19 * get_or name 0 0) greatest ≡ slot greatest name
unfolding slot
slot_of_one greatest [] one = absurd (omega arith)
slot_of_one greatest (x ∷ []) one =
    let same : 1 + 19 * x ≡ 1 + 7 * x + 11 * x + x = omega arith in
    ap (λ n. bit_and n greatest) same
slot_of_one greatest (x ∷ y ∷ rest) one = absurd (omega arith)

-- ---- the next name of a slot

-- a name is the next of its own slot
next_here : (names : List Name) (name : Name) (greatest i : ℕ) → slice_get names i ≡ Some name
    → IsNext names greatest (slot greatest name) i i
next_here names name greatest i read = record {
  after = omega arith;
  none = λ k other above below here. absurd (omega arith);
  here = λ other here. ap (slot greatest) (some_same (sym here ∙ read));
}

-- and of no other
next_over : (names : List Name) (name : Name) (greatest s i to : ℕ) → slice_get names i ≡ Some name → slot greatest name ≢ s
    → IsNext names greatest s (suc i) to → IsNext names greatest s i to
next_over names name greatest s i to read differs next = record {
  after = omega (arith, next.after);
  none = none;
  here = next.here;
}
  where
    none : (k : ℕ) (other : Name) → i ≤ k → k < to → slice_get names k ≡ Some other → slot greatest other ≢ s
    none k other above below here same = elim (cases_eq k i) [
      | inl e ↦ differs (ap (slot greatest) (some_same (sym read ∙ ap (slice_get names) (sym e) ∙ here)) ∙ same)
      | inr n ↦ next.none k other (omega arith) below here same
    ]

-- ---- how an index is made

-- an index of none of the names
pub linked_none : (names : List Name) (greatest count : ℕ) (firsts nexts : List ℕ) → count ≡ length names
    → firsts ≡ replicate (greatest + 1) count → length nexts ≡ count → IsLinked names greatest count firsts nexts
linked_none names greatest count firsts nexts all fill links = record {
  slots = omega (arith, ap length fill, length-replicate (greatest + 1) count);
  links = links ∙ all;
  first = λ s below.
      rw (fill, get_or-replicate (greatest + 1) s count 0 (omega arith))
      (record {
        after = omega arith;
        none = λ k name above under here. absurd (omega arith);
        here = λ name here. absurd (omega (arith, slice_get_within names count name here));
      });
  next = λ k name above here. absurd (omega (arith, slice_get_within names k name here));
}

-- one more name, in front of those from the next number on, with what was read as the first of its slot
pub linked_more : (names : List Name) (name : Name) (greatest i behind : ℕ) (firsts nexts : List ℕ)
    → slice_get names i ≡ Some name → slot greatest name ≤ greatest → behind ≡ get_or firsts (slot greatest name) behind
    → IsLinked names greatest (suc i) firsts nexts
    → IsLinked names greatest i (set firsts (slot greatest name) i) (set nexts i behind)
linked_more names name greatest i behind firsts nexts read few is linked = record {
  slots = length-set firsts (slot greatest name) i ∙ linked.slots;
  links = length-set nexts i behind ∙ linked.links;
  first = first;
  next = next;
}
  where
    first : (s : ℕ) → s ≤ greatest → IsNext names greatest s i (get_or (set firsts (slot greatest name) i) s 0)
    first s below = elim (cases_eq s (slot greatest name)) [
      | inl e ↦
          rw (e, get_or-set_same firsts (slot greatest name) i 0 (omega (arith, linked.slots)))
          (next_here names name greatest i read)
      | inr n ↦
          rw (get_or-set_other firsts (slot greatest name) s i 0 n)
          (next_over names name greatest s i _ read (λ same. n (sym same)) (linked.first s below))
    ]

    after : IsNext names greatest (slot greatest name) (suc i) behind
    after =
        rw (is ∙ get_or_default_zero firsts (slot greatest name) behind (omega (arith, linked.slots)))
        (linked.first (slot greatest name) few)

    next : (k : ℕ) (other : Name) → i ≤ k → slice_get names k ≡ Some other
        → IsNext names greatest (slot greatest other) (suc k) (get_or (set nexts i behind) k 0)
    next k other above here = elim (cases_eq k i) [
      | inl e ↦
          let same : name ≡ other = some_same (sym read ∙ ap (slice_get names) (sym e) ∙ here) in
          let inside : i < length nexts = omega (arith, linked.links, slice_get_within names i name read) in
          rw (e, get_or-set_same nexts i behind 0 inside, ← same) after
      | inr n ↦ rw (get_or-set_other nexts i k behind 0 n) (linked.next k other (omega arith) here)
    ]

-- ---- how a name is looked for

-- the name has no number below this one, if there is a name of its slot or none
pub record IsReached (names : List Name) (greatest : ℕ) (name : Name) (i : ℕ) : Type 0 where
  pub none : (k : ℕ) → k < i → slice_get names k ≢ Some name
  pub here : (other : Name) → slice_get names i ≡ Some other → slot greatest other ≡ slot greatest name

-- one name further, after another name, as the index is read
pub reached_next : (names : List Name) (name other : Name) (firsts nexts : List ℕ) (greatest i to : ℕ)
    → slice_get names i ≡ Some other → other ≢ name → to ≡ get_or nexts i to → IsLinked names greatest 0 firsts nexts
    → IsReached names greatest name i → (i < to) × IsReached names greatest name to
reached_next names name other firsts nexts greatest i to read differs is linked reached =
    (omega (arith, next.after), record { none = none; here = here })
  where
    next : IsNext names greatest (slot greatest other) (suc i) to
    next =
        let inside : i < length nexts = omega (arith, linked.links, slice_get_within names i other read) in
        rw (is ∙ get_or_default_zero nexts i to inside) (linked.next i other (omega arith) read)

    none : (k : ℕ) → k < to → slice_get names k ≢ Some name
    none k below here = elim (cases_lt k i) [
      | inl less ↦ reached.none k less here
      | inr most ↦ elim (cases_eq k i) [
        | inl e ↦ differs (some_same (sym read ∙ ap (slice_get names) (sym e) ∙ here))
        | inr n ↦ next.none k name (omega arith) below here (sym (reached.here other read))
      ]
    ]

    here : (x : Name) → slice_get names to ≡ Some x → slot greatest x ≡ slot greatest name
    here x there = next.here x there ∙ reached.here other read

pub reached_end : (names : List Name) (name : Name) (greatest i : ℕ) → length names ≤ i → IsReached names greatest name i
    → IsFirstNumber names name None
reached_end names name greatest i past reached =
    λ k here. reached.none k (omega (arith, slice_get_within names k name here)) here
