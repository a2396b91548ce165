use Rattle.std.proofs.Common.{◌≡◌, ◌≤◌, ◌<◌, ◌+◌, ◌*◌, ◌∷◌, [], arith, ◌/◌, eqb, length, map, sym, ◌∙◌, false, true}
use Rattle.std.proofs.Common.{Bool, List, ℕ, refl}
use Rattle.std.proofs.lemmas.List.{length-map, length-append}
use Rattle.std.proofs.lemmas.Bool.{eqb-true}
use Rattle.pb_base.specs.declared.pair.Pair.{Pair}
use Rattle.pb_object.specs.declared.words.Verdict.{Verdict}
use Rattle.pb_object.specs.declared.words.Verdict.TheVariants.{Beyond, Read}
use Rattle.pb_object.specs.Rows.{bundle_so_far}
use Rattle.pb_object.proofs.Pairs.{front_two, after_two, gathered, twice, next_pair, bad_pair, beyond_pair, more_pair}
use Rattle.pb_object.proofs.Pairs.{odd_end, even_end, full_end, apart_after, apart_new, apart_more}
use Rattle.pb_object.proofs.place_reader.pairs.Goals as goal
use Rattle.pb_object.proofs.place_reader.pairs.Goals.{in-Beyond, in-Read}

pub returns-then-names_resource : goal.returns-then-names_resource
returns-then-names_resource c =
    sym (twice c.loop.beyond (bundle_so_far c.loop.bundle) _ _ _ (map (λ w. w.now) c.loop.rest.now) _
    (front_two (λ w. w.now) c.loop.rest.now _ c.in-len2-up.len_at_least) c.loop.invariant.read (sym c.names_resource.ensures ∙ c.if-names_resource.true))

pub returns-in-Malformed : goal.returns-in-Malformed
returns-in-Malformed c =
    let next =
    next_pair c.loop.beyond (bundle_so_far c.loop.bundle) _ _ _ (map (λ w. w.now) c.loop.rest.now) _
    (front_two (λ w. w.now) c.loop.rest.now _ c.in-len2-up.len_at_least) c.loop.invariant.read (sym c.names_resource.ensures ∙ c.if-names_resource.false) in
    sym (bad_pair c.loop.beyond (bundle_so_far c.loop.bundle) _ _ _ _ next (sym c.pair.ensures ∙ c.in-Malformed.is))

pub with_pair-requires-clause-new : goal.with_pair-requires-clause-new
with_pair-requires-clause-new c =
    apart_new _ _ (map (λ w. w.now) c.loop.rest.now) _ (bundle_so_far c.loop.bundle) c.in-Read.pair
    (front_two (λ w. w.now) c.loop.rest.now _ c.in-len2-up.len_at_least) c.loop.invariant.apart (sym c.pair.ensures ∙ c.in-Read.is)

-- an odd number of words has one left at the end, an even number none
odd_left : (rest words counter : ℕ) → rest + 2 * counter ≡ words → words / 2 ≤ counter → rest < 2
odd_left rest words counter left done = omega arith

empty_length : {A : Type 0} (xs : List A) → eqb (length xs) 0 ≡ false → 0 < length xs
empty_length [] h = absurd cc
empty_length (x ∷ xs) h = omega arith

pub returns-then-not-is_empty : goal.returns-then-not-is_empty
returns-then-not-is_empty c =
    sym (odd_end c.loop.beyond (bundle_so_far c.loop.bundle) _ (map (λ w. w.now) c.loop.rest.now) c.loop.invariant.read
    (simp length-map (odd_left (length c.loop.rest.now) (length c.args.words.now) c.loop.counter c.loop.invariant.left c.loop-test.false))
    (simp length-map (empty_length c.loop.rest.now (sym c.is_empty.ensures ∙ c.if-not-is_empty.true))))

pub returns-then-beyond : goal.returns-then-beyond
returns-then-beyond c =
    let none : length c.loop.rest.now ≡ 0 = eqb-true _ _ (sym c.is_empty.ensures ∙ c.if-not-is_empty.false) in
    let at_end = even_end c.loop.beyond (bundle_so_far c.loop.bundle) _ (map (λ w. w.now) c.loop.rest.now) c.loop.invariant.read (simp length-map none) in
    sym (rw c.if-beyond.true at at_end)

pub returns-else-beyond : goal.returns-else-beyond
returns-else-beyond c =
    let none : length c.loop.rest.now ≡ 0 = eqb-true _ _ (sym c.is_empty.ensures ∙ c.if-not-is_empty.false) in
    let at_end = even_end c.loop.beyond (bundle_so_far c.loop.bundle) _ (map (λ w. w.now) c.loop.rest.now) c.loop.invariant.read (simp length-map none) in
    let full = full_end c.loop.beyond (bundle_so_far c.loop.bundle) _ at_end c.if-beyond.false in
    sym (rw c.in-Some.is at full)

-- with every number in range there is a pair for each two words
none_beyond : (b : Bool) (bundle : List Pair) (total : Verdict (List Pair)) (counter words : ℕ) → total ≡ gathered b bundle (Read [])
    → length bundle ≡ 0 → (b ≡ false → length bundle ≡ counter) → words / 2 ≤ counter → 2 * counter ≡ words → 0 < words → total ≡ Beyond
none_beyond true bundle total counter words e none full done even some = e
none_beyond false bundle total counter words e none full done even some = absurd (let f = full refl in omega (arith, f))

pub returns-in-None : goal.returns-in-None
returns-in-None c =
    let none : length c.loop.rest.now ≡ 0 = eqb-true _ _ (sym c.is_empty.ensures ∙ c.if-not-is_empty.false) in
    let at_end = even_end c.loop.beyond (bundle_so_far c.loop.bundle) _ (map (λ w. w.now) c.loop.rest.now) c.loop.invariant.read (simp length-map none) in
    let empty : length (bundle_so_far c.loop.bundle) ≡ 0 = rw c.in-None.is refl in
    let left = c.loop.invariant.left in
    sym (none_beyond c.loop.beyond (bundle_so_far c.loop.bundle) _ c.loop.counter (length c.args.words.now) at_end empty c.loop.invariant.full
    c.loop-test.false (omega (arith, left, none)) c.requires.some)

pub loop-preserved : goal.loop-preserved
loop-preserved c =
    let two = front_two (λ w. w.now) c.loop.rest.now _ c.in-len2-up.len_at_least in
    let new = sym c.names_resource.ensures ∙ c.if-names_resource.false in
    let next = next_pair c.loop.beyond (bundle_so_far c.loop.bundle) _ _ _ (map (λ w. w.now) c.loop.rest.now) _ two c.loop.invariant.read new in
    let after = after_two c.loop.rest.now c.in-len2-up.len_at_least in
    let left = c.loop.invariant.left in
    let room = c.loop.invariant.room in
    elim c.match-pair.branch [
      | in-Beyond w ↦
          rw (w.rest-is, w.bundle-is, w.beyond-is) (record {
            read = beyond_pair c.loop.beyond (bundle_so_far c.loop.bundle) _ _ _ _ next (sym c.pair.ensures ∙ w.in-Beyond.is);
            left = omega (arith, after, left);
            room = omega (arith, room);
            full = λ h. absurd cc;
            apart = apart_after _ _ (map (λ w. w.now) c.loop.rest.now) _ (bundle_so_far c.loop.bundle) two c.loop.invariant.apart;
          })
      | in-Read w ↦
          let is = sym c.pair.ensures ∙ w.in-Read.is in
          rw (w.rest-is, w.bundle-is, w.beyond-is, w.with_pair.ensures) (record {
            read = more_pair c.loop.beyond (bundle_so_far c.loop.bundle) _ _ _ _ w.in-Read.pair next is;
            left = omega (arith, after, left);
            room = simp length-append (omega (arith, room));
            full = λ h. (let f = c.loop.invariant.full h in simp length-append (omega (arith, f)));
            apart = apart_more _ _ (map (λ w. w.now) c.loop.rest.now) _ (bundle_so_far c.loop.bundle) w.in-Read.pair two c.loop.invariant.apart is new;
          })
    ]
