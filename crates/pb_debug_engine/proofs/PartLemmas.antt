-- A part of an input that is read byte by byte, up to its line `%%`.
use Rattle.std.proofs.Common.{◌≡◌, ℕ, zero, suc, ◌+◌, ◌-◌, ◌<◌, ◌≤◌, List, [], ◌∷◌, ◌++◌, length, take, drop, Option}
use Rattle.std.proofs.Common.{Some, None, IfSome, get_or, refl, sym, ap, ◌∙◌, subst, inl, inr, arith, append-nil}
use Rattle.std.proofs.Common.{append_assoc, length-append}
use Rattle.std.proofs.lemmas.List.{drop-append-le, take-append-le, take-append-drop, take_all, length-take-le}
use Rattle.std.proofs.lemmas.List.{length-drop}
use Rattle.std.proofs.lemmas.Bool.{cases_lt}
use Rattle.std.specs.Prelude.{◌⊎◌, slice_get}
use Rattle.pb_base.specs.Device.{GivesNext, LeavesRest, dropped}
use Rattle.pb_base.proofs.DeviceLemmas.{next-bytes, prepended}
use Rattle.pb_debug.specs.Sessions.{IsReadTo, SaysBefore}
use Rattle.pb_debug_engine.specs.Debugs.{AreThreeParts}
use Rattle.pb_debug_engine.specs.Live.{EndsInMark, IsEarly, IsLong, IsUnmarked}
use Rattle.pb_command_io.specs.Parts.{AreTwoParts, IsMark, IsMarkAt}

-- ---- lists

-- an element of the first of two lists
front : (xs ys : List ℕ) (i : ℕ) → i < length xs → slice_get (xs ++ ys) i ≡ slice_get xs i
front [] ys i within = absurd (omega (arith, within))
front (x ∷ xs) ys zero within = refl
front (x ∷ xs) ys (suc i) within = front xs ys i (omega (arith, within))

-- two lists with nothing in them
pub nothing_behind : (xs ys : List ℕ) → xs ++ ys ≡ [] → (xs ≡ []) × (ys ≡ [])
nothing_behind [] ys none = (refl, none)
nothing_behind (x ∷ xs) ys none = let some : suc (length (xs ++ ys)) ≡ 0 = ap length none in absurd (omega (arith, some))

-- if nothing is dropped away, nothing is left
nothing_left : (xs : List ℕ) (n : ℕ) → length xs ≤ n → drop n xs ≡ []
nothing_left [] zero short = refl
nothing_left [] (suc n) short = refl
nothing_left (x ∷ xs) zero short = absurd (omega (arith, short))
nothing_left (x ∷ xs) (suc n) short = nothing_left xs n (omega (arith, short))

-- ---- marks

-- a mark with its line feed is one whatever follows
mark_goes_on : (xs ys : List ℕ) → 3 ≤ length xs → IsMark xs → IsMark (xs ++ ys)
mark_goes_on xs ys long (inl is) = let two : length xs ≡ 2 = ap length is in absurd (omega (arith, long, two))
mark_goes_on xs ys long (inr (after, is)) = inr (after ++ ys, ap (λ (t : List ℕ). t ++ ys) is)

mark_was : (xs ys : List ℕ) → 3 ≤ length xs → IsMark (xs ++ ys) → IsMark xs
mark_was [] ys long is = absurd (omega (arith, long))
mark_was (a ∷ []) ys long is = absurd (omega (arith, long))
mark_was (a ∷ b ∷ []) ys long is = absurd (omega (arith, long))
mark_was (a ∷ b ∷ c ∷ xs) ys long (inl is) =
    let two : length (a ∷ b ∷ c ∷ (xs ++ ys)) ≡ 2 = ap length is in absurd (omega (arith, two))
mark_was (a ∷ b ∷ c ∷ xs) ys long (inr (after, is)) = inr (xs, ap (λ (t : List ℕ). take 3 t ++ xs) is)

-- a mark that ends within a text, and the text with more after it
module _ (xs ys : List ℕ) (at : ℕ) (within : at + 3 ≤ length xs) where
  rest_is : drop at (xs ++ ys) ≡ drop at xs ++ ys
  rest_is = drop-append-le at xs ys (omega (arith, within))

  rest_long : 3 ≤ length (drop at xs)
  rest_long = let size = length-drop at xs in omega (arith, within, size)

  pub mark_in_more : IsMarkAt xs at → IsMarkAt (xs ++ ys) at
  mark_in_more mark = record {
    begins = elim mark.begins [
      | inl none ↦ inl none
      | inr feed ↦ inr (front xs ys (at - 1) (omega (arith, within)) ∙ feed)
    ];
    marks = subst IsMark (sym rest_is) (mark_goes_on (drop at xs) ys rest_long mark.marks);
  }

  pub mark_in_less : IsMarkAt (xs ++ ys) at → IsMarkAt xs at
  mark_in_less mark = record {
    begins = elim mark.begins [
      | inl none ↦ inl none
      | inr feed ↦ inr (sym (front xs ys (at - 1) (omega (arith, within))) ∙ feed)
    ];
    marks = mark_was (drop at xs) ys rest_long (subst IsMark rest_is mark.marks);
  }

-- one more byte, with which the text does not end in a mark
pub unmarked_more : (text : List ℕ) (b : ℕ) → IsUnmarked text → (EndsInMark (text ++ b ∷ []) → ⊥) → IsUnmarked (text ++ b ∷ [])
unmarked_more text b none other at within mark =
    let size = length-append text (b ∷ []) in
    elim (cases_lt (length text) (at + 3)) [
      | inl lt ↦ (
          let here : at ≡ length (text ++ b ∷ []) - 3 = omega (arith, size, lt, within) in
          other (omega (arith, within), subst (IsMarkAt (text ++ b ∷ [])) here mark))
      | inr le ↦ none at le (mark_in_less text (b ∷ []) at le mark)
    ]

-- ---- the parts

-- what is known of an input of which a first part was read
pub known : (o left : Option (List ℕ)) (text : List ℕ) (P : List ℕ → Type 0) → o ≡ prepended text left
    → ((after : List ℕ) → left ≡ Some after → P (text ++ after)) → IfSome o P
known o None text P is each = rw is tt
known o (Some after) text P is each = rw is (each after refl)

-- the text ends with a mark, and none ended in it before its last byte
pub ended_by_mark : (text : List ℕ) (b : ℕ) (part after : List ℕ) → IsUnmarked text → EndsInMark (text ++ b ∷ [])
    → part ≡ take (length (text ++ b ∷ []) - 3) (text ++ b ∷ []) → AreTwoParts ((text ++ b ∷ []) ++ after) part after
ended_by_mark text b part after none (long, mark) is =
    let whole = text ++ b ∷ [] in
    let at = length whole - 3 in
    let size = length-append text (b ∷ []) in
    let feed : at + 3 ≤ length whole = omega (arith, long) in
    inl (
      at,
      mark_in_more whole after at feed mark,
      λ k before marked.
          let within : k + 3 ≤ length text = omega (arith, before, size, long) in
          let inside : k + 3 ≤ length whole = omega (arith, within, size) in
          none k within (mark_in_less text (b ∷ []) k within (mark_in_less whole after k inside marked)),
      is ∙ sym (take-append-le at whole after (omega (arith, long))),
      sym (ap (λ n. drop n (whole ++ after)) (omega (arith, long))
          ∙ (drop-append-le (length whole) whole after (omega arith)
          ∙ ap (λ (t : List ℕ). t ++ after) (nothing_left whole (length whole) (omega arith)))),
    )

-- the text is the whole input, and no mark with a line feed is in it
pub ended : (text first rest part : List ℕ) → IsUnmarked text → AreTwoParts text first rest → part ≡ take (length first) text
    → AreTwoParts text part []
ended text first rest part none (inl (at, mark, before, first_is, rest_is)) is =
    let size = length-drop at text in
    let some : 0 < length (drop at text) = elim mark.marks [
      | inl e ↦ (let two : length (drop at text) ≡ 2 = ap length e in omega (arith, two))
      | inr (after, e) ↦ (let more : length (drop at text) ≡ suc (suc (suc (length after))) = ap length e in omega (arith, more))
    ] in
    let within : at ≤ length text = omega (arith, size, some) in
    let length_is : length first ≡ at = ap (λ (t : List ℕ). length t) first_is ∙ length-take-le at text within in
    let late : length text ≤ at + 3 = elim (cases_lt (length text) (at + 3)) [
      | inl lt ↦ omega (arith, lt)
      | inr le ↦ absurd (none at le mark)
    ] in
    inl (at, mark, before, is ∙ ap (λ n. take n text) length_is, sym (nothing_left text (at + 3) late))
ended text first rest part none (inr (first_is, rest_is, unmarked)) is =
    inr (is ∙ (ap (λ (t : List ℕ). take (length t) text) first_is ∙ take_all (length text) text (omega arith)), refl, unmarked)

-- the text has reached its limit, and one more byte comes
pub is_long : (text : List ℕ) (b : ℕ) (after : List ℕ) → IsUnmarked text → length text ≡ 4194304 → IsLong ((text ++ b ∷ []) ++ after)
is_long text b after none full =
    let size = length-append text (b ∷ []) in
    let sizes = length-append (text ++ b ∷ []) after in
    record {
      more = omega (arith, size, sizes, full);
      unmarked = λ at within mark.
          let inside : at + 3 ≤ length text = omega (arith, within, full) in
          let more : at + 3 ≤ length (text ++ b ∷ []) = omega (arith, inside, size) in
          none at inside (mark_in_less text (b ∷ []) at inside (mark_in_less (text ++ b ∷ []) after at more mark));
    }

-- ---- reading

-- the one byte of a buffer
one_taken : (buf : List ℕ) (n : ℕ) → length buf ≡ 1 → n ≡ 1 → take n buf ≡ get_or buf 0 0 ∷ []
one_taken [] n size one = absurd (omega (arith, size))
one_taken (x ∷ []) n size one = ap (λ k. take k (x ∷ [])) one
one_taken (x ∷ y ∷ ys) n size one = absurd (omega (arith, size))

-- one more byte is read
pub read_one : (old now new : Option (List ℕ)) (text buf : List ℕ) (n : ℕ) → old ≡ prepended text now → GivesNext now buf n
    → new ≡ dropped now n → length buf ≡ 1 → n ≤ length buf → (n ≡ 0 → ⊥) → old ≡ prepended (text ++ get_or buf 0 0 ∷ []) new
read_one old now new text buf n held given taken size within some =
    let one : n ≡ 1 = omega (arith, size, within, some) in
    next-bytes old now new text buf n held given taken
    ∙ ap (λ (more : List ℕ). prepended (text ++ more) new) (one_taken buf n size one)

-- nothing more comes
pub at_end : (now new : Option (List ℕ)) (buf after : List ℕ) (n : ℕ) → now ≡ Some after → new ≡ dropped now n → n ≡ 0
    → length buf ≡ 1 → (buf ≡ []) ⊎ IfSome now (λ bytes. bytes ≡ []) → (after ≡ []) × (new ≡ Some [])
at_end now new buf after n known taken zero' size (inl empty) =
    let none : length buf ≡ 0 = ap length empty in absurd (omega (arith, none, size))
at_end now new buf after n known taken zero' size (inr is) =
    let none : after ≡ [] = subst (λ (o : Option (List ℕ)). IfSome o (λ bytes. bytes ≡ [])) known is in (
      none,
      taken ∙ (ap (λ (o : Option (List ℕ)). dropped o n) known
          ∙ (ap (λ (k : ℕ). Some (drop k after)) zero' ∙ ap (λ (t : List ℕ). Some t) none)),
    )

-- one part and then another
pub two_then_two : (o mid last : Option (List ℕ)) (source lines : List ℕ)
    → IfSome o (λ bytes. (rest : List ℕ) × (mid ≡ Some rest) × AreTwoParts bytes source rest)
    → IfSome mid (λ bytes. (rest : List ℕ) × (last ≡ Some rest) × AreTwoParts bytes lines rest)
    → IfSome o (λ bytes. (commands : List ℕ) × (last ≡ Some commands) × AreThreeParts bytes source lines commands)
two_then_two None mid last source lines first second = tt
two_then_two (Some bytes) mid last source lines (rest, is, first) second =
    let next : (after : List ℕ) × (last ≡ Some after) × AreTwoParts rest lines after =
    subst (λ (o : Option (List ℕ)). IfSome o (λ bytes. (after : List ℕ) × (last ≡ Some after) × AreTwoParts bytes lines after)) is second in
    (next.0, next.1, (rest, first, next.2))

-- ---- if a read fails

-- what is said follows in another way too
pub says_weaker : (P Q : List ℕ → List ℕ → Type 0) → ((read text : List ℕ) → P read text → Q read text) → (o left old new : Option (List ℕ))
    → IfSome o (λ bytes. SaysBefore P bytes left old new) → IfSome o (λ bytes. SaysBefore Q bytes left old new)
says_weaker P Q f None left old new says = tt
says_weaker P Q f (Some bytes) left old new (read, text, to, follows, written) = (read, text, to, f read text follows, written)

-- of what is after the first part some first bytes are read: the first part, and these, are read of the
-- whole
pub first_of_two : (bytes part read rest : List ℕ) → AreTwoParts bytes part (read ++ rest)
    → (before : List ℕ) × (bytes ≡ before ++ rest) × AreTwoParts before part read
first_of_two bytes part read rest (inr (same, none, unmarked)) =
    let empty = nothing_behind read rest none in
    (bytes, sym (ap (λ (t : List ℕ). bytes ++ t) empty.1 ∙ append-nil bytes), inr (same, empty.0, unmarked))
first_of_two bytes part read rest (inl (at, mark, before, part_is, rest_is)) =
    let size = length-drop (at + 3) bytes in
    elim (cases_lt (length bytes) (at + 3)) [
      | inl lt ↦
          let none : read ++ rest ≡ [] = rest_is ∙ nothing_left bytes (at + 3) (omega (arith, lt)) in
          let empty = nothing_behind read rest none in (
            bytes,
            sym (ap (λ (t : List ℕ). bytes ++ t) empty.1 ∙ append-nil bytes),
            inl (
              at,
              mark,
              before,
              part_is,
              empty.0 ∙ sym (nothing_left bytes (at + 3) (omega (arith, lt))),
            ),
          )
      | inr le ↦
          let first = take (at + 3) bytes in
          let long : length first ≡ at + 3 = length-take-le (at + 3) bytes le in
          let whole : bytes ≡ (first ++ read) ++ rest =
          sym (take-append-drop (at + 3) bytes) ∙ (ap (λ (t : List ℕ). first ++ t) (sym rest_is) ∙ sym (append_assoc first read rest)) in
          let more = length-append first read in
          let within : at + 3 ≤ length (first ++ read) = omega (arith, long, more) in (
            first ++ read,
            whole,
            inl (
              at,
              mark_in_less (first ++ read) rest at within (subst (λ (t : List ℕ). IsMarkAt t at) whole mark),
              λ k under marked. before k under
                  (subst (λ (t : List ℕ). IsMarkAt t k) (sym whole) (mark_in_more (first ++ read) rest k (omega (arith, within, under)) marked)),
              part_is ∙ (ap (λ (t : List ℕ). take at t) whole
                  ∙ (ap (λ (t : List ℕ). take at t) (append_assoc first read rest)
                  ∙ (take-append-le at first (read ++ rest) (omega (arith, long))
                  ∙ sym (take-append-le at first read (omega (arith, long)))))),
              sym (drop-append-le (at + 3) first read (omega (arith, long))
                  ∙ ap (λ (t : List ℕ). t ++ read) (nothing_left first (at + 3) (omega (arith, long)))),
            ),
          )
    ]

-- the same of the first two parts, and of what is said after them
pub first_of_three : (bytes source lines commands : List ℕ) (left old new : Option (List ℕ)) (Follows Says : List ℕ → List ℕ → Type 0)
    → AreThreeParts bytes source lines commands → SaysBefore Follows commands left old new
    → ((all read text : List ℕ) → AreThreeParts all source lines read → Follows read text → Says all text)
    → SaysBefore Says bytes left old new
first_of_three bytes source lines commands left old new Follows Says (behind, first, second) (read, text, (rest, is, coming), follows, written) says =
    let then = first_of_two behind lines read rest (subst (λ (t : List ℕ). AreTwoParts behind lines t) is second) in
    let all = first_of_two bytes source then.0 rest (subst (λ (t : List ℕ). AreTwoParts bytes source t) then.1 first) in
    (all.0, text, (rest, all.1, coming), says all.0 read text (then.0, all.2, then.2) follows, written)

-- a read of the second part failed
pub early_in_second : (o mid last : Option (List ℕ)) (source : List ℕ)
    → IfSome o (λ bytes. (rest : List ℕ) × (mid ≡ Some rest) × AreTwoParts bytes source rest)
    → IfSome mid (λ bytes. (read : List ℕ) × IsReadTo bytes read last × IsUnmarked read)
    → IfSome o (λ bytes. (read : List ℕ) × IsReadTo bytes read last × IsEarly read)
early_in_second None mid last source first second = tt
early_in_second (Some bytes) mid last source (behind, is, first) second =
    let next : (read : List ℕ) × IsReadTo behind read last × IsUnmarked read =
    subst (λ (o : Option (List ℕ)). IfSome o (λ bytes. (read : List ℕ) × IsReadTo bytes read last × IsUnmarked read)) is second in
    let all = first_of_two bytes source next.0 next.1.0 (subst (λ (t : List ℕ). AreTwoParts bytes source t) next.1.1 first) in
    (all.0, (next.1.0, all.1, next.1.2), inr (source, next.0, all.2, next.2))

-- ---- how many bytes are taken

-- first some bytes, then others
pub takes_then : (old mid new : Option (List ℕ)) (k n most : ℕ) → LeavesRest old mid k → LeavesRest mid new n → k + n ≤ most
    → LeavesRest old new most
takes_then old mid None k n most (first, few, is) (second, less, next) enough =
    let size = length-append first second in
    (first ++ second, omega (arith, size, few, less, enough), is ∙ ap (prepended first) next)
takes_then old mid (Some left) k n most (first, few, is) (second, less, next) enough =
    let size = length-append first second in
    (first ++ second, omega (arith, size, few, less, enough), is ∙ (ap (prepended first) next ∙ ap (λ (t : List ℕ). Some t) (sym (append_assoc first second left))))

-- a text was read, and nothing more
pub takes_text : (old now new : Option (List ℕ)) (text : List ℕ) (most : ℕ) → old ≡ prepended text now → new ≡ now → length text ≤ most
    → LeavesRest old new most
takes_text old now new text most is same few = (text, few, is ∙ ap (prepended text) (sym same))

-- a read of no bytes leaves all
pub none_dropped : (now : Option (List ℕ)) (n : ℕ) → n ≡ 0 → dropped now n ≡ now
none_dropped None n none = refl
none_dropped (Some bytes) n none = ap (λ (k : ℕ). Some (drop k bytes)) none
