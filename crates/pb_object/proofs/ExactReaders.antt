-- Readers whose result rests only on the text up to the end of the line where they stop, and that stop only
-- where the lines before could go on.
use Rattle.std.proofs.Common.{◌≡◌, ◌⊎◌, inl, inr, ℕ, zero, suc, ◌+◌, ◌<◌, ◌≤◌, Bool, true, false, not, eqb, ltb, List}
use Rattle.std.proofs.Common.{[], ◌∷◌, ◌++◌, length, Some, None, Result, Ok, Err, refl, sym, ap, subst, ◌∙◌}
use Rattle.std.proofs.Common.{append_assoc, arith}
use Rattle.std.specs.List.{slice_split, join_with_byte, position, position_or_len, prefix_len, list_all}
use Rattle.std.proofs.lemmas.Bool.{eqb-true, le-ltb, lt-ltb}
use Rattle.std.proofs.lemmas.List.{take_at, drop_at, append-nil, length-append, nil_from_length}
use Rattle.pb_base.proofs.Cases.{both_true}
use Rattle.pb_code.specs.Names.{Word}
use Rattle.pb_object.specs.declared.fault.Fault.{Fault}
use Rattle.pb_object.specs.declared.fault.Fault.TheVariants.{Malformed, Beyond}
use Rattle.pb_object.specs.declared.words.Verdict.{Verdict}
use Rattle.pb_object.specs.declared.words.Verdict.TheVariants as verdict
use Rattle.pb_object.specs.FaultPlaces.{AreLines, is_one_line, words_of}
use Rattle.pb_object.specs.Renumbered.{IsOfForm}
use Rattle.pb_object.specs.Lines.{◌>>=◌, words_before, first_words, judged, line_by, many}
use Rattle.pb_object.proofs.LineKinds.{KeepsForm}
use Rattle.pb_object.proofs.LineLemmas.{bind_ok, ok_is, prefix_whole, no_end, split_again}
use Rattle.pb_object.proofs.Parts.{AreLine}

abbrev pub left_of : Fault → ℕ
left_of (Malformed n) = n
left_of (Beyond n) = n

abbrev pub Reader : Type 0 → Type 0
Reader X = List ℕ → Result (X × List ℕ) Fault

-- these bytes are read as x, whatever follows
abbrev pub Says : {X : Type 0} → Reader X → X → List ℕ → Type 0
Says part x said = (rest : List ℕ) → part (said ++ rest) ≡ Ok (x, rest)

-- something can be read
abbrev pub IsSayable : {X : Type 0} → Reader X → Type 0
IsSayable {X} part = (x : X) × (said : List ℕ) × Says part x said

pub record Found {X : Type 0} (part : Reader X) (text : List ℕ) (x : X) (rest : List ℕ) : Type 0 where
  pub said : List ℕ
  pub whole : text ≡ said ++ rest
  pub says : Says part x said
  pub lines : AreLines said

pub record Stopped {X : Type 0} (part : Reader X) (text : List ℕ) (f : Fault) : Type 0 where
  pub done : List ℕ
  pub rest : List ℕ
  pub whole : text ≡ done ++ rest
  pub left : left_of f ≡ length rest
  pub lines : AreLines done
  pub x : X
  pub more : List ℕ
  pub goes_on : Says part x (done ++ more)

-- A line beyond its range, with another one of its form that goes on.
pub record Ranged {X : Type 0} (part : Reader X) (text : List ℕ) (left : ℕ) : Type 0 where
  pub done : List ℕ
  pub line : List ℕ
  pub tail : List ℕ
  pub whole : text ≡ done ++ (line ++ 10 ∷ tail)
  pub size : left ≡ length (line ++ 10 ∷ tail)
  pub one : is_one_line line ≡ true
  pub other : List ℕ
  pub one_other : is_one_line other ≡ true
  pub of_form : IsOfForm (words_of other) (words_of line)
  pub x : X
  pub more : List ℕ
  pub says : Says part x (done ++ (other ++ 10 ∷ more))

-- no other line of the form of this one goes on here
abbrev pub HasNoForm : {X : Type 0} → Reader X → List ℕ → List ℕ → Type 0
HasNoForm {X} part done line =
    (other more : List ℕ) (x : X) (rest : List ℕ) → is_one_line other ≡ true → IsOfForm (words_of other) (words_of line)
    → part (done ++ (other ++ 10 ∷ more)) ≡ Ok (x, rest) → ⊥

pub record IsExact {X : Type 0} (part : Reader X) : Type 0 where
  pub finds : (text : List ℕ) (x : X) (rest : List ℕ) → part text ≡ Ok (x, rest) → Found part text x rest
  pub stops : (text : List ℕ) (f : Fault) → part text ≡ Err f → Stopped part text f
  pub stays : (done line tail other : List ℕ) (f : Fault) → part (done ++ (line ++ 10 ∷ tail)) ≡ Err f
      → left_of f ≡ length (line ++ 10 ∷ tail) → (g : Fault) × (part (done ++ (line ++ 10 ∷ other)) ≡ Err g)
  pub ranges : (text : List ℕ) (left : ℕ) → part text ≡ Err (Beyond left) → Ranged part text left
  pub forms : (done line tail : List ℕ) (left : ℕ) → part (done ++ (line ++ 10 ∷ tail)) ≡ Err (Malformed left)
      → left ≡ length (line ++ 10 ∷ tail) → is_one_line line ≡ true → HasNoForm part done line

pub lines_join : (a b : List ℕ) → AreLines a → AreLines b → AreLines (a ++ b)
lines_join a b (inl e) h = subst (λ (x : List ℕ). AreLines (x ++ b)) (sym e) h
lines_join a b (inr t) (inl e) = subst (λ (x : List ℕ). AreLines (a ++ x)) (sym e) (inr (t.0, append-nil a ∙ t.1))
lines_join a b (inr t) (inr u) = inr (a ++ u.0, ap (λ (x : List ℕ). a ++ x) u.1 ∙ sym (append_assoc a u.0 (10 ∷ [])))

-- ---- a line

cut_at : (b : ℕ) (text : List ℕ) (ends : Bool) → eqb b 10 ≡ ends
    → (list_all (λ b. not (eqb b 10)) text ≡ true) ⊎ ((l r : List ℕ) × (text ≡ l ++ 10 ∷ r) × (list_all (λ b. not (eqb b 10)) l ≡ true))
    → (list_all (λ b. not (eqb b 10)) (b ∷ text) ≡ true)
    ⊎ ((l r : List ℕ) × (b ∷ text ≡ l ++ 10 ∷ r) × (list_all (λ b. not (eqb b 10)) l ≡ true))
cut_at b text true e others = inr ([], text, ap (λ (x : ℕ). x ∷ text) (eqb-true b 10 e), refl)
cut_at b text false e (inl h) = inl (rw (e, h) refl)
cut_at b text false e (inr h) = inr (b ∷ h.0, h.1, ap (λ (t : List ℕ). b ∷ t) h.2, rw (e, h.3) refl)

-- the first line of a text, if it is ended
cut : (text : List ℕ) → (list_all (λ b. not (eqb b 10)) text ≡ true)
    ⊎ ((l r : List ℕ) × (text ≡ l ++ 10 ∷ r) × (list_all (λ b. not (eqb b 10)) l ≡ true))
cut [] = inl refl
cut (b ∷ text) = cut_at b text (eqb b 10) refl (cut text)

prefix_all : (text : List ℕ) → list_all (λ b. not (eqb b 10)) text ≡ true → prefix_len (λ b. not (eqb b 10)) text ≡ length text
prefix_all [] h = refl
prefix_all (b ∷ text) h =
    let s = both_true (not (eqb b 10)) (list_all (λ b. not (eqb b 10)) text) h in
    rw (s.0, prefix_all text s.1) (omega arith)

line_found : (l r : List ℕ) → list_all (λ b. not (eqb b 10)) l ≡ true → first_words (l ++ 10 ∷ r) ≡ Ok (slice_split (λ b. eqb b 32) l, r)
unfolding first_words
line_found l r clean =
    let at : position_or_len (λ b. eqb b 10) (l ++ 10 ∷ r) ≡ length l = prefix_whole l r clean in
    let below : ltb (length l) (length (l ++ 10 ∷ r)) ≡ true = lt-ltb _ _ (omega (arith, length-append l (10 ∷ r))) in
    let found : position (λ b. eqb b 10) (l ++ 10 ∷ r) ≡ Some (length l) = rw (at, below) refl in
    ap (words_before (l ++ 10 ∷ r)) found ∙ rw (take_at l (10 ∷ r) (length l) refl, drop_at l (10 ∷ r) (length l) refl) refl

line_lost : (text : List ℕ) → list_all (λ b. not (eqb b 10)) text ≡ true → first_words text ≡ Err (Malformed (length text))
unfolding first_words
line_lost text clean =
    let at : position_or_len (λ b. eqb b 10) text ≡ length text = prefix_all text clean in
    let below : ltb (length text) (length text) ≡ false = le-ltb _ _ (omega arith) in
    let found : position (λ b. eqb b 10) text ≡ None = rw (at, below) refl in
    ap (words_before text) found

-- what a line says once its words are judged
said_line : {X : Type 0} (form : List Word → Verdict X) (l r : List ℕ) → list_all (λ b. not (eqb b 10)) l ≡ true
    → line_by form (l ++ 10 ∷ r) ≡ (judged (length (l ++ 10 ∷ r)) (form (slice_split (λ b. eqb b 32) l)) >>= λ x. Ok (x, r))
unfolding line_by
said_line form l r clean = rw (line_found l r clean) refl

lost_line : {X : Type 0} (form : List Word → Verdict X) (text : List ℕ) → list_all (λ b. not (eqb b 10)) text ≡ true
    → line_by form text ≡ Err (Malformed (length text))
unfolding line_by
lost_line form text clean = rw (line_lost text clean) refl

abbrev pub fault : {A : Type 0} → Fault → Result A Fault
fault f = Err f

not_ok : {A : Type 0} (f : Fault) (x : A) → fault {A = A} f ≡ Ok x → ⊥
not_ok f x e = absurd cc

pub not_err : {A : Type 0} (x : A) (f : Fault) → Ok x ≡ fault {A = A} f → ⊥
not_err x f e = absurd cc

pub err_same : {A : Type 0} (f g : Fault) → fault {A = A} f ≡ fault {A = A} g → f ≡ g
err_same f g e = cc

-- the fault of a result is that of the same result
err_left : {A : Type 0} (f g : Fault) → fault {A = A} f ≡ Err g → left_of g ≡ left_of f
err_left {A} f g e = ap left_of (sym (err_same {A = A} f g e))

abbrev Judged : Type 0 → Type 0
Judged X = Result (X × List ℕ) Fault

abbrev judged_with : {X : Type 0} → ℕ → Verdict X → List ℕ → Judged X
judged_with n v r = judged n v >>= λ x. Ok (x, r)

judged_read : {X : Type 0} (n : ℕ) (v : Verdict X) (r : List ℕ) (x : X) (rest : List ℕ) → judged_with n v r ≡ Ok (x, rest)
    → (v ≡ verdict.Read x) × (r ≡ rest)
judged_read {X} n verdict.Malformed r x rest e = absurd cc
judged_read {X} n verdict.Beyond r x rest e = absurd cc
judged_read {X} n (verdict.Read y) r x rest e =
    let same = ok_is (y, r) (x, rest) e in
    (ap (λ (p : X × List ℕ). verdict.Read p.0) same, ap (λ (p : X × List ℕ). p.1) same)

judged_left : {X : Type 0} (n : ℕ) (v : Verdict X) (r : List ℕ) (f : Fault) → judged_with n v r ≡ Err f → left_of f ≡ n
judged_left {X} n verdict.Malformed r f e = err_left {A = X × List ℕ} (Malformed n) f e
judged_left {X} n verdict.Beyond r f e = err_left {A = X × List ℕ} (Beyond n) f e
judged_left {X} n (verdict.Read y) r f e = absurd cc

judged_again : {X : Type 0} (n m : ℕ) (v : Verdict X) (r s : List ℕ) (f : Fault) → judged_with n v r ≡ Err f
    → (g : Fault) × (judged_with m v s ≡ Err g)
judged_again n m verdict.Malformed r s f e = (Malformed m, refl)
judged_again n m verdict.Beyond r s f e = (Beyond m, refl)
judged_again n m (verdict.Read y) r s f e = absurd cc

line_left : {X : Type 0} (form : List Word → Verdict X) (text : List ℕ) (f : Fault) → line_by form text ≡ Err f → left_of f ≡ length text
line_left {X} form text f e =
    elim (cut text) [
      | inl clean ↦ err_left {A = X × List ℕ} (Malformed (length text)) f (sym (lost_line form text clean) ∙ e)
      | inr c ↦
          let same : line_by form text ≡ judged_with (length (c.0 ++ 10 ∷ c.1)) (form (slice_split (λ b. eqb b 32) c.0)) c.1 =
          ap (line_by form) c.2 ∙ said_line form c.0 c.1 c.3 in
          judged_left (length (c.0 ++ 10 ∷ c.1)) (form (slice_split (λ b. eqb b 32) c.0)) c.1 f (sym same ∙ e)
          ∙ ap (λ (t : List ℕ). length t) (sym c.2)
    ]

line_finds : {X : Type 0} (form : List Word → Verdict X) (text : List ℕ) (x : X) (rest : List ℕ) → line_by form text ≡ Ok (x, rest)
    → Found (line_by form) text x rest
line_finds {X} form text x rest e =
    elim (cut text) [
      | inl clean ↦ absurd (not_ok {A = X × List ℕ} (Malformed (length text)) (x, rest) (sym (lost_line form text clean) ∙ e))
      | inr c ↦
          let same : line_by form text ≡ judged_with (length (c.0 ++ 10 ∷ c.1)) (form (slice_split (λ b. eqb b 32) c.0)) c.1 =
          ap (line_by form) c.2 ∙ said_line form c.0 c.1 c.3 in
          let j = judged_read (length (c.0 ++ 10 ∷ c.1)) (form (slice_split (λ b. eqb b 32) c.0)) c.1 x rest (sym same ∙ e) in
          record {
            said = c.0 ++ 10 ∷ [];
            whole = c.2 ∙ ap (λ (r : List ℕ). c.0 ++ 10 ∷ r) j.1 ∙ sym (append_assoc c.0 (10 ∷ []) rest);
            says = λ other. ap (line_by form) (append_assoc c.0 (10 ∷ []) other) ∙ said_line form c.0 other c.3 ∙ rw j.0 refl;
            lines = inr (c.0, refl);
          }
    ]

regroup : (text l r tail : List ℕ) → text ≡ l ++ 10 ∷ r → text ++ 10 ∷ tail ≡ l ++ 10 ∷ (r ++ 10 ∷ tail)
regroup text l r tail e = ap (λ (t : List ℕ). t ++ 10 ∷ tail) e ∙ append_assoc l (10 ∷ r) (10 ∷ tail)

-- a line that is refused is refused whatever follows it
line_stays : {X : Type 0} (form : List Word → Verdict X) (text tail other : List ℕ) (f : Fault) → line_by form (text ++ 10 ∷ tail) ≡ Err f
    → (g : Fault) × (line_by form (text ++ 10 ∷ other) ≡ Err g)
line_stays {X} form text tail other f e =
    elim (cut text) [
      | inl clean ↦
          let words = slice_split (λ b. eqb b 32) text in
          let g = judged_again (length (text ++ 10 ∷ tail)) (length (text ++ 10 ∷ other)) (form words) tail other f
          (sym (said_line form text tail clean) ∙ e) in
          (g.0, said_line form text other clean ∙ g.1)
      | inr c ↦
          let words = slice_split (λ b. eqb b 32) c.0 in
          let one = regroup text c.0 c.1 tail c.2 in
          let two = regroup text c.0 c.1 other c.2 in
          let r = c.1 ++ 10 ∷ tail in
          let s = c.1 ++ 10 ∷ other in
          let g = judged_again (length (c.0 ++ 10 ∷ r)) (length (c.0 ++ 10 ∷ s)) (form words) r s f
          (sym (ap (line_by form) one ∙ said_line form c.0 r c.3) ∙ e) in
          (g.0, ap (line_by form) two ∙ said_line form c.0 s c.3 ∙ g.1)
    ]

judged_beyond : {X : Type 0} (n m : ℕ) (v : Verdict X) (r : List ℕ) → judged_with n v r ≡ Err (Beyond m) → (v ≡ verdict.Beyond) × (m ≡ n)
judged_beyond {X} n m verdict.Malformed r e = absurd (let f = err_same {A = X × List ℕ} (Malformed n) (Beyond m) e in cc)
judged_beyond {X} n m verdict.Beyond r e = (refl, err_left {A = X × List ℕ} (Beyond n) (Beyond m) e)
judged_beyond {X} n m (verdict.Read y) r e = absurd cc

judged_malformed : {X : Type 0} (n m : ℕ) (v : Verdict X) (r : List ℕ) → judged_with n v r ≡ Err (Malformed m) → v ≡ verdict.Malformed
judged_malformed {X} n m verdict.Malformed r e = refl
judged_malformed {X} n m verdict.Beyond r e = absurd (let f = err_same {A = X × List ℕ} (Beyond n) (Malformed m) e in cc)
judged_malformed {X} n m (verdict.Read y) r e = absurd cc

-- words that are a line are cut off again
line_again : (ws : List Word) → AreLine ws → (is_one_line (join_with_byte 32 ws) ≡ true) × (words_of (join_with_byte 32 ws) ≡ ws)
line_again [] h = absurd h
line_again (w ∷ ws) h = (no_end w ws h, split_again w ws h)

line_ranges : {X : Type 0} (form : List Word → Verdict X) → KeepsForm form → (text : List ℕ) (left : ℕ) → line_by form text ≡ Err (Beyond left)
    → Ranged (line_by form) text left
line_ranges {X} form keeps text left e =
    elim (cut text) [
      | inl clean ↦ absurd (let f = err_same {A = X × List ℕ} (Malformed (length text)) (Beyond left) (sym (lost_line form text clean) ∙ e) in cc)
      | inr c ↦
          let same : line_by form text ≡ judged_with (length (c.0 ++ 10 ∷ c.1)) (form (words_of c.0)) c.1 =
          ap (line_by form) c.2 ∙ said_line form c.0 c.1 c.3 in
          let j = judged_beyond (length (c.0 ++ 10 ∷ c.1)) left (form (words_of c.0)) c.1 (sym same ∙ e) in
          let t = keeps.beyond (words_of c.0) j.0 in
          let again = line_again t.1 t.3 in
          let other = join_with_byte 32 t.1 in
          record {
            done = [];
            line = c.0;
            tail = c.1;
            whole = c.2;
            size = j.1;
            one = c.3;
            other = other;
            one_other = again.0;
            of_form = subst (λ (ws : List Word). IsOfForm ws (words_of c.0)) (sym again.1) t.4;
            x = t.0;
            more = [];
            says = λ rest. ap (line_by form) (append_assoc other (10 ∷ []) rest) ∙ said_line form other rest again.0
                ∙ rw (again.1, t.2) refl;
          }
    ]

line_forms : {X : Type 0} (form : List Word → Verdict X) → KeepsForm form → (line tail : List ℕ) (left : ℕ)
    → line_by form (line ++ 10 ∷ tail) ≡ Err (Malformed left) → is_one_line line ≡ true
    → (other more : List ℕ) (x : X) (rest : List ℕ) → is_one_line other ≡ true → IsOfForm (words_of other) (words_of line)
    → line_by form (other ++ 10 ∷ more) ≡ Ok (x, rest) → ⊥
line_forms {X} form keeps line tail left e one other more x rest one_other of_form h =
    let bad = judged_malformed (length (line ++ 10 ∷ tail)) left (form (words_of line)) tail (sym (said_line form line tail one) ∙ e) in
    let good = judged_read (length (other ++ 10 ∷ more)) (form (words_of other)) more x rest (sym (said_line form other more one_other) ∙ h) in
    keeps.formed (words_of other) (words_of line) x good.0 of_form bad

pub line_exact : {X : Type 0} (form : List Word → Verdict X) → KeepsForm form → IsSayable (line_by form) → IsExact (line_by form)
line_exact form keeps sayable = record {
  finds = line_finds form;
  stops = λ text f e. record {
    done = [];
    rest = text;
    whole = refl;
    left = line_left form text f e;
    lines = inl refl;
    x = sayable.0;
    more = sayable.1;
    goes_on = sayable.2;
  };
  stays = λ done text tail other f e left.
      let all = line_left form (done ++ (text ++ 10 ∷ tail)) f e in
      let nothing : done ≡ [] = nil_from_length done (omega (arith, all, left, length-append done (text ++ 10 ∷ tail))) in
      let g = line_stays form text tail other f (ap (λ (d : List ℕ). line_by form (d ++ (text ++ 10 ∷ tail))) (sym nothing) ∙ e) in
      (g.0, ap (λ (d : List ℕ). line_by form (d ++ (text ++ 10 ∷ other))) nothing ∙ g.1);
  ranges = line_ranges form keeps;
  forms = λ done line tail left e size one other more x rest one_other of_form h.
      let all = line_left form (done ++ (line ++ 10 ∷ tail)) (Malformed left) e in
      let nothing : done ≡ [] = nil_from_length done (omega (arith, all, size, length-append done (line ++ 10 ∷ tail))) in
      line_forms form keeps line tail left (ap (λ (d : List ℕ). line_by form (d ++ (line ++ 10 ∷ tail))) (sym nothing) ∙ e) one
      other more x rest one_other of_form (ap (λ (d : List ℕ). line_by form (d ++ (other ++ 10 ∷ more))) (sym nothing) ∙ h);
}

-- ---- one part after the other

abbrev pub then_read : {X Y : Type 0} → Reader X → (X → Reader Y) → Reader Y
then_read first second text = first text >>= λ x. second x.0 x.1

pub both_say : {X Y : Type 0} (first : Reader X) (second : X → Reader Y) (x : X) (y : Y) (s t : List ℕ) → Says first x s
    → Says (second x) y t → Says (then_read first second) y (s ++ t)
both_say first second x y s t h k =
    λ rest. ap (then_read first second) (append_assoc s t rest) ∙ rw (h (t ++ rest)) (k rest)

pub then_sayable : {X Y : Type 0} (first : Reader X) (second : X → Reader Y) → IsSayable first
    → ((x : X) (s : List ℕ) → Says first x s → IsSayable (second x)) → IsSayable (then_read first second)
then_sayable first second h k =
    let b = k h.0 h.1 h.2 in
    (b.0, h.1 ++ b.1, both_say first second h.0 b.0 h.1 b.1 h.2 b.2)

pub bind_err : {A B : Type 0} (r : Result A Fault) (g : A → Result B Fault) (f : Fault) → (r >>= g) ≡ Err f
    → (r ≡ Err f) ⊎ ((x : A) × (r ≡ Ok x) × (g x ≡ Err f))
bind_err {A} {B} (Ok x) g f e = inr (x, refl, e)
bind_err {A} {B} (Err d) g f e = inl (ap (λ (x : Fault). fault {A = A} x) (err_same {A = B} d f e))

abbrev pub After : {X Y : Type 0} → Reader X → (X → Reader Y) → Type 0
After {X} first second = (x : X) (s : List ℕ) → Says first x s → IsExact (second x) × IsSayable (second x)

stops_first : {X Y : Type 0} (first : Reader X) (second : X → Reader Y) → IsExact first → After first second
    → (text : List ℕ) (f : Fault) → first text ≡ Err f → Stopped (then_read first second) text f
stops_first first second is after text f h =
    let a = is.stops text f h in
    let b = (after a.x (a.done ++ a.more) a.goes_on).1 in
    record {
      done = a.done;
      rest = a.rest;
      whole = a.whole;
      left = a.left;
      lines = a.lines;
      x = b.0;
      more = a.more ++ b.1;
      goes_on = subst (λ (s : List ℕ). Says (then_read first second) b.0 s) (append_assoc a.done a.more b.1)
          (both_say first second a.x b.0 (a.done ++ a.more) b.1 a.goes_on b.2);
    }

stops_second : {X Y : Type 0} (first : Reader X) (second : X → Reader Y) → IsExact first → After first second
    → (text : List ℕ) (f : Fault) (x : X) (after_x : List ℕ) → first text ≡ Ok (x, after_x) → second x after_x ≡ Err f
    → Stopped (then_read first second) text f
stops_second first second is after text f x after_x h k =
    let a = is.finds text x after_x h in
    let b = (after x a.said a.says).0.stops after_x f k in
    record {
      done = a.said ++ b.done;
      rest = b.rest;
      whole = a.whole ∙ ap (λ (t : List ℕ). a.said ++ t) b.whole ∙ sym (append_assoc a.said b.done b.rest);
      left = b.left;
      lines = lines_join a.said b.done a.lines b.lines;
      x = b.x;
      more = b.more;
      goes_on = subst (λ (s : List ℕ). Says (then_read first second) b.x s) (sym (append_assoc a.said b.done b.more))
          (both_say first second x b.x a.said (b.done ++ b.more) a.says b.goes_on);
    }

-- the ends of a text that are as long are the same
pub same_ends : (a b c d : List ℕ) → a ++ b ≡ c ++ d → length a ≡ length c → (a ≡ c) × (b ≡ d)
same_ends [] b [] d e h = (refl, e)
same_ends [] b (x ∷ c) d e h = absurd (omega (arith, h))
same_ends (y ∷ a) b [] d e h = absurd (omega (arith, h))
same_ends (y ∷ a) b (x ∷ c) d e h =
    let heads : (y ≡ x) × (a ++ b ≡ c ++ d) = (cc, cc) in
    let more = same_ends a b c d heads.1 (let k : suc (length a) ≡ suc (length c) = h in omega (arith, k)) in
    (ap (λ (z : ℕ). z ∷ a) heads.0 ∙ ap (λ (z : List ℕ). x ∷ z) more.0, more.1)

stays_second : {X Y : Type 0} (first : Reader X) (second : X → Reader Y) → IsExact first → After first second
    → (done text tail other : List ℕ) (f : Fault) → left_of f ≡ length (text ++ 10 ∷ tail)
    → (x : X) (after_x : List ℕ) → first (done ++ (text ++ 10 ∷ tail)) ≡ Ok (x, after_x) → second x after_x ≡ Err f
    → (g : Fault) × (then_read first second (done ++ (text ++ 10 ∷ other)) ≡ Err g)
stays_second first second is after done text tail other f left x after_x h k =
    let a = is.finds (done ++ (text ++ 10 ∷ tail)) x after_x h in
    let b = (after x a.said a.says).0.stops after_x f k in
    let whole : done ++ (text ++ 10 ∷ tail) ≡ (a.said ++ b.done) ++ b.rest =
    a.whole ∙ ap (λ (t : List ℕ). a.said ++ t) b.whole ∙ sym (append_assoc a.said b.done b.rest) in
    let long : length (text ++ 10 ∷ tail) ≡ length b.rest = sym left ∙ b.left in
    let even = ap (λ (t : List ℕ). length t) whole in
    let ends = same_ends done (text ++ 10 ∷ tail) (a.said ++ b.done) b.rest whole
    (omega (arith, long, even, length-append done (text ++ 10 ∷ tail), length-append (a.said ++ b.done) b.rest)) in
    let here : after_x ≡ b.done ++ (text ++ 10 ∷ tail) = b.whole ∙ ap (λ (t : List ℕ). b.done ++ t) (sym ends.1) in
    let g = (after x a.said a.says).0.stays b.done text tail other f (ap (second x) (sym here) ∙ k) left in
    let moved : done ++ (text ++ 10 ∷ other) ≡ a.said ++ (b.done ++ (text ++ 10 ∷ other)) =
    ap (λ (t : List ℕ). t ++ (text ++ 10 ∷ other)) ends.0 ∙ append_assoc a.said b.done (text ++ 10 ∷ other) in
    (g.0, ap (then_read first second) moved ∙ rw (a.says (b.done ++ (text ++ 10 ∷ other))) g.1)

then_ranges : {X Y : Type 0} (first : Reader X) (second : X → Reader Y) → IsExact first → After first second
    → (text : List ℕ) (left : ℕ) → (first text ≡ Err (Beyond left)) ⊎ ((x : X × List ℕ) × (first text ≡ Ok x) × (second x.0 x.1 ≡ Err (Beyond left)))
    → Ranged (then_read first second) text left
then_ranges first second is after text left (inl h) =
    let a = is.ranges text left h in
    let b = (after a.x (a.done ++ (a.other ++ 10 ∷ a.more)) a.says).1 in
    let regrouped : (a.done ++ (a.other ++ 10 ∷ a.more)) ++ b.1 ≡ a.done ++ (a.other ++ 10 ∷ (a.more ++ b.1)) =
    append_assoc a.done (a.other ++ 10 ∷ a.more) b.1 ∙ ap (λ (t : List ℕ). a.done ++ t) (append_assoc a.other (10 ∷ a.more) b.1) in
    record {
      done = a.done;
      line = a.line;
      tail = a.tail;
      whole = a.whole;
      size = a.size;
      one = a.one;
      other = a.other;
      one_other = a.one_other;
      of_form = a.of_form;
      x = b.0;
      more = a.more ++ b.1;
      says = subst (λ (s : List ℕ). Says (then_read first second) b.0 s) regrouped
          (both_say first second a.x b.0 (a.done ++ (a.other ++ 10 ∷ a.more)) b.1 a.says b.2);
    }
then_ranges first second is after text left (inr h) =
    let a = is.finds text h.0.0 h.0.1 h.1 in
    let b = (after h.0.0 a.said a.says).0.ranges h.0.1 left h.2 in
    record {
      done = a.said ++ b.done;
      line = b.line;
      tail = b.tail;
      whole = a.whole ∙ ap (λ (t : List ℕ). a.said ++ t) b.whole ∙ sym (append_assoc a.said b.done (b.line ++ 10 ∷ b.tail));
      size = b.size;
      one = b.one;
      other = b.other;
      one_other = b.one_other;
      of_form = b.of_form;
      x = b.x;
      more = b.more;
      says = subst (λ (s : List ℕ). Says (then_read first second) b.x s) (sym (append_assoc a.said b.done (b.other ++ 10 ∷ b.more)))
          (both_say first second h.0.0 b.x a.said (b.done ++ (b.other ++ 10 ∷ b.more)) a.says b.says);
    }

then_forms : {X Y : Type 0} (first : Reader X) (second : X → Reader Y) → IsExact first → After first second
    → (done line tail : List ℕ) (left : ℕ)
    → (first (done ++ (line ++ 10 ∷ tail)) ≡ Err (Malformed left)) ⊎ ((x : X × List ℕ) × (first (done ++ (line ++ 10 ∷ tail)) ≡ Ok x) × (second x.0 x.1 ≡ Err (Malformed left)))
    → left ≡ length (line ++ 10 ∷ tail) → is_one_line line ≡ true → HasNoForm (then_read first second) done line
then_forms first second is after done line tail left (inl h) size one other more y rest one_other of_form e =
    let p = bind_ok (first (done ++ (other ++ 10 ∷ more))) (λ x. second x.0 x.1) (y, rest) e in
    is.forms done line tail left h size one other more p.0.0 p.0.1 one_other of_form p.1
then_forms first second is after done line tail left (inr h) size one other more y rest one_other of_form e =
    let a = is.finds (done ++ (line ++ 10 ∷ tail)) h.0.0 h.0.1 h.1 in
    let next = (after h.0.0 a.said a.says).0 in
    let b = next.stops h.0.1 (Malformed left) h.2 in
    let whole : done ++ (line ++ 10 ∷ tail) ≡ (a.said ++ b.done) ++ b.rest =
    a.whole ∙ ap (λ (t : List ℕ). a.said ++ t) b.whole ∙ sym (append_assoc a.said b.done b.rest) in
    let long : length (line ++ 10 ∷ tail) ≡ length b.rest = sym size ∙ b.left in
    let even = ap (λ (t : List ℕ). length t) whole in
    let ends = same_ends done (line ++ 10 ∷ tail) (a.said ++ b.done) b.rest whole
    (omega (arith, long, even, length-append done (line ++ 10 ∷ tail), length-append (a.said ++ b.done) b.rest)) in
    let here : h.0.1 ≡ b.done ++ (line ++ 10 ∷ tail) = b.whole ∙ ap (λ (t : List ℕ). b.done ++ t) (sym ends.1) in
    let moved : done ++ (other ++ 10 ∷ more) ≡ a.said ++ (b.done ++ (other ++ 10 ∷ more)) =
    ap (λ (t : List ℕ). t ++ (other ++ 10 ∷ more)) ends.0 ∙ append_assoc a.said b.done (other ++ 10 ∷ more) in
    let read : second h.0.0 (b.done ++ (other ++ 10 ∷ more)) ≡ Ok (y, rest) =
    sym (ap (λ (r : Result (_ × List ℕ) Fault). r >>= λ x. second x.0 x.1) (a.says (b.done ++ (other ++ 10 ∷ more)))) ∙ sym (ap (then_read first second) moved) ∙ e in
    next.forms b.done line tail left (ap (second h.0.0) (sym here) ∙ h.2) size one other more y rest one_other of_form read

pub then_exact : {X Y : Type 0} (first : Reader X) (second : X → Reader Y) → IsExact first
    → After first second → IsExact (then_read first second)
then_exact {X} {Y} first second is after = record {
  finds = λ text y rest e.
      let p = bind_ok (first text) (λ x. second x.0 x.1) (y, rest) e in
      let a = is.finds text p.0.0 p.0.1 p.1 in
      let b = (after p.0.0 a.said a.says).0.finds p.0.1 y rest p.2 in
      record {
        said = a.said ++ b.said;
        whole = a.whole ∙ ap (λ (t : List ℕ). a.said ++ t) b.whole ∙ sym (append_assoc a.said b.said rest);
        says = both_say first second p.0.0 y a.said b.said a.says b.says;
        lines = lines_join a.said b.said a.lines b.lines;
      };
  stops = λ text f e.
      elim (bind_err (first text) (λ x. second x.0 x.1) f e) [
        | inl h ↦ stops_first first second is after text f h
        | inr h ↦ stops_second first second is after text f h.0.0 h.0.1 h.1 h.2
      ];
  stays = λ done text tail other f e left.
      elim (bind_err (first (done ++ (text ++ 10 ∷ tail))) (λ x. second x.0 x.1) f e) [
        | inl h ↦ let g = is.stays done text tail other f h left in (g.0, rw g.1 refl)
        | inr h ↦ stays_second first second is after done text tail other f left h.0.0 h.0.1 h.1 h.2
      ];
  ranges = λ text left e. then_ranges first second is after text left (bind_err (first text) (λ x. second x.0 x.1) (Beyond left) e);
  forms = λ done line tail left e.
      then_forms first second is after done line tail left (bind_err (first (done ++ (line ++ 10 ∷ tail))) (λ x. second x.0 x.1) (Malformed left) e);
}

-- ---- nothing more

abbrev pub read_all : {X : Type 0} → X → Reader X
read_all v text = Ok (v, text)

end_found : {X : Type 0} (v : X) (text : List ℕ) (x : X) (rest : List ℕ) → read_all v text ≡ Ok (x, rest)
    → Found (read_all v) text x rest
end_found {X} v text x rest e =
    let same = ok_is (v, text) (x, rest) e in
    let value : v ≡ x = ap (λ (y : X × List ℕ). y.0) same in
    record {
      said = [];
      whole = ap (λ (y : X × List ℕ). y.1) same;
      says = λ other. ap (λ (y : X). Ok (y, other)) value;
      lines = inl refl;
    }

pub end_exact : {X : Type 0} (v : X) → IsExact (read_all v)
end_exact {X} v = record {
  finds = λ text x rest e. end_found v text x rest e;
  stops = λ text f e. absurd (not_err {A = X × List ℕ} (v, text) f e);
  stays = λ done text tail other f e left. absurd (not_err {A = X × List ℕ} (v, done ++ (text ++ 10 ∷ tail)) f e);
  ranges = λ text left e. absurd (not_err {A = X × List ℕ} (v, text) (Beyond left) e);
  forms = λ done line tail left e. absurd (not_err {A = X × List ℕ} (v, done ++ (line ++ 10 ∷ tail)) (Malformed left) e);
}

pub end_sayable : {X : Type 0} (v : X) → IsSayable (read_all v)
end_sayable v = (v, [], λ rest. refl)

-- ---- parts in a row

pub many_exact : {X : Type 0} (part : List X → Reader X) (most : ℕ)
    → ((earlier : List X) → length earlier < most → IsExact (part earlier) × IsSayable (part earlier))
    → (n : ℕ) (earlier : List X) → length earlier + n ≤ most → IsExact (many part earlier n) × IsSayable (many part earlier n)
unfolding many
many_exact {X} part most each zero earlier few = (end_exact earlier, end_sayable earlier)
many_exact {X} part most each (suc n) earlier few =
    let one = each earlier (omega (arith, few)) in
    let others : (x : X) → IsExact (many part (earlier ++ x ∷ []) n) × IsSayable (many part (earlier ++ x ∷ []) n) =
    λ x. many_exact part most each n (earlier ++ x ∷ []) (omega (arith, few, length-append earlier (x ∷ []))) in (
      then_exact (part earlier) (λ x. many part (earlier ++ x ∷ []) n) one.0 (λ x s says. others x),
      then_sayable (part earlier) (λ x. many part (earlier ++ x ∷ []) n) one.1 (λ x s says. (others x).1),
    )
