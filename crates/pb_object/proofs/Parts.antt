-- A part of the text that is read is the part that was written, and what was written is read again.
use Rattle.std.proofs.Common.{◌≡◌, ℕ, zero, suc, List, [], ◌∷◌, ◌++◌, length, Result, Ok, refl, sym, ap, subst, ◌∙◌}
use Rattle.std.proofs.Common.{append_assoc}
use Rattle.std.specs.List.{flat_map}
use Rattle.std.proofs.lemmas.List.{append-nil}
use Rattle.std.proofs.lemmas.List.Concat.{flat_map-cons}
use Rattle.pb_object.specs.declared.words.Verdict.{Verdict}
use Rattle.pb_object.specs.declared.words.Verdict.TheVariants as verdict
use Rattle.pb_object.specs.declared.fault.Fault.{Fault}
use Rattle.pb_code.specs.Names.{Word}
use Rattle.pb_object.specs.Lines.{line_text, ◌>>=◌, first_words, judged, line_by, many}
use Rattle.pb_object.specs.Ranges.{Each}
use Rattle.pb_object.proofs.LineLemmas.{AreWords, bind_ok, ok_is, first_line_takes, first_line_again}

-- one word or more
abbrev pub AreLine : List Word → Type 0
AreLine [] = ⊥
AreLine (w ∷ ws) = AreWords (w ∷ ws)

-- a kind of line: the form reads just the words of the good values
pub record IsForm {X : Type 0} (form : List Word → Verdict X) (words : X → List Word) (Good : X → Type 0) : Type 0 where
  pub takes : (ws : List Word) (x : X) → form ws ≡ verdict.Read x → (ws ≡ words x) × Good x
  pub again : (x : X) → Good x → form (words x) ≡ verdict.Read x
  pub clean : (x : X) → Good x → AreLine (words x)

-- a kind of part: just the texts of the good values are read, whatever follows
pub record IsPart {X : Type 0} (part : List ℕ → Result (X × List ℕ) Fault) (text : X → List ℕ) (Good : X → Type 0) : Type 0 where
  pub takes : (bytes : List ℕ) (x : X) (rest : List ℕ) → part bytes ≡ Ok (x, rest) → (bytes ≡ text x ++ rest) × Good x
  pub again : (x : X) (rest : List ℕ) → Good x → part (text x ++ rest) ≡ Ok (x, rest)

judged_ok : {X : Type 0} (left : ℕ) (v : Verdict X) (x : X) → judged left v ≡ Ok x → v ≡ verdict.Read x
judged_ok left verdict.Malformed x e = absurd cc
judged_ok left verdict.Beyond x e = absurd cc
judged_ok left (verdict.Read y) x e = cc

first_again : (ws : List Word) (rest : List ℕ) → AreLine ws → first_words (line_text ws ++ rest) ≡ Ok (ws, rest)
first_again [] rest h = absurd h
first_again (w ∷ ws) rest h = first_line_again w ws rest h

pub line_is : {X : Type 0} (form : List Word → Verdict X) (words : X → List Word) (Good : X → Type 0) → IsForm form
    words Good → IsPart (line_by form) (λ x. line_text (words x)) Good
unfolding line_by
line_is form words Good f = record {
  takes = λ bytes x rest e.
      let a = bind_ok (first_words bytes) (λ ws. judged (length bytes) (form ws.0) >>= λ y. Ok (y, ws.1)) (x, rest) e in
      let b = bind_ok (judged (length bytes) (form a.0.0)) (λ y. Ok (y, a.0.1)) (x, rest) a.2 in
      let said = f.takes a.0.0 b.0 (judged_ok (length bytes) (form a.0.0) b.0 b.1) in
      let whole : bytes ≡ line_text (words b.0) ++ a.0.1 = first_line_takes bytes a.0 a.1 ∙ ap (λ (ws : List Word). line_text ws ++ a.0.1) said.0 in
      subst (λ (y : _ × List ℕ). (bytes ≡ line_text (words y.0) ++ y.1) × Good y.0) (ok_is (b.0, a.0.1) (x, rest) b.2) (whole, said.1);
  again = λ x rest good. rw (first_again (words x) rest (f.clean x good), f.again x good) refl;
}

-- ---- parts in a row

pub record Taken {X : Type 0} (text : X → List ℕ) (Good : List X → X → Type 0) (earlier : List X) (n : ℕ) (bytes :
    List ℕ) (ys : List X) (rest : List ℕ) : Type 0 where
  pub xs : List X
  pub all : ys ≡ earlier ++ xs
  pub count : length xs ≡ n
  pub parts : bytes ≡ flat_map text xs ++ rest
  pub good : Each Good earlier xs

pub many_takes : {X : Type 0} (part : List X → List ℕ → Result (X × List ℕ) Fault) (text : X → List ℕ) (Good : List X
    → X → Type 0) → ((earlier : List X) → IsPart (part earlier) text (Good earlier))
    → (n : ℕ) (earlier : List X) (bytes : List ℕ) (ys : List X) (rest : List ℕ) → many part earlier n bytes ≡ Ok (
      ys,
      rest,
    ) → Taken text Good earlier n bytes ys rest
unfolding many
many_takes {X} part text Good is zero earlier bytes ys rest e =
    subst (λ (y : List X × List ℕ). Taken text Good earlier 0 bytes y.0 y.1) (ok_is (earlier, bytes) (ys, rest) e)
    (record { xs = []; all = sym (append-nil earlier); count = refl; parts = refl; good = tt })
many_takes {X} part text Good is (suc n) earlier bytes ys rest e =
    let a = bind_ok (part earlier bytes) (λ x. many part (earlier ++ x.0 ∷ []) n x.1) (ys, rest) e in
    let first = (is earlier).takes bytes a.0.0 a.0.1 a.1 in
    let more = many_takes part text Good is n (earlier ++ a.0.0 ∷ []) a.0.1 ys rest a.2 in
    record {
      xs = a.0.0 ∷ more.xs;
      all = more.all ∙ append_assoc earlier (a.0.0 ∷ []) more.xs;
      count = ap suc more.count;
      parts = first.0 ∙ ap (λ (r : List ℕ). text a.0.0 ++ r) more.parts ∙ sym (append_assoc (text a.0.0) (flat_map
          text more.xs) rest) ∙ ap (λ (t : List ℕ). t ++ rest) (sym (flat_map-cons text a.0.0 more.xs));
      good = (first.1, more.good);
    }

pub many_again : {X : Type 0} (part : List X → List ℕ → Result (X × List ℕ) Fault) (text : X → List ℕ) (Good : List X
    → X → Type 0) → ((earlier : List X) → IsPart (part earlier) text (Good earlier))
    → (xs earlier : List X) (rest : List ℕ) → Each Good earlier xs → many part earlier (length xs) (flat_map text xs ++ rest) ≡ Ok (earlier ++ xs, rest)
unfolding many
many_again {X} part text Good is [] earlier rest good = ap (λ (ys : List X). Ok (ys, rest)) (sym (append-nil earlier))
many_again {X} part text Good is (x ∷ xs) earlier rest good =
    let regrouped : flat_map text (x ∷ xs) ++ rest ≡ text x ++ (flat_map text xs ++ rest) = ap (λ (t : List ℕ). t ++
    rest) (flat_map-cons text x xs) ∙ append_assoc (text x) (flat_map text xs) rest in
    ap (many part earlier (suc (length xs))) regrouped
    ∙ rw (
      (is earlier).again x (flat_map text xs ++ rest) good.0,
      many_again part text Good is xs (earlier ++ x ∷ [])
          rest good.1,
    ) (ap (λ (ys : List X). Ok (ys, rest)) (append_assoc earlier (x ∷ []) xs))

-- n parts are a part
pub many_is : {X : Type 0} (part : List X → List ℕ → Result (X × List ℕ) Fault) (text : X → List ℕ) (Good : List X → X
    → Type 0) → ((earlier : List X) → IsPart (part earlier) text (Good earlier))
    → (n : ℕ) → IsPart (many part [] n) (flat_map text) (λ xs. (length xs ≡ n) × Each Good [] xs)
many_is {X} part text Good is n = record {
  takes = λ bytes ys rest e.
      let t = many_takes part text Good is n [] bytes ys rest e in
      subst (λ (zs : List X). (bytes ≡ flat_map text zs ++ rest) × ((length zs ≡ n) × Each Good [] zs)) (sym t.all) (t.parts, (t.count, t.good));
  again = λ xs rest good. subst (λ (k : ℕ). many part [] k (flat_map text xs ++ rest) ≡ Ok (xs, rest)) good.0 (many_again part text Good is xs [] rest good.1);
}
