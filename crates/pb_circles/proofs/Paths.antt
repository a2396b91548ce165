-- A path of links, and the circle at its end.
use Rattle.std.proofs.Common.{◌≡◌, ◌⊎◌, inl, inr, ⊎_elim, ℕ, zero, suc, ◌+◌, ◌-◌, ◌≤◌, List, [], ◌∷◌, ◌++◌, length}
use Rattle.std.proofs.Common.{drop, Some, None, refl, sym, ap, ◌∙◌, subst, arith}
use Rattle.std.specs.Prelude.{slice_get, remove}
use Rattle.std.proofs.lemmas.Bool.{cases_eq}
use Rattle.std.proofs.lemmas.List.{length-drop, length-append}
use Rattle.std.proofs.lemmas.List.Edits.{length-remove}
use Rattle.std.proofs.lemmas.List.Elements.{All-nil, All-push, All-drop}
use Rattle.std.proofs.lemmas.Option.{slice_get_within}
use Rattle.pb_base.proofs.Lists.{get_left}
use Rattle.pb_base.specs.Steppers.{State}
use Rattle.pb_code.specs.Code.{CodeProcess}
use Rattle.pb_code.specs.Whole.{Code}
use Rattle.pb_circles.specs.Circles.{IsCircle, IsPath, IsOnPath}
use Rattle.pb_circles.specs.Links.{IsAmong, IsLink}
use Rattle.pb_circles.specs.declared.link.Link.{Link}
use Rattle.pb_circles.proofs.Lists.{among_removed, pushed, at_end, get_dropped}

module _ (Good : Link → Type 0) where
  pub path_start : (at : ℕ) → IsPath Good [] at
  path_start at = record {
    each = All-nil Good;
    next = λ k link next h i. absurd cc;
    last = λ link h. absurd cc;
    once = λ i k link other h j e. absurd cc;
  }

  pub path_more : (path : List Link) (at : ℕ) (link : Link) → IsPath Good path at → Good link → link.process ≡ at → (IsOnPath path at → ⊥)
      → IsPath Good (path ++ link ∷ []) link.holder
  path_more path at link is good from new = record {
    each = All-push Good path link is.each good;
    next = λ k one two h i. ⊎_elim
        (λ b. ⊎_elim
        (λ a. is.next k one two a b)
        (λ a. let w = slice_get_within path (k + 1) two b in let e = a.0 in absurd (omega (arith, w, e)))
        (pushed path link one k h))
        (λ b. ⊎_elim
        (λ a.
        let k' : k ≡ length path - 1 = (let e = b.0 in omega (arith, e)) in
        is.last one (subst (λ (j : ℕ). slice_get path j ≡ Some one) k' a) ∙ (sym from ∙ ap (λ (l : Link). l.process) b.1))
        (λ a. let e = a.0 in let f = b.0 in absurd (omega (arith, e, f)))
        (pushed path link one k h))
        (pushed path link two (k + 1) i);
    last = λ one h. ⊎_elim
        (λ a.
        let w = slice_get_within path (length (path ++ link ∷ []) - 1) one a in
        let n : length (path ++ link ∷ []) ≡ length path + 1 = length-append path (link ∷ []) in
        absurd (omega (arith, w, n)))
        (λ b. ap (λ (l : Link). l.holder) (sym b.1))
        (pushed path link one (length (path ++ link ∷ []) - 1) h);
    once = λ i k one two h j e. ⊎_elim
        (λ a. ⊎_elim
        (λ b. is.once i k one two a b e)
        (λ b. absurd (new (i, one, a, e ∙ (ap (λ (l : Link). l.process) (sym b.1) ∙ from))))
        (pushed path link two k j))
        (λ a. ⊎_elim
        (λ b. absurd (new (k, two, b, sym e ∙ (ap (λ (l : Link). l.process) (sym a.1) ∙ from))))
        (λ b. a.0 ∙ sym b.0)
        (pushed path link two k j))
        (pushed path link one i h);
  }

-- the end of a path, from the link of the process for which the last one waits
pub circle_at : (code : Code) (s : State CodeProcess) (path : List Link) (at k : ℕ) (first : Link) → IsPath (IsLink code s) path at
    → slice_get path k ≡ Some first → first.process ≡ at → IsCircle code s (drop k path)
circle_at code s path at k first is there back =
    let w = slice_get_within path k first there in
    let n = length-drop k path in
    record {
      some = omega (arith, w, n);
      each = All-drop (IsLink code s) k path is.each;
      next = λ i link next h j.
          let e : k + (i + 1) ≡ (k + i) + 1 = omega arith in
          is.next (k + i) link next (sym (get_dropped k path i) ∙ h)
          (ap (slice_get path) (sym e) ∙ (sym (get_dropped k path (i + 1)) ∙ j));
      last = λ link head h j.
          let e : k + (length (drop k path) - 1) ≡ length path - 1 = omega (arith, w, n) in
          let z : k + 0 ≡ k = omega arith in
          let same : Some first ≡ Some head = sym there ∙ (ap (slice_get path) (sym z) ∙ (sym (get_dropped k path 0) ∙ j)) in
          let one : first ≡ head = cc in
          is.last link (ap (slice_get path) (sym e) ∙ (sym (get_dropped k path (length (drop k path) - 1)) ∙ h))
          ∙ (sym back ∙ ap (λ (l : Link). l.process) one);
      once = λ i j link other h g e.
          let same : k + i ≡ k + j = is.once (k + i) (k + j) link other (sym (get_dropped k path i) ∙ h) (sym (get_dropped k path j) ∙ g) e in
          omega (arith, same);
    }

-- whoever is left or on the path stays so if the process at which it is goes from one to the other
pub cover_more : (rest : List ℕ) (path : List Link) (link : Link) (i at q : ℕ) → slice_get rest i ≡ Some at → link.process ≡ at
    → IsAmong rest q ⊎ IsOnPath path q → IsAmong (remove rest i) q ⊎ IsOnPath (path ++ link ∷ []) q
cover_more rest path link i at q there from (inl left) =
    ⊎_elim (λ same. inr (length path, link, at_end path link, from ∙ sym same)) (λ ne. inl (among_removed rest i at q there left ne)) (cases_eq q at)
cover_more rest path link i at q there from (inr on) = inr (on.0, on.1, get_left path (link ∷ []) on.0 on.1 on.2, on.3)

-- whether a process is on a path
pub on_or_not : (path : List Link) (p : ℕ) → IsOnPath path p ⊎ (IsOnPath path p → ⊥)
on_or_not [] p = inr (λ on. let e : None ≡ Some on.1 = on.2 in absurd cc)
on_or_not (link ∷ path) p = ⊎_elim
    (λ e. inl (0, link, refl, e))
    (λ ne. ⊎_elim (λ on. inl (suc on.0, on.1, on.2, on.3)) (λ none. inr (λ on. later ne none on.0 on.1 on.2 on.3)) (on_or_not path p))
    (cases_eq link.process p)
  where
    later : (link.process ≡ p → ⊥) → (IsOnPath path p → ⊥) → (k : ℕ) (other : Link) → slice_get (link ∷ path) k ≡ Some other → other.process ≡ p → ⊥
    later ne none zero other h e = let same : link ≡ other = cc in ne (ap (λ (l : Link). l.process) same ∙ e)
    later ne none (suc k) other h e = none (k, other, h, e)

-- processes each of which waits for one of them: some wait in a circle
module _ (code : Code) (s : State CodeProcess) (In : ℕ → Type 0)
    (follow : (p : ℕ) → In p → (link : Link) × IsLink code s link × (link.process ≡ p) × In link.holder) where
  abbrev Circle : Type 0
  Circle = (circle : List Link) × IsCircle code s circle

  abbrev Covers : List ℕ → List Link → Type 0
  Covers rest path = (q : ℕ) → In q → IsAmong rest q ⊎ IsOnPath path q

  pub walk : (fuel : ℕ) (rest : List ℕ) (path : List Link) (at : ℕ) → length rest ≤ fuel → IsPath (IsLink code s) path at → In at → Covers rest path → Circle
  walk zero rest path at few is there covers = ⊎_elim
      (λ on. (drop on.0 path, circle_at code s path at on.0 on.1 is on.2 on.3))
      (λ new. ⊎_elim
      (λ left. let w = slice_get_within rest left.0 at left.1 in absurd (omega (arith, w, few)))
      (λ on. absurd (new on))
      (covers at there))
      (on_or_not path at)
  walk (suc fuel) rest path at few is there covers = ⊎_elim
      (λ on. (drop on.0 path, circle_at code s path at on.0 on.1 is on.2 on.3))
      (λ new. ⊎_elim
      (λ left.
      let w = slice_get_within rest left.0 at left.1 in
      let l = length-remove rest left.0 w in
      let f = follow at there in
      walk fuel (remove rest left.0) (path ++ f.0 ∷ []) f.0.holder (omega (arith, l, few))
      (path_more (IsLink code s) path at f.0 is f.1 f.2 new) f.3
      (λ q in'. cover_more rest path f.0 left.0 at q left.1 f.2 (covers q in')))
      (λ on. absurd (new on))
      (covers at there))
      (on_or_not path at)
