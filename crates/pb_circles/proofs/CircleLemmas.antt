-- No process of a circle is taken out as long as one is taken out that waits for none of those left.
use Rattle.std.proofs.Common.{◌≡◌, ⊎_elim, ℕ, ◌+◌, ◌-◌, ◌<◌, List, length, Some, sym, subst, arith}
use Rattle.std.specs.Prelude.{slice_get, remove}
use Rattle.std.proofs.lemmas.Bool.{cases_lt}
use Rattle.std.proofs.lemmas.Option.{slice_get_within}
use Rattle.pb_base.proofs.Lists.{all_at, get_some}
use Rattle.pb_base.specs.Steppers.{State}
use Rattle.pb_code.specs.Code.{CodeProcess}
use Rattle.pb_code.specs.Whole.{Code}
use Rattle.pb_circles.specs.Circles.{IsCircle, IsFreeAt}
use Rattle.pb_circles.specs.Links.{IsAmong, IsLink}
use Rattle.pb_circles.specs.declared.link.Link.{Link}
use Rattle.pb_circles.proofs.Lists.{among_removed}

module _ (code : Code) (s : State CodeProcess) where
  -- the processes of each circle are among these
  abbrev pub HasCircles : List ℕ → Type 0
  HasCircles left = (circle : List Link) → IsCircle code s circle → (k : ℕ) (link : Link) → slice_get circle k ≡ Some link
      → IsAmong left link.process

  -- who is waited for in a circle
  waited : (left : List ℕ) → HasCircles left → (circle : List Link) → IsCircle code s circle → (k : ℕ) (link : Link) → slice_get circle k ≡ Some link
      → IsAmong left link.holder
  waited left has circle is k link at = ⊎_elim
      (λ lt.
      let n = get_some circle (k + 1) lt in
      subst (IsAmong left) (sym (is.next k link n.0 at n.1)) (has circle is (k + 1) n.0 n.1))
      (λ past.
      let w = slice_get_within circle k link at in
      let first = get_some circle 0 is.some in
      let e : k ≡ length circle - 1 = omega (arith, w, past) in
      subst (IsAmong left) (sym (is.last link first.0 (subst (λ (j : ℕ). slice_get circle j ≡ Some link) e at) first.1)) (has circle is 0 first.0 first.1))
      (cases_lt (k + 1) (length circle))

  pub circles_kept : (left : List ℕ) (i : ℕ) → IsFreeAt code s left i → HasCircles left → HasCircles (remove left i)
  circles_kept left i free has circle is k link at =
      among_removed left i free.p link.process free.there (has circle is k link at)
      (λ same.
      free.free link (record { links = all_at (IsLink code s) circle k link is.each at; process_is = same; member = waited left has circle is k link at }))

  pub none_left : (left : List ℕ) → length left ≡ 0 → HasCircles left → (circle : List Link) → IsCircle code s circle → ⊥
  none_left left empty has circle is =
      let first = get_some circle 0 is.some in
      let m = has circle is 0 first.0 first.1 in
      let w = slice_get_within left m.0 first.0.process m.1 in
      omega (arith, w, empty)

  -- whoever is in a circle is a process
  pub circles_below : (n : ℕ) → n ≡ length s.processes → (left : List ℕ) → ((p : ℕ) → p < n → IsAmong left p) → HasCircles left
  circles_below n count left all circle is k link at =
      let there = (all_at (IsLink code s) circle k link is.each at).lacks.asks.there in
      let w = slice_get_within s.processes link.process _ there in
      all link.process (omega (arith, w, count))
