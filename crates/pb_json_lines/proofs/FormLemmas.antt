-- The first form that a line fits.
use Rattle.std.proofs.Common.{◌≡◌, ℕ, suc, ◌+◌, ◌<◌, Bool, true, false, cond, List, ◌∷◌, length, drop, map, get_or}
use Rattle.std.proofs.Common.{Some, None, sym, ap, ◌∙◌, arith}
use Rattle.std.specs.List.{find}
use Rattle.std.proofs.Math.Seq.{drop-cons}
use Rattle.std.proofs.lemmas.List.{drop_all}
use Rattle.pb_json_lines.specs.declared.form.Form.{Form}
use Rattle.pb_json_lines.specs.Forms.{alone_form, first_of, form_of, or_else}
use Rattle.pb_json_lines.specs.PlainForms.{PlainForm, plain_form}
use Rattle.pb_json_lines.specs.ProgramForms.{parts}
use Rattle.pb_json_lines.specs.declared.form.Dialect.{Dialect}
use Rattle.pb_json_lines.specs.Patterns.{fits}

module _ (line : List ℕ) where
  abbrev is : PlainForm → Bool
  is f = fits f.pattern line

  pub form_found : (otherwise : PlainForm) (all : List Form) (i : ℕ) (d : Form) → i < length all → is (plain_form (get_or all i d)) ≡ true
      → find is (map plain_form (drop i all)) ≡ find is (map plain_form all)
      → plain_form (get_or all i d) ≡ first_of (map plain_form all) otherwise line
  form_found otherwise all i d lt fit rest =
      let f = plain_form (get_or all i d) in
      let next : suc i ≡ i + 1 = omega arith in
      let here : drop i all ≡ get_or all i d ∷ drop (i + 1) all = drop-cons all i d lt ∙ ap (λ k. get_or all i d ∷ drop k all) next in
      let found : find is (map plain_form (drop i all)) ≡ Some f =
      ap (λ (fs : List Form). find is (map plain_form fs)) here
      ∙ ap (λ t. cond t (Some f) (find is (map plain_form (drop (i + 1) all)))) fit in
      ap (or_else otherwise) (sym found ∙ rest)

  pub form_missing : (otherwise : PlainForm) (all : List Form) (i : ℕ) → length all ≡ i
      → find is (map plain_form (drop i all)) ≡ find is (map plain_form all)
      → otherwise ≡ first_of (map plain_form all) otherwise line
  form_missing otherwise all i ends rest =
      let none : find is (map plain_form (drop i all)) ≡ None = ap (λ (fs : List Form). find is (map plain_form fs)) (drop_all i all (omega (arith, ends))) in
      ap (or_else otherwise) (sym none ∙ rest)

  -- after the line of an outcome or a deadlock, and elsewhere
  pub open_form : (dialect : Dialect) (is_open : Bool) (alone : PlainForm) → is_open ≡ true → alone ≡ alone_form dialect line
      → first_of parts alone line ≡ form_of dialect is_open line
  unfolding form_of
  open_form dialect true alone is same = ap (λ (f : PlainForm). first_of parts f line) same
  open_form dialect false alone is same = absurd cc

  pub not_open_form : (dialect : Dialect) (is_open : Bool) (alone : PlainForm) → is_open ≡ false → alone ≡ alone_form dialect line
      → alone ≡ form_of dialect is_open line
  unfolding form_of
  not_open_form dialect true alone is same = absurd cc
  not_open_form dialect false alone is same = same
