use Rattle.std.proofs.Common.{◌≡◌, ◌≤◌, ◌<◌, ◌↔◌, ℕ, ltb, List, length, true, refl, sym, ap, subst, suc, arith}
use Rattle.std.proofs.lemmas.Bool.{ltb-true, lt-ltb}
use Rattle.std.specs.Prelude.{slice_index_or, []}
use Rattle.pb_base.specs.Steppers.{Bundle}
use Rattle.pb_code.specs.Code.{Instr, Give, Take}
use Rattle.pb_verifier.specs.Given.{instrs_of, plain}
use Rattle.pb_verifier.specs.Spread.{HoldFits}
use Rattle.pb_verifier.specs.Holdings.{held_bundles}
use Rattle.pb_verifier.proofs.Chains.{fits_give, fits_other, held_length}
use Rattle.pb_verifier.proofs.holdings.HoldingFact.fits.Goals as goal

pub returns-then-self-gt0 : goal.returns-then-self-gt0
returns-then-self-gt0 c =
    let bundles : List Bundle = c.args.code.now.bundles.items in
    let held : List Bundle = held_bundles (instrs_of c.args.code.now) c.args._table.now c.args.self in
    let is : plain c.args.code.now c.args.instr ≡ Give (slice_index_or bundles c.in-Give.given []) = ap (plain c.args.code.now) c.in-Give.is in
    let g =
    fits_give (instrs_of c.args.code.now) c.args._table.now c.args.self (slice_index_or bundles c.taken_at.result [])
    (slice_index_or bundles c.in-Give.given []) (omega arith)
    c.requires c.taken_at.ensures
    in (
      λ e. subst (λ (i : Instr). HoldFits i held) (sym is) (g.1 (c.same_bundle.ensures.0 e)),
      λ h. c.same_bundle.ensures.1 (g.0 (subst (λ (i : Instr). HoldFits i held) is h)),
    )

pub returns-in_default : goal.returns-in_default
returns-in_default c = (
  λ e. fits_other c.args.code.now.bundles.items c.args.instr (held_bundles (instrs_of c.args.code.now) c.args._table.now
      c.args.self) c.in_default.not-Take c.in_default.not-Give,
  λ h. refl,
)

-- a count below 256 leaves room for one more
room : (n : ℕ) (held : List Bundle) → length held ≡ n → (ltb n 256 ≡ true) ↔ (suc (length held) ≤ 256)
room n held e =
    (λ t. let u : n < 256 = ltb-true n 256 t in omega arith, λ u. let w : n < 256 = omega arith in lt-ltb n 256 w)

pub returns-in-Take : goal.returns-in-Take
returns-in-Take c =
    let instrs : List Instr = instrs_of c.args.code.now in
    let held : List Bundle = held_bundles instrs c.args._table.now c.args.self in
    let is : plain c.args.code.now c.args.instr ≡ Take (slice_index_or c.args.code.now.bundles.items c.in-Take.field-0
    []) = ap (plain c.args.code.now) c.in-Take.is in
    let r = room c.args.self.count held (held_length instrs c.args._table.now c.args.self.count c.args.self.last) in
    (λ e. subst (λ (i : Instr). HoldFits i held) (sym is) (r.0 e), λ h. r.1 (subst (λ (i : Instr). HoldFits i held) is h))
