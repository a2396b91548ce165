-- Notes at all places give depths and holdings at the reached ones.
use Rattle.std.proofs.Common.{◌≡◌, ◌⊎◌, inl, inr, ℕ, zero, suc, ◌+◌, ◌≤◌, List, [], ◌∷◌, length, Option, Some}
use Rattle.std.proofs.Common.{None, refl, sym, ap, ◌∙◌, subst, arith}
use Rattle.pb_base.specs.Steppers.{Bundle}
use Rattle.pb_code.specs.Code.{Instr, Push, Load, Store, Compute1, Compute2, Jump, JumpIfZero, PrintTop, Take}
use Rattle.pb_code.specs.Code.{Give, Fork, Join, End, ProcessCode}
use Rattle.pb_codegen.proofs.VerifiedNotedCode.{Shape, Notes, Leads, Fits, IsNoted}
use Rattle.pb_verifier.specs.Places.{InstrAt, Follows, Reached, at_entry, from}
use Rattle.pb_verifier.specs.Faults.{pops, pushes, TurnsDepth, AreDepths, TurnsHoldings, AreHoldings}
use Rattle.pb_verifier.specs.Faults.{EndsClear}
use Rattle.pb_verifier.proofs.ArmPlaces.{same_instr}
use Rattle.pb_verifier.proofs.UniqueFacts.{one_depth, one_holdings, spread_once}

abbrev pub depth_of : Option Shape → ℕ
depth_of None = 0
depth_of (Some s) = s.depth

abbrev pub held_of : Option Shape → List Bundle
held_of None = []
held_of (Some s) = s.holdings

-- an instruction that fits turns the shape of its place into that of all that follow
abbrev Turns : Notes → Instr → (p d : ℕ) → List Bundle → Type 0
Turns notes i p d hs =
    (d' : ℕ) × (hs' : List Bundle) × (pops i ≤ d) × (d' + pops i ≡ d + pushes i)
    × (length hs' ≤ 256 → TurnsHoldings i hs hs')
    × ((next : ℕ) → Follows i p next → Leads notes next d' hs')

to : (notes : Notes) (d : ℕ) (hs : List Bundle) (q next : ℕ) → Leads notes q d hs → next ≡ q
    → Leads notes next d hs
to notes d hs q next h e = subst (λ k. Leads notes k d hs) (sym e) h

turns : (notes : Notes) (i : Instr) (p d : ℕ) (hs : List Bundle) → Fits notes i p d hs → Turns notes i p d hs
turns notes (Push v) p d hs f =
    (suc d, hs, omega arith, omega arith, λ l. refl, λ next e. to notes (suc d) hs (p + 1) next f e)
turns notes (Load x) p d hs f =
    (suc d, hs, omega arith, omega arith, λ l. refl, λ next e. to notes (suc d) hs (p + 1) next f e)
turns notes (Store x) p zero hs f = elim f [ ]
turns notes (Store x) p (suc d) hs f =
    (d, hs, omega arith, omega arith, λ l. refl, λ next e. to notes d hs (p + 1) next f e)
turns notes (Compute1 op) p zero hs f = elim f [ ]
turns notes (Compute1 op) p (suc d) hs f =
    (suc d, hs, omega arith, omega arith, λ l. refl, λ next e. to notes (suc d) hs (p + 1) next f e)
turns notes (Compute2 op) p zero hs f = elim f [ ]
turns notes (Compute2 op) p (suc zero) hs f = elim f [ ]
turns notes (Compute2 op) p (suc (suc d)) hs f =
    (suc d, hs, omega arith, omega arith, λ l. refl, λ next e. to notes (suc d) hs (p + 1) next f e)
turns notes (Jump target) p d hs f =
    (d, hs, omega arith, omega arith, λ l. refl, λ next e. to notes d hs target next f e)
turns notes (JumpIfZero target) p zero hs f = elim f [ ]
turns notes (JumpIfZero target) p (suc d) hs f =
    (d, hs, omega arith, omega arith, λ l. refl, λ next e. either next e)
  where
    either : (next : ℕ) → (next ≡ target) ⊎ (next ≡ p + 1) → Leads notes next d hs
    either next (inl e) = to notes d hs target next f.0 e
    either next (inr e) = to notes d hs (p + 1) next f.1 e
turns notes PrintTop p zero hs f = elim f [ ]
turns notes PrintTop p (suc d) hs f =
    (d, hs, omega arith, omega arith, λ l. refl, λ next e. to notes d hs (p + 1) next f e)
turns notes (Take bundle) p d hs f =
    (d, bundle ∷ hs, omega arith, omega arith, λ l. (refl, l), λ next e. to notes d (bundle ∷ hs) (p + 1) next f e)
turns notes (Give bundle) p d [] f = elim f [ ]
turns notes (Give bundle) p d (held ∷ hs) f =
    (d, hs, omega arith, omega arith, λ l. ap (λ b. b ∷ hs) f.0, λ next e. to notes d hs (p + 1) next f.1 e)
turns notes (Fork first count) p d hs f =
    (d, hs, omega arith, omega arith, λ l. refl, λ next e. to notes d hs (p + 1) next f e)
turns notes (Join first count) p d hs f =
    (d, hs, omega arith, omega arith, λ l. refl, λ next e. to notes d hs (p + 1) next f e)
turns notes End p d hs f = (d, hs, omega arith, omega arith, λ l. refl, λ next e. elim e [ ])

module _ (code : ProcessCode) (notes : Notes) (noted_code : IsNoted code notes) (shallow : (p d : ℕ) (hs : List
    Bundle) → Leads notes p d hs → (d ≤ 256) × (length hs ≤ 256)) where
  abbrev pub depth : ℕ → ℕ
  depth p = depth_of (notes p)

  abbrev pub held : ℕ → List Bundle
  held p = held_of (notes p)

  pub held_here : (p d : ℕ) (hs : List Bundle) → Leads notes p d hs → held p ≡ hs
  held_here p d hs h = ap held_of h

  turn_at : (p : ℕ) (i : Instr) (d : ℕ) (hs : List Bundle) → InstrAt code p i → Leads notes p d hs
      → Turns notes i p d hs
  turn_at p i d hs at leads =
      let w = noted_code.flows p d hs leads in
      turns notes i p d hs (subst (λ k. Fits notes k p d hs) (same_instr code p w.0 i w.1 at) w.2)

  pub noted : (p : ℕ) → Reached code p → (d : ℕ) × (hs : List Bundle) × Leads notes p d hs
  noted p (at_entry a _ u e) = (0, [], subst (λ k. Leads notes k 0 []) (sym e) (noted_code.starts a u))
  noted p (from before _ i reached at follows) =
      let w = noted before reached in
      let t = turn_at before i w.0 w.1 at w.2 in
      (t.0, t.1, t.5 p follows)

  -- a shape that an instruction leads to, or that of its own place if it leads nowhere
  pub depths : AreDepths code depth
  depths = record {
    starts = λ a u. ap depth_of (noted_code.starts a u);
    flows = λ p i reached at.
        let w = noted p reached in
        let t = turn_at p i w.0 w.1 at w.2 in
        let s = (shallow p w.0 w.1 w.2).0 in
        let here : depth p ≡ w.0 = ap depth_of w.2 in
        let a = t.2 in
        let b = t.3 in
        (t.0, (omega (arith, a, here), omega (arith, s, here), omega (arith, b, here)), λ next f. ap depth_of (t.5 next f));
  }

  -- every instruction leads to a list that is short enough, or doesn't lengthen it
  turned : (i : Instr) (p : ℕ) (hs hs' : List Bundle) → length hs ≤ 256
      → (length hs' ≤ 256 → TurnsHoldings i hs hs') → ((next : ℕ) → Follows i p next → length hs' ≤ 256)
      → (hs'' : List Bundle) × TurnsHoldings i hs hs'' × ((next : ℕ) → Follows i p next → hs' ≡ hs'')
  turned (Push v) p hs hs' l h n = (hs', h (n (p + 1) refl), λ next f. refl)
  turned (Load x) p hs hs' l h n = (hs', h (n (p + 1) refl), λ next f. refl)
  turned (Store x) p hs hs' l h n = (hs', h (n (p + 1) refl), λ next f. refl)
  turned (Compute1 op) p hs hs' l h n = (hs', h (n (p + 1) refl), λ next f. refl)
  turned (Compute2 op) p hs hs' l h n = (hs', h (n (p + 1) refl), λ next f. refl)
  turned (Jump target) p hs hs' l h n = (hs', h (n target refl), λ next f. refl)
  turned (JumpIfZero target) p hs hs' l h n = (hs', h (n target (inl refl)), λ next f. refl)
  turned PrintTop p hs hs' l h n = (hs', h (n (p + 1) refl), λ next f. refl)
  turned (Take bundle) p hs hs' l h n = (hs', h (n (p + 1) refl), λ next f. refl)
  turned (Give bundle) p hs hs' l h n = (hs', h (n (p + 1) refl), λ next f. refl)
  turned (Fork first count) p hs hs' l h n = (hs', h (n (p + 1) refl), λ next f. refl)
  turned (Join first count) p hs hs' l h n = (hs', h (n (p + 1) refl), λ next f. refl)
  turned End p hs hs' l h n = (hs, refl, λ next f. elim f [ ])

  pub holdings : AreHoldings code held
  holdings = record {
    starts = λ a u. ap held_of (noted_code.starts a u);
    flows = λ p i reached at.
        let w = noted p reached in
        let t = turn_at p i w.0 w.1 at w.2 in
        let here : held p ≡ w.1 = ap held_of w.2 in
        let x =
        turned i p w.1 t.1 (shallow p w.0 w.1 w.2).1 t.4 (λ next f. (shallow next t.0 t.1 (t.5 next f)).1)
        in
        (x.0, subst (λ hs. TurnsHoldings i hs x.0) (sym here) x.1, λ next f. ap held_of (t.5 next f) ∙ x.2 next f);
  }

  pub clear : EndsClear code
  clear depth' held' depths' holdings' p reached at =
      let w = noted p reached in
      let v = noted_code.flows p w.0 w.1 w.2 in
      let f = subst (λ k. Fits notes k p w.0 w.1) (same_instr code p v.0 End v.1 at) v.2 in (
        spread_once code TurnsDepth 0 depth' depth one_depth depths' depths p reached ∙ (ap depth_of w.2 ∙ f.0),
        spread_once code TurnsHoldings [] held' held one_holdings holdings' holdings p reached ∙ (ap held_of w.2 ∙ f.1),
      )
