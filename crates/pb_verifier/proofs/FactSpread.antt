-- What spreading facts from place to place keeps.
use Rattle.std.proofs.Common.{◌≡◌, ◌⊎◌, inl, inr, ℕ, ◌+◌, ◌<◌, ◌≤◌, List, length, get_or, Option, Some, sym, ap, ◌∙◌}
use Rattle.std.proofs.Common.{subst, arith}
use Rattle.std.specs.Prelude.{Contains, slice_get}
use Rattle.std.proofs.lemmas.List.{get_or_default}
use Rattle.std.proofs.lemmas.Bool.{cases_lt}
use Rattle.pb_code.specs.Code.{Instr}
use Rattle.pb_verifier.specs.Flow.{FlowsTo, followers, IsGrown}
use Rattle.pb_verifier.specs.Spread.{Rules, IsAnnotation, CanBeAnnotated}

pub record FlowsAt {M : Type 0} (rules : Rules M) (instrs : List Instr) (notes : ℕ → Option M) (p : ℕ) : Type 0 where
  pub value : M
  pub instr : Instr
  pub noted : notes p ≡ Some value
  pub read : slice_get instrs p ≡ Some instr
  pub fits : rules.Fits instr value
  pub next : (q : ℕ) → Contains (followers instr p) q → notes q ≡ Some (rules.after instr value)

-- the first `done` places of the order lead on, and whatever is noted is in every annotation
pub record IsSpread {M : Type 0} (rules : Rules M) (entries : List ℕ) (instrs : List Instr) (order : List ℕ) (done : ℕ) (notes : ℕ → Option M) : Type 0 where
  pub starts : (p : ℕ) → Contains entries p → notes p ≡ Some rules.start
  pub flows : (k : ℕ) → k < done → FlowsAt rules instrs notes (get_or order k 0)
  pub within : (p : ℕ) (m : M) → notes p ≡ Some m → Contains order p
  pub least : (other : ℕ → Option M) → IsAnnotation rules entries instrs other → (p : ℕ) (m : M) → notes p ≡ Some m → other p ≡ Some m

-- a value noted at places where there was none
pub record Extended {M : Type 0} (notes : ℕ → Option M) (places : List ℕ) (v : M) (later : ℕ → Option M) : Type 0 where
  pub kept : (p : ℕ) (m : M) → notes p ≡ Some m → later p ≡ Some m
  pub there : (q : ℕ) → Contains places q → later q ≡ Some v
  pub only : (p : ℕ) (m : M) → later p ≡ Some m → (notes p ≡ Some m) ⊎ (Contains places p × (m ≡ v))

module _ {M : Type 0} (rules : Rules M) (entries : List ℕ) (instrs : List Instr) (order : List ℕ) where
  abbrev Spread : ℕ → (ℕ → Option M) → Type 0
  Spread done notes = IsSpread rules entries instrs order done notes

  -- equal notes are spread as well
  pub spread_same : (done : ℕ) (notes later : ℕ → Option M) → ((p : ℕ) → later p ≡ notes p)
      → Spread done notes → Spread done later
  spread_same done notes later same h = record {
    starts = λ p c. same p ∙ h.starts p c;
    flows = λ k u. let f : FlowsAt rules instrs notes (get_or order k 0) = h.flows k u in record {
      value = f.value;
      instr = f.instr;
      noted = same (get_or order k 0) ∙ f.noted;
      read = f.read;
      fits = f.fits;
      next = λ q c. same q ∙ f.next q c;
    };
    within = λ p m e. h.within p m (sym (same p) ∙ e);
    least = λ other a p m e. h.least other a p m (sym (same p) ∙ e);
  }

  -- the next place of the order has a value
  pub spread_noted : (done : ℕ) (notes : ℕ → Option M) → Spread done notes → IsGrown entries instrs order → done <
      length order → (m : M) × (notes (get_or order done 0) ≡ Some m)
  spread_noted done notes h grown u = go (grown done u)
    where
      go : Contains entries (get_or order done 0) ⊎ ((j : ℕ) × (j < done) × FlowsTo instrs (get_or order j 0) (get_or
          order done 0)) → (m : M) × (notes (get_or order done 0) ≡ Some m)
      go (inl c) = (rules.start, h.starts (get_or order done 0) c)
      go (inr f) =
          let flow : FlowsAt rules instrs notes (get_or order f.0 0) = h.flows f.0 f.1 in
          let e : Some flow.instr ≡ Some f.2.0 = sym flow.read ∙ f.2.1 in
          let e' : f.2.0 ≡ flow.instr = cc in (
            rules.after flow.instr flow.value,
            flow.next (get_or order done 0) (subst (λ (i : Instr). Contains
                (followers i (get_or order f.0 0)) (get_or order done 0)) e' f.2.2),
          )

  -- an annotation has the same value at a noted place and at what follows it
  other_flows : (done : ℕ) (notes other : ℕ → Option M) → Spread done notes → IsAnnotation rules entries instrs other
      → (p : ℕ) (m : M) (i : Instr) → notes p ≡ Some m → slice_get instrs p ≡ Some i
      → rules.Fits i m × ((q : ℕ) → Contains (followers i p) q → other q ≡ Some (rules.after i m))
  other_flows done notes other h a p m i e read =
      let f : (i' : Instr) × (slice_get instrs p ≡ Some i') × rules.Fits i' m × ((q : ℕ) → Contains (followers i' p) q
      → other q ≡ Some (rules.after i' m)) = a.flows p m (h.least other a p m e) in
      let s : Some f.0 ≡ Some i = sym f.1 ∙ read in
      let same : f.0 ≡ i = cc in
      subst (λ (x : Instr). rules.Fits x m × ((q : ℕ) → Contains (followers x p) q → other q ≡ Some (rules.after x m))) same (f.2, f.3)

  pub refuted_fit : (done : ℕ) (notes : ℕ → Option M) → Spread done notes → (p : ℕ) (m : M) (i : Instr) → notes p ≡
      Some m → slice_get instrs p ≡ Some i → ¬ rules.Fits i m → ¬ CanBeAnnotated rules entries instrs
  refuted_fit done notes h p m i e read wrong a = wrong (other_flows done notes a.0 h a.1 p m i e read).0

  -- in faultless code nothing else is noted where a place leads to
  pub next_agrees : (done : ℕ) (notes : ℕ → Option M) → Spread done notes → (p : ℕ) (m : M) (i : Instr) → notes p ≡ Some m → slice_get instrs p ≡ Some i
      → CanBeAnnotated rules entries instrs → (q : ℕ) (x : M) → Contains (followers i p) q → notes q ≡ Some x → x ≡ rules.after i m
  next_agrees done notes h p m i e read a q x c n =
      let one : a.0 q ≡ Some (rules.after i m) = (other_flows done notes a.0 h a.1 p m i e read).1 q c in
      let two : a.0 q ≡ Some x = h.least a.0 a.1 q x n in
      let both : Some x ≡ Some (rules.after i m) = sym two ∙ one in
      cc

  pub spread_step : (done : ℕ) (notes later : ℕ → Option M) → Spread done notes → (m : M) (i : Instr) → notes (get_or
      order done 0) ≡ Some m → slice_get instrs (get_or order done 0) ≡ Some i → rules.Fits i m
      → Extended notes (followers i (get_or order done 0)) (rules.after i m) later → ((q : ℕ) → Contains (followers i
      (get_or order done 0)) q → Contains order q) → Spread (done + 1) later
  spread_step done notes later h m i e read fits x inside = record {
    starts = λ q c. x.kept q rules.start (h.starts q c);
    flows = λ k u. flows k u (cases_lt k done);
    within = λ q v n. within q v (x.only q v n);
    least = λ other a q v n. least other a q v (x.only q v n);
  }
    where
      flows : (k : ℕ) → k < done + 1 → (k < done) ⊎ (done ≤ k) → FlowsAt rules instrs later (get_or order k 0)
      flows k u (inl w) =
          let f : FlowsAt rules instrs notes (get_or order k 0) = h.flows k w in
          record {
            value = f.value;
            instr = f.instr;
            noted = x.kept (get_or order k 0) f.value f.noted;
            read = f.read;
            fits = f.fits;
            next = λ q c. x.kept q (rules.after f.instr f.value) (f.next q c);
          }
      flows k u (inr w) =
          let same : done ≡ k = omega arith in
          subst (λ (j : ℕ). FlowsAt rules instrs later (get_or order j 0)) same
          record { value = m; instr = i; noted = x.kept (get_or order done 0) m e; read = read; fits = fits; next = x.there }

      within : (q : ℕ) (v : M) → (notes q ≡ Some v) ⊎ (Contains (followers i (get_or order done 0)) q × (v ≡ rules.after i m)) → Contains order q
      within q v (inl n) = h.within q v n
      within q v (inr c) = inside q c.0

      least : (other : ℕ → Option M) → IsAnnotation rules entries instrs other → (q : ℕ) (v : M) → (notes q ≡ Some v)
          ⊎ (Contains (followers i (get_or order done 0)) q × (v ≡ rules.after i m)) → other q ≡ Some v
      least other a q v (inl n) = h.least other a q v n
      least other a q v (inr c) = (other_flows done notes other h a (get_or order done 0) m i e read).1 q c.0 ∙ ap Some (sym c.1)

  pub spread_over : (done : ℕ) (notes : ℕ → Option M) → Spread done notes → length order ≤ done → IsAnnotation rules entries instrs notes
  spread_over done notes h u = record { starts = h.starts; flows = λ p m e. flows p m e (h.within p m e) }
    where
      flows : (p : ℕ) (m : M) → notes p ≡ Some m → Contains order p → (i : Instr) × (slice_get instrs p ≡ Some i) ×
          rules.Fits i m × ((q : ℕ) → Contains (followers i p) q → notes q ≡ Some (rules.after i m))
      flows p m e c =
          let w : c.0 < length order = c.1 in
          let v : c.0 < done = omega arith in
          let place : get_or order c.0 0 ≡ p = get_or_default order c.0 0 p c.1 ∙ c.2 in
          let f : FlowsAt rules instrs notes p = subst (λ (x : ℕ). FlowsAt rules instrs notes x) place (h.flows c.0 v) in
          let s : Some f.value ≡ Some m = sym f.noted ∙ e in
          let same : f.value ≡ m = cc in
          subst (λ (x : M). (i : Instr) × (slice_get instrs p ≡ Some i) × rules.Fits i x × ((q : ℕ) → Contains
          (followers i p) q → notes q ≡ Some (rules.after i x))) same (f.instr, f.read, f.fits, f.next)
