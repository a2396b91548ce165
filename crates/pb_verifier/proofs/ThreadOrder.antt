-- Whatever the picks, the threads of checked code stay in order.
use Rattle.std.proofs.Common.{◌≡◌, ◌≢◌, ◌⊎◌, inl, inr, ⊎_elim, ℕ, ◌+◌, ◌<◌, ◌≤◌, ℤ, pos, true, false}
use Rattle.std.proofs.Common.{List, [], length, set, map, refl, sym, ap, ◌∙◌, subst, arith, length-set}
use Rattle.std.proofs.Common.{get_or-set_same, get_or-set_other}
use Rattle.std.proofs.lemmas.Bool.{cases_lt}
use Rattle.std.proofs.lemmas.List.{length-map, length-replicate}
use Rattle.std.proofs.Math.ListN.{get_or-map}
use Rattle.pb_base.specs.declared.operators.FaultKind.{FaultKind}
use Rattle.pb_base.specs.Steppers.{Effect, Silent, Faults}
use Rattle.pb_base.proofs.Cases.{same_or_not}
use Rattle.pb_code.specs.Code.{Instr, Fork, Join, End, ProcessCode, Thread, Idle, Live, Ended, CodeProcess, thread}
use Rattle.pb_code.specs.Code.{code_process}
use Rattle.pb_verifier.specs.Places.{InstrAt, arms, entry, IsInArm, IsAmong, Reached, at_entry, from}
use Rattle.pb_verifier.proofs.ArmPlaces.{Checked, same_instr, IsPlain, entry_in_arm, one_arm, next_in_arm}
use Rattle.pb_verifier.proofs.ArmPlaces.{follows_in_arm, before_join, no_join, no_join_at_entry}
use Rattle.pb_verifier.proofs.ThreadTurns.{Turn, runs, traps, forks, joins, stops, Awaited, InOrder, Fit, Turned}
use Rattle.pb_verifier.proofs.ThreadTurns.{ending_no_fault}

pub among_or_not : (first count b : ℕ) → IsAmong first count b ⊎ ((b < first) ⊎ (first + count ≤ b))
among_or_not first count b = ⊎_elim (λ l. inr (inl l)) (λ l. ⊎_elim (λ m. inl (l, m)) (λ m. inr (inr m)) (cases_lt b (first + count))) (cases_lt b first)

pub idle_or_not : (t : Thread) → (t ≡ Idle) ⊎ (t ≡ Idle → ⊥)
idle_or_not Idle = inl refl
idle_or_not (Live p s) = inr (λ e. cc)
idle_or_not Ended = inr (λ e. cc)

abbrev place_of : Thread → ℕ
place_of Idle = 0
place_of (Live p s) = p
place_of Ended = 0

pub same_place : (p q : ℕ) (s t : List ℤ) → Live p s ≡ Live q t → p ≡ q
same_place p q s t e = ap place_of e

module _ (code : ProcessCode) (ok : Checked code) where
  abbrev Stands : ℕ → Thread → Type 0
  Stands a Idle = Unit {0}
  Stands a (Live p s) = IsInArm code a p × Reached code p × (length s ≡ ok.depth p)
  Stands a Ended = Unit {0}

  module _ (T T' : ℕ → Thread) (order : InOrder code ok T) where
    abbrev Same : ℕ → Type 0
    Same b = T' b ≡ T b

    still_stands : (b p : ℕ) (s : List ℤ) → Same b → T' b ≡ Live p s → IsInArm code b p × Reached code p × (length s ≡ ok.depth p)
    still_stands b p s same h = order.stands b p s (sym same ∙ h)

    stands_now : (a q p : ℕ) (t s : List ℤ) → Stands a (Live q t) → T' a ≡ Live q t → T' a ≡ Live p s → IsInArm code a
        p × Reached code p × (length s ≡ ok.depth p)
    stands_now a q p t s h now e = subst (Stands a) (sym now ∙ e) h

    -- an arm that isn't at a join of the right arms isn't the parent
    parent_elsewhere : (a p c : ℕ) (s : List ℤ) (w : Awaited code T c) → T a ≡ Live p s → (InstrAt code p (Join w.first w.count) → ⊥) → w.parent ≢ a
    parent_elsewhere a p c s w live absent e =
        let both : Live (w.place + 1) w.stack ≡ Live p s = sym w.waits ∙ (ap T e ∙ live) in
        absent (subst (λ k. InstrAt code k (Join w.first w.count)) (same_place (w.place + 1) p w.stack s both)
        (ok.fork.then_join w.place w.first w.count w.forks))

    still_awaited : (c : ℕ) (w : Awaited code T c) → Same w.parent → Awaited code T' c
    still_awaited c w same = record {
      parent = w.parent;
      place = w.place;
      stack = w.stack;
      first = w.first;
      count =
          w.count;
      waits = same ∙ w.waits;
      forks = w.forks;
      among = w.among;
    }

    was_busy : (a c p : ℕ) (s : List ℤ) → T a ≡ Live p s → (c ≢ a → Same c) → (T' c ≡ Idle → ⊥) → T c ≡ Idle → ⊥
    was_busy a c p s live others busy idle = ⊎_elim
        (λ e. let x : Live p s ≡ Idle = sym live ∙ (ap T (sym e) ∙ idle) in cc)
        (λ ne. busy (others ne ∙ idle))
        (same_or_not c a)

    -- one arm goes on, to no join, or ends
    alone : (a p : ℕ) (s : List ℤ) (i : Instr) (t : Thread) → T a ≡ Live p s → InstrAt code p i → ((first count : ℕ) → i ≡ Join first count → ⊥)
        → T' a ≡ t → (t ≡ Idle → ⊥) → Stands a t → ((q first count : ℕ) (u : List ℤ) → t ≡ Live q u → InstrAt code q (Join first count) → ⊥)
        → ((b : ℕ) → b ≢ a → Same b) → InOrder code ok T'
    alone a p s i t live at not_join now busy stands no_join_there others = record {
      stands = λ b q u h. ⊎_elim
          (λ e. subst (λ k. IsInArm code k q × Reached code q × (length u ≡ ok.depth q)) (sym e) (subst (Stands a) (sym now ∙ (ap T' (sym e) ∙ h)) stands))
          (λ ne. still_stands b q u (others b ne) h)
          (same_or_not b a);
      awaited = λ c some busy'.
          let w = order.awaited c some (was_busy a c p s live (others c) busy') in
          still_awaited c w (others w.parent (parent_elsewhere a p c s w live (λ j. not_join w.first w.count
          (same_instr code p i (Join w.first w.count) at j))));
      woken = λ b q u first count c h join among idle. ⊎_elim
          (λ e. no_join_there q first count u (sym now ∙ (ap T' (sym e) ∙ h)) join)
          (λ ne. ⊎_elim
          (λ e. busy (sym now ∙ (ap T' (sym e) ∙ idle)))
          (λ ne'. order.woken b q u first count c (sym (others b ne) ∙ h) join among (sym (others c ne') ∙ idle))
          (same_or_not c a))
          (same_or_not b a);
    }

    -- the arms that a fork names are idle before it
    pub idle_before : (a p : ℕ) (s : List ℤ) (first count b : ℕ) → T a ≡ Live p s → InstrAt code p (Fork first count)
        → a < first → IsAmong first count b → T b ≡ Idle
    idle_before a p s first count b live fork l among = ⊎_elim (λ e. e) (λ busy. elim (let w : ⊥ = not_busy busy in w) [ ]) (idle_or_not (T b))
      where
        not_busy : (T b ≡ Idle → ⊥) → ⊥
        not_busy busy =
            let x = among.0 in
            let w = order.awaited b (omega (arith, l, x)) busy in
            let same : w.place ≡ p = ok.fork.once b w.place w.first w.count p first count w.forks w.among fork among in
            let there : IsInArm code w.parent (w.place + 1) = (order.stands w.parent (w.place + 1) w.stack w.waits).0 in
            let here : IsInArm code a (p + 1) = next_in_arm code ok.lie a p (Fork first count) (order.stands a p s live).0 fork tt in
            let e : w.parent ≡ a = one_arm code ok.lie w.parent a (p + 1) (subst (λ k. IsInArm code w.parent (k + 1)) same there) here in
            let f : w.place + 1 ≡ p = same_place (w.place + 1) p w.stack s (sym w.waits ∙ (ap T e ∙ live)) in
            omega (arith, same, f)

    forked : (a p : ℕ) (s : List ℤ) (first count : ℕ) → T a ≡ Live p s → InstrAt code p (Fork first count) → T' a ≡ Live (p + 1) s → length s ≡ ok.depth (p + 1)
        → ((b : ℕ) → IsAmong first count b → T' b ≡ Live (entry code b) []) → ((b : ℕ) → b ≢ a → (b < first) ⊎ (first
        + count ≤ b) → Same b) → a < first → first + count ≤ arms code → InOrder code ok T'
    forked a p s first count live fork now len launched others l u =
        let here = order.stands a p s live in
        let idle : (b : ℕ) → IsAmong first count b → T b ≡ Idle = λ b among. idle_before a p s first count b live fork l among in
        let stands : Stands a (Live (p + 1) s) = (
          next_in_arm code ok.lie a p (Fork first count) here.0 fork tt,
          from
              p (p + 1) (Fork first count) here.1 fork refl,
          len,
        ) in
        let awaited : (c : ℕ) → 1 ≤ c → (T' c ≡ Idle → ⊥) → Awaited code T' c = λ c some busy. ⊎_elim
        (λ among. record { parent = a; place = p; stack = s; first = first; count = count; waits = now; forks = fork; among = among })
        (λ out.
        let w = order.awaited c some (was_busy a c p s live (λ ne. others c ne out) busy) in
        let elsewhere : w.parent ≢ a = parent_elsewhere a p c s w live (λ j. let e : Fork first count ≡ Join w.first
        w.count = same_instr code p (Fork first count) (Join w.first w.count) fork j in cc) in
        still_awaited c w (⊎_elim
        (λ among. let e : Live (w.place + 1) w.stack ≡ Idle = sym w.waits ∙ idle w.parent among in cc)
        (λ out'. others w.parent elsewhere out')
        (among_or_not first count w.parent)))
        (among_or_not first count c) in
        record {
          stands = λ b q v h. ⊎_elim
              (λ e. subst (λ k. IsInArm code k q × Reached code q × (length v ≡ ok.depth q)) (sym e) (stands_now a (p
              + 1) q s v stands now (ap T' (sym e) ∙ h)))
              (λ ne. ⊎_elim
              (λ among. let x = among.1 in let within : b < arms code = omega (arith, x, u) in
              stands_now b (entry code b) q [] v (
                entry_in_arm code ok.lie b within,
                at_entry b (entry code b) within
                    refl,
                sym (ok.depths.starts b within),
              ) (launched b among) h)
              (λ out. still_stands b q v (others b ne out) h)
              (among_or_not first count b))
              (same_or_not b a);
          awaited = awaited;
          woken = λ b q v f n c h join among' idle'. ⊎_elim
              (λ e.
              let there : p + 1 ≡ q = same_place (p + 1) q s v (sym now ∙ (ap T' (sym e) ∙ h)) in
              let same : Join first count ≡ Join f n = same_instr code (p + 1) (Join first count) (Join f n)
              (ok.fork.then_join p first count fork) (subst (λ k. InstrAt code k (Join f n)) (sym there) join) in
              let e1 : f ≡ first = cc in
              let e2 : n ≡ count = cc in
              let x = among'.0 in let y = among'.1 in
              let z : Live (entry code c) [] ≡ Idle = sym (launched c (omega (arith, x, e1), omega (arith, y, e1, e2))) ∙ idle' in cc)
              (λ ne. ⊎_elim
              (λ among. let x = among.1 in
              let there : entry code b ≡ q = same_place (entry code b) q [] v (sym (launched b among) ∙ h) in
              no_join_at_entry code ok.lie ok.fork b f n (omega (arith, x, u)) (subst (λ k. InstrAt code k (Join f n)) (sym there) join))
              (λ out. ⊎_elim
              (λ e. let z : Live (p + 1) s ≡ Idle = sym now ∙ (ap T' (sym e) ∙ idle') in cc)
              (λ ne'. ⊎_elim
              (λ among. let z : Live (entry code c) [] ≡ Idle = sym (launched c among) ∙ idle' in cc)
              (λ out'. order.woken b q v f n c (sym (others b ne out) ∙ h) join among' (sym (others c ne' out') ∙ idle'))
              (among_or_not first count c))
              (same_or_not c a))
              (among_or_not first count b))
              (same_or_not b a);
        }

    joined : (a p : ℕ) (s : List ℤ) (first count : ℕ) → T a ≡ Live p s → InstrAt code p (Join first count) → T' a ≡ Live (p + 1) s
        → length s ≡ ok.depth (p + 1)
        → ((b : ℕ) → IsAmong first count b → (T b ≡ Ended) × (T' b ≡ Idle))
        → ((b : ℕ) → b ≢ a → (b < first) ⊎ (first + count ≤ b) → Same b) → InOrder code ok T'
    joined a p s first count live join now len dismissed others =
        let here = order.stands a p s live in
        let stands : Stands a (Live (p + 1) s) = (
          next_in_arm code ok.lie a p (Join first count) here.0 join tt,
          from
              p (p + 1) (Join first count) here.1 join refl,
          len,
        ) in
        let fork = ok.fork.after_fork p first count join in
        record {
          stands = λ b q v h. ⊎_elim
              (λ e. subst (λ k. IsInArm code k q × Reached code q × (length v ≡ ok.depth q)) (sym e) (stands_now a (p
              + 1) q s v stands now (ap T' (sym e) ∙ h)))
              (λ ne. ⊎_elim
              (λ among. let z : Idle ≡ Live q v = sym (dismissed b among).1 ∙ h in cc)
              (λ out. still_stands b q v (others b ne out) h)
              (among_or_not first count b))
              (same_or_not b a);
          awaited = λ c some busy. ⊎_elim
              (λ among. elim (let z : ⊥ = busy (dismissed c among).1 in z) [ ])
              (λ out.
              let w = order.awaited c some (was_busy a c p s live (λ ne. others c ne out) busy) in
              let elsewhere : w.parent ≢ a = parent_elsewhere a p c s w live (λ j.
              let e : Join first count ≡ Join w.first w.count = same_instr code p (Join first count) (Join w.first w.count) join j in
              let e1 : w.first ≡ first = cc in
              let e2 : w.count ≡ count = cc in
              let x = w.among.0 in let y = w.among.1 in
              ⊎_elim (λ o. omega (arith, x, y, e1, e2, o)) (λ o. omega (arith, x, y, e1, e2, o)) out) in
              still_awaited c w (⊎_elim
              (λ among. let e : Live (w.place + 1) w.stack ≡ Ended = sym w.waits ∙ (dismissed w.parent among).0 in cc)
              (λ out'. others w.parent elsewhere out')
              (among_or_not first count w.parent)))
              (among_or_not first count c);
          woken = λ b q v f n c h join' among' idle'. ⊎_elim
              (λ e.
              let there : p + 1 ≡ q = same_place (p + 1) q s v (sym now ∙ (ap T' (sym e) ∙ h)) in
              let z : Join first count ≡ Fork f n = same_instr code p (Join first count) (Fork f n) join (before_join
              code ok.lie ok.fork p f n (subst (λ k. InstrAt code k (Join f n)) (sym there) join')) in cc)
              (λ ne. ⊎_elim
              (λ among. let z : Idle ≡ Live q v = sym (dismissed b among).1 ∙ h in cc)
              (λ out.
              let was : T b ≡ Live q v = sym (others b ne out) ∙ h in
              ⊎_elim
              (λ e. let z : Live (p + 1) s ≡ Idle = sym now ∙ (ap T' (sym e) ∙ idle') in cc)
              (λ ne'. ⊎_elim
              (λ among.
              let fork' = ok.fork.after_fork q f n join' in
              let same : fork.0 ≡ fork'.0 = ok.fork.once c fork.0 first count fork'.0 f n fork.2 among fork'.2 among' in
              let x = fork.1 in let y = fork'.1 in
              let there : q ≡ p = omega (arith, x, y, same) in
              elim (let z : ⊥ = ne (one_arm code ok.lie b a p (subst (IsInArm code b) there (order.stands b q v was).0) here.0) in z) [ ])
              (λ out'. order.woken b q v f n c was join' among' (sym (others c ne' out') ∙ idle'))
              (among_or_not first count c))
              (same_or_not c a))
              (among_or_not first count b))
              (same_or_not b a);
        }

    pub order_next : (a : ℕ) (effect : Effect) → Turn code ok T T' a effect → InOrder code ok T'
    order_next a effect (runs p s i q t live at plain f now len others balance sound takes) =
        let here = order.stands a p s live in
        alone a p s i (Live q t) live at (λ first count e. subst IsPlain e plain) now (λ e. cc) (
          follows_in_arm code
              ok.lie a p q i here.0 at f,
          from p q i here.1 at f,
          len,
        )
        (λ q' first count u e join. no_join code ok.lie ok.fork p q i first count at plain f (subst (λ k. InstrAt code
        k (Join first count)) (sym (same_place q q' t u e)) join)) others
    order_next a effect (traps kind e idle) = record {
      stands = λ b q u h. let z : Idle ≡ Live q u = sym (idle b) ∙ h in cc;
      awaited = λ c some busy. elim (let z : ⊥ = busy (idle c) in z) [ ];
      woken = λ b q u first count c h join among idle'. let z : Idle ≡ Live q u = sym (idle b) ∙ h in cc;
    }
    order_next a effect (forks p s first count live fork now len same launched others e l u) = forked a p s first count live fork now len launched others l u
    order_next a effect (joins p s first count live join now len same dismissed others e l u) = joined a p s first count live join now len dismissed others
    order_next a effect (stops p s live at now others e) =
        alone a p s End Ended live at (λ first count e. cc) now (λ e. cc) tt (λ q' first count u e join. cc) others

    -- arm 0 stays begun if nothing fails
    begun_next : (a : ℕ) (effect : Effect) → Turn code ok T T' a effect → ((kind : FaultKind) → effect ≡ Faults kind → ⊥) → (T 0 ≡ Idle → ⊥) → T' 0 ≡ Idle → ⊥
    begun_next a effect (runs p s i q t live at plain f now len others balance sound takes) none busy idle =
        ⊎_elim (λ e. let z : Live q t ≡ Idle = sym now ∙ (ap T' (sym e) ∙ idle) in cc) (λ ne. busy (sym (others 0 ne) ∙ idle)) (same_or_not 0 a)
    begun_next a effect (traps kind e all) none busy idle = none kind e
    begun_next a effect (forks p s first count live fork now len same launched others e l u) none busy idle =
        ⊎_elim (λ e. let z : Live (p + 1) s ≡ Idle = sym now ∙ (ap T' (sym e) ∙ idle) in cc) (λ ne. busy (sym (others
        0 ne (inl (omega (arith, l)))) ∙ idle)) (same_or_not 0 a)
    begun_next a effect (joins p s first count live fork now len same dismissed others e l u) none busy idle =
        ⊎_elim (λ e. let z : Live (p + 1) s ≡ Idle = sym now ∙ (ap T' (sym e) ∙ idle) in cc) (λ ne. busy (sym (others
        0 ne (inl (omega (arith, l)))) ∙ idle)) (same_or_not 0 a)
    begun_next a effect (stops p s live at now others e) none busy idle =
        ⊎_elim (λ e. let z : Ended ≡ Idle = sym now ∙ (ap T' (sym e) ∙ idle) in cc) (λ ne. busy (sym (others 0 ne) ∙ idle)) (same_or_not 0 a)

    -- a step fails and leaves all idle, or is that of a live arm and doesn't fail
    pub fails_or_lives : (a : ℕ) (effect : Effect) → Turn code ok T T' a effect
        → ((kind : FaultKind) × (effect ≡ Faults kind) × ((b : ℕ) → T' b ≡ Idle)) ⊎ ((p : ℕ) × (s : List ℤ) × (T a ≡
        Live p s) × ((kind : FaultKind) → effect ≡ Faults kind → ⊥))
    fails_or_lives a effect (runs p s i q t live at plain f now len others balance sound takes) = inr (p, s, live, sound)
    fails_or_lives a effect (traps kind e all) = inl (kind, e, all)
    fails_or_lives a effect (forks p s first count live fork now len same launched others e l u) = inr (
      p,
      s,
      live,
      λ
          kind g. let z : Silent ≡ Faults kind = sym e ∙ g in cc,
    )
    fails_or_lives a effect (joins p s first count live fork now len same dismissed others e l u) = inr (
      p,
      s,
      live,
      λ
          kind g. let z : Silent ≡ Faults kind = sym e ∙ g in cc,
    )
    fails_or_lives a effect (stops p s live at now others e) = inr (p, s, live, λ kind g. ending_no_fault a kind (sym e ∙ g))

  pub fit_next : (before after : CodeProcess) (a : ℕ) (effect : Effect) → Fit code ok before → Turned code ok before after a effect → Fit code ok after
  fit_next before after a effect fit step = record {
    vars = step.vars ∙ fit.vars;
    threads = step.threads ∙ fit.threads;
    order = order_next (thread before.threads) (thread after.threads) fit.order a effect step.turn;
    begun = λ sound idle. ⊎_elim
        (λ f. let z : true ≡ false = sym (step.fails f.0 f.1) ∙ sound in cc)
        (λ l. begun_next (thread before.threads) (thread after.threads) fit.order a effect step.turn l.3 (fit.begun (sym (step.stays l.3) ∙ sound)) idle)
        (fails_or_lives (thread before.threads) (thread after.threads) fit.order a effect step.turn);
    gone = λ failed b. ⊎_elim
        (λ f. f.2 b)
        (λ l. let z : Idle ≡ Live l.0 l.1 = sym (fit.gone (sym (step.stays l.3) ∙ failed) a) ∙ l.2 in cc)
        (fails_or_lives (thread before.threads) (thread after.threads) fit.order a effect step.turn);
  }

  pub fit_start : Fit code ok (code_process code)
  fit_start =
      let none = map (λ (k : ℕ). Idle) code.entries in
      let n : length none ≡ arms code = length-map code.entries (λ (k : ℕ). Idle) in
      let some = ok.some in
      let main : thread (set none 0 (Live 0 [])) 0 ≡ Live 0 [] = get_or-set_same none 0 (Live 0 []) Idle (omega (arith, n, some)) in
      let others : (b : ℕ) → b ≢ 0 → thread (set none 0 (Live 0 [])) b ≡ Idle = λ b ne. get_or-set_other none 0 b
      (Live 0 []) Idle ne ∙ get_or-map (λ (k : ℕ). Idle) code.entries b 0 in
      let first = ok.lie.first in
      let stands : Stands 0 (Live 0 []) = (
        subst (IsInArm code 0) first (entry_in_arm code ok.lie 0 some),
        at_entry 0
            0 some (sym first),
        sym (ok.depths.starts 0 some) ∙ ap ok.depth first,
      ) in
      record {
        vars = length-replicate code.integers (pos 0);
        threads = length-set none 0 (Live 0 []) ∙ n;
        order = record {
          stands = λ b q u h. ⊎_elim
              (λ e. subst (λ k. IsInArm code k q × Reached code q × (length u ≡ ok.depth q)) (sym e) (subst (Stands 0)
              (sym main ∙ (ap (thread (set none 0 (Live 0 []))) (sym e) ∙ h)) stands))
              (λ ne. let z : Idle ≡ Live q u = sym (others b ne) ∙ h in cc)
              (same_or_not b 0);
          awaited = λ c some busy. elim (let z : ⊥ = busy (others c (λ e. omega (arith, e, some))) in z) [ ];
          woken = λ b q u f n c h join among idle. ⊎_elim
              (λ e.
              let there : 0 ≡ q = same_place 0 q [] u (sym main ∙ (ap (thread (set none 0 (Live 0 []))) (sym e) ∙ h)) in
              no_join_at_entry code ok.lie ok.fork 0 f n some (subst (λ k. InstrAt code k (Join f n)) (sym (first ∙ there)) join))
              (λ ne. let z : Idle ≡ Live q u = sym (others b ne) ∙ h in cc)
              (same_or_not b 0);
        };
        begun = λ sound idle. let z : Live 0 [] ≡ Idle = sym main ∙ idle in cc;
        gone = λ failed b. cc;
      }
