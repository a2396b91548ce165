-- One step of a process in code, against one step of the process in the source.
use Rattle.std.proofs.Common.{◌≡◌, ◌⊎◌, inl, inr, ⊎_elim, ℕ, suc, ◌+◌, ◌<◌, ◌≤◌, ℤ, Bool, true, false}
use Rattle.std.proofs.Common.{cond, ◌&&◌, List, [], ◌∷◌, ◌++◌, length, set, Option, Some, None}
use Rattle.std.proofs.Common.{option_map, option_and_then, refl, sym, ap, ◌∙◌, subst, arith, append-nil}
use Rattle.std.proofs.Common.{length-append, length-set, get_or-set_same, get_or-set_other}
use Rattle.std.specs.Prelude.{slice_get}
use Rattle.std.proofs.lemmas.Bool.{cases_lt}
use Rattle.std.proofs.Math.ListN.{get_or-map}
use Rattle.pb_base.specs.Steppers.{Effect, Silent, Faults, ending}
use Rattle.pb_names.specs.Program.{Block, Arms, NoArm, AndArm, count, arms_in, arms_in_arms, AreNumbered}
use Rattle.pb_names.specs.Source.{Item, items_of, Arm, Doing, Waiting, Ended, Running, Nothing, running_arms}
use Rattle.pb_names.specs.Source.{Beside, begin, is_ended, all_ended, ArmStep, Goes, step_arm, find, put}
use Rattle.pb_names.specs.Source.{SourceProcess, settle, step_run}
use Rattle.pb_names.proofs.ArmNumbers.{Mine, running_begin}
use Rattle.pb_code.specs.Code.{Instr, End, Join, Thread, Idle, Live, CodeProcess, thread, ThreadStep}
use Rattle.pb_code.specs.Code.{act, is_over, all_over, launch, dismiss, apply_step, step_thread, step_process}
use Rattle.pb_code.specs.Shadows.{is_skip, instr_skips, skips_at, is_at_skip}
use Rattle.pb_verifier.proofs.Threads.{thread_past, length-launch, launch_out, launch_in, length-dismiss, dismiss_out}
use Rattle.pb_verifier.proofs.Threads.{dismiss_in}
use Rattle.pb_generator.specs.Generate.{block_code, arm_code}
use Rattle.pb_generator.specs.Lines.{block_lines}
use Rattle.pb_codegen.proofs.SimulationListings.{Listing, line_at, lines_front, lines_back, length-block_lines}
use Rattle.pb_code.proofs.Chains.{after_skip, Chain, chain_on}
use Rattle.pb_codegen.proofs.SimulationExpressions.{has_front, has_back}
use Rattle.pb_codegen.proofs.SimulationArms.{entry, Has, Lines, Placed, ArmsPlaced, StandsFrom, at_end}
use Rattle.pb_codegen.proofs.SimulationArms.{block_stands, Follows, skips, goes, breaks, forks, ends, follows}
use Rattle.pb_codegen.proofs.SimulationTrees.{AreIdle, Owns, Shows, AllShow, all_show_le, outside}
use Rattle.pb_codegen.proofs.SimulationTrees.{Located}
use Rattle.pb_codegen.proofs.SimulationTrees.{locate}
use Rattle.pb_codegen.proofs.SimulationNumbers.{owns_block, keeps}

-- ---- arms that begin, and arms that have all ended

pub arm_stands : (code : Listing) (p : ℕ) (arm : Block) → Has code p (arm_code p arm)
    → Lines code p (block_lines arm None ++ None ∷ []) → Placed code arm → StandsFrom code (items_of arm) p []
arm_stands code p arm h ls placed =
    let line : line_at code (p + length (block_code p arm)) ≡ None = subst (λ k. line_at code (p + k) ≡ None)
    (length-block_lines p arm None) (lines_back code.lines p (block_lines arm None) (None ∷ []) ls).0 in
    let at : slice_get code.instrs (p + length (block_code p arm)) ≡ Some End =
    (has_back code.instrs p (block_code p arm) (End ∷ []) h).0 in
    subst (λ items. StandsFrom code items p []) (append-nil (items_of arm))
    (block_stands code arm p [] (has_front code.instrs p (block_code p arm) (End ∷ []) h) (lines_front code.lines p
    (block_lines arm None) (None ∷ []) ls) placed
    (record { jumps = 0; first = _; reaches = refl; stands = at_end _ at line }))

begin_shows : (code : Listing) (threads : List Thread) (n lo hi : ℕ) (arms : Arms) → ArmsPlaced code n arms
    → AreNumbered lo arms → lo + length (arms_in_arms arms) ≤ hi
    → ((b : ℕ) → n ≤ b → b < n + count arms → thread threads b ≡ Live (entry code b) [])
    → AreIdle threads lo hi → AllShow code threads n lo hi (begin arms)
begin_shows code threads n lo hi NoArm placed numbered u live idle = (omega arith, idle)
begin_shows code threads n lo hi (AndArm arm arms) placed numbered u live idle =
    let mid = lo + length (arms_in arm) in
    let len : lo + length (arms_in arm) + length (arms_in_arms arms) ≤ hi = omega (arith, length-append (arms_in arm) (arms_in_arms arms)) in (
      mid,
      (
        entry code n,
        [],
        live n (omega arith) (omega arith),
        arm_stands code (entry code n) arm placed.0 placed.1 placed.2,
        subst (Owns lo mid) (append-nil (items_of arm)) (owns_block lo mid arm [] (lo, omega arith, numbered.0, omega arith) (omega arith)),
        omega arith,
        λ b l v. idle b l (omega arith),
      ),
      begin_shows code threads (n + 1) mid hi arms placed.3 numbered.1 len (λ b l v. live b (omega arith) (omega arith)) (λ b l v. idle b (omega arith) v),
    )

over_ended : (code : Listing) (threads : List Thread) (n lo hi : ℕ) (arm : Arm)
    → Shows code threads n lo hi arm → is_over (thread threads n) ≡ is_ended arm
over_ended code threads n lo hi (Doing items) h = ap is_over h.2
over_ended code threads n lo hi (Waiting line first arms rest) h = ap is_over h.1
over_ended code threads n lo hi Ended h = ap is_over h.0

all_over_ended : (code : Listing) (threads : List Thread) (n lo hi : ℕ) (arms : Running)
    → AllShow code threads n lo hi arms → all_over threads n (running_arms arms) ≡ all_ended arms
all_over_ended code threads n lo hi Nothing h = refl
all_over_ended code threads n lo hi (Beside arm arms) h =
    ap (λ b. b && all_over threads (n + 1) (running_arms arms)) (over_ended code threads n lo h.0 arm h.1)
    ∙ ap (λ b. is_ended arm && b) (all_over_ended code threads (n + 1) h.0 hi arms h.2)

ended_idle : (code : Listing) (threads : List Thread) (n lo hi : ℕ) (arms : Running)
    → AllShow code threads n lo hi arms → all_ended arms ≡ true → AreIdle threads lo hi
ended_idle code threads n lo hi Nothing h e = h.1
ended_idle code threads n lo hi (Beside (Doing items) arms) h e = cc
ended_idle code threads n lo hi (Beside (Waiting line first inner rest) arms) h e = cc
ended_idle code threads n lo hi (Beside Ended arms) h e = λ b l u.
    ⊎_elim (λ q. h.1.2 b l q) (λ q. ended_idle code threads (n + 1) h.0 hi arms h.2 e b q u) (cases_lt b h.0)

-- ---- a step

abbrev pub RunAlike : Listing → List Thread → Bool → Option Arm → Type 0
RunAlike code threads faulted None = (faulted ≡ true) × ((a : ℕ) → thread threads a ≡ Idle)
RunAlike code threads faulted (Some root) =
    (faulted ≡ false) × (1 ≤ length threads) × Shows code threads 0 1 (length threads) root

pub record Alike (code : Listing) (cp : CodeProcess) (sp : SourceProcess) : Type 0 where
  pub vars : cp.vars ≡ sp.vars
  pub run : RunAlike code cp.threads cp.faulted sp.run

-- what the process may do next, in the code and in the source
pub data StepsAlike (code : Listing) (cp : CodeProcess) (sp : SourceProcess) (a : ℕ) : Type 0 where
  neither : step_process code.code cp a ≡ None → option_and_then (step_run sp.vars a) sp.run ≡ None
      → StepsAlike code cp sp a
  skip : (cp' : CodeProcess) → is_at_skip code.code cp a ≡ true
      → step_process code.code cp a ≡ Some (cp', Silent) → Alike code cp' sp
      → ((k : ℕ) → Chain code.code cp a (suc k) → Chain code.code cp' a k) → StepsAlike code cp sp a
  both : (cp' : CodeProcess) (sp' : SourceProcess) (effect : Effect) → is_at_skip code.code cp a ≡ false
      → step_process code.code cp a ≡ Some (cp', effect)
      → option_and_then (step_run sp.vars a) sp.run ≡ Some (sp', effect) → Alike code cp' sp'
      → StepsAlike code cp sp a

module _ (code : Listing) (cp : CodeProcess) (a : ℕ) where
  code_steps : (p : ℕ) (s : List ℤ) (i : Instr) (st : ThreadStep) → thread cp.threads a ≡ Live p s
      → slice_get code.instrs p ≡ Some i → act cp.vars i p s ≡ Some st
      → step_process code.code cp a ≡ apply_step code.code cp a st
  code_steps p s i st live at acts =
      ap (step_thread code.code cp a) live
      ∙ ap (option_and_then (λ i. option_and_then (apply_step code.code cp a) (act cp.vars i p s))) at
      ∙ ap (option_and_then (apply_step code.code cp a)) acts

  is_skipping : (p : ℕ) (s : List ℤ) (i : Instr) (b : Bool) → thread cp.threads a ≡ Live p s
      → slice_get code.instrs p ≡ Some i → is_skip i ≡ b → is_at_skip code.code cp a ≡ b
  is_skipping p s i b live at e = ap (skips_at code.code) live ∙ ap instr_skips at ∙ e

  module _ (root : Arm) where
    source_steps : (found : Arm) (st : ArmStep) → find a 0 root ≡ Some found
        → step_arm cp.vars found ≡ Some st → step_run cp.vars a root ≡ Some (settle cp.vars root a st)
    source_steps found st f e =
        ap (option_and_then (λ arm. option_map (settle cp.vars root a) (step_arm cp.vars arm))) f
        ∙ ap (option_map (settle cp.vars root a)) e

    -- a new table, in which what arm a owns shows a new arm, and the rest is as it was
    settled : (vars : List ℤ) (threads' : List Thread) (faulted : Bool) (new : Arm)
        (l : Located code cp.threads 0 1 (length cp.threads) root a) → faulted ≡ false → 1 ≤ length cp.threads
        → length threads' ≡ length cp.threads
        → ((b : ℕ) → (Mine a l.low l.high b → ⊥) → thread threads' b ≡ thread cp.threads b)
        → Shows code threads' a l.low l.high new
        → Alike code (record { vars = vars; threads = threads'; faulted = faulted })
        (record { vars = vars; run = Some (put a new 0 root) })
    settled vars threads' faulted new l f some len other shows = record {
      vars = refl;
      run = (f, omega arith, subst (λ k. Shows code threads' 0 1 k (put a new 0 root)) (sym len) (l.back threads' new (λ b m out. other b out) shows));
    }

    -- arm a alone has a new thread
    one_new : (vars : List ℤ) (t : Thread) (faulted : Bool) (new : Arm) (l : Located code cp.threads 0 1 (length
        cp.threads) root a) → faulted ≡ false → a < length cp.threads → AreIdle cp.threads l.low l.high → (AreIdle
        (set cp.threads a t) l.low l.high → thread (set cp.threads a t) a ≡ t → Shows code (set cp.threads a t) a
        l.low l.high new) → Alike code (record { vars = vars; threads = set cp.threads a t; faulted = faulted })
        (record { vars = vars; run = Some (put a new 0 root) })
    one_new vars t faulted new l f within idle shows =
        let less : a < l.low = l.before in
        let other : (b : ℕ) → (b ≡ a → ⊥) → thread (set cp.threads a t) b ≡ thread cp.threads b =
        λ b ne. get_or-set_other cp.threads a b t Idle ne in
        settled vars (set cp.threads a t) faulted new l f (omega arith) (length-set cp.threads a t) (λ b out. other b (λ e. out (inl e)))
        (shows (λ b lo u. other b (λ e. omega arith) ∙ idle b lo u) (get_or-set_same cp.threads a t Idle within))

    module _ (l : Located code cp.threads 0 1 (length cp.threads) root a) (alive : cp.faulted ≡ false) (within : a < length cp.threads) where
      forked : (line first : ℕ) (arms : Arms) (rest : List Item) (p : ℕ) → AreIdle cp.threads l.low l.high → Owns
          l.low l.high (Item.Parbegin line first arms ∷ rest) → slice_get code.instrs p ≡ Some (Join first (count arms)) →
          line_at code p ≡ Some line → StandsFrom code rest (p + 1) [] → ArmsPlaced code first arms → Alike code
          (record {
            vars = cp.vars;
            threads = launch code.entries (set cp.threads a (Live p [])) first (count arms);
            faulted = cp.faulted;
          }) (record {
            vars = cp.vars;
            run = Some (put a (Waiting line first (begin arms) rest) 0
                root);
          })
      forked line first arms rest p idle owns joins line_is stands placed =
          let low_first : l.low ≤ first = owns.0.0 in
          let numbered : AreNumbered (first + count arms) arms = owns.0.1 in
          let enough : first + count arms + length (arms_in_arms arms) ≤ l.high = owns.0.2 in
          let less : a < l.low = l.before in
          let bound : l.high ≤ length cp.threads = l.under in
          let mid = set cp.threads a (Live p []) in
          let threads' = launch code.entries mid first (count arms) in
          let len : length mid ≡ length cp.threads = length-set cp.threads a (Live p []) in
          let other : (b : ℕ) → (b < first) ⊎ (first + count arms ≤ b) → (b ≡ a → ⊥) → thread threads' b ≡ thread cp.threads b =
          λ b o ne. launch_out code.entries mid first (count arms) b o ∙ get_or-set_other cp.threads a b (Live p []) Idle ne in
          let e : count arms ≡ running_arms (begin arms) = sym (running_begin arms) in
          settled cp.vars threads' cp.faulted (Waiting line first (begin arms) rest) l alive (omega arith)
          (length-launch code.entries mid first (count arms) ∙ len)
          (λ b out. other b (apart b first (count arms) out (omega arith) (omega arith)) (λ q. out (inl q))) (
            p,
            launch_out code.entries mid first (count arms) a (inl (omega arith)) ∙ get_or-set_same cp.threads a (Live p []) Idle within,
            joins ∙ ap (λ k. Some (Join first k)) e,
            stands,
            owns.1,
            low_first,
            λ b lo u. other b (inl u) (λ q. omega arith) ∙ idle b lo (omega arith),
            subst (λ k. AllShow code threads' first (first + k) l.high (begin arms)) e
                (begin_shows code threads' first (first + count arms) l.high arms placed numbered enough
                (λ b lo u. launch_in code.entries mid first (count arms) b lo u (omega arith))
                (λ b lo u. other b (inr lo) (λ q. omega arith) ∙ idle b (omega arith) u)),
            line_is,
          )
        where
          apart : (b first k : ℕ) → (Mine a l.low l.high b → ⊥) → l.low ≤ first → first + k ≤ l.high
              → (b < first) ⊎ (first + k ≤ b)
          apart b first k out lo hi = ⊎_elim (λ q. inl q) (λ q. ⊎_elim (λ u. absurd (out (inr (omega arith)))) (λ u.
              inr u) (cases_lt b (first + k))) (cases_lt b first)

      joined : (line first : ℕ) (arms : Running) (rest : List Item) (h : Shows code cp.threads a l.low l.high (Waiting
          line first arms rest)) → all_ended arms ≡ true → Alike code (record {
            vars = cp.vars;
            threads = dismiss (set
                cp.threads a (Live (h.0 + 1) [])) first (running_arms arms);
            faulted = cp.faulted;
          }) (record {
            vars = cp.vars;
            run =
                Some (put a (Doing rest) 0 root);
          })
      joined line first arms rest h ended =
          let t = Live (h.0 + 1) [] in
          let low_first : l.low ≤ first = h.5 in
          let enough = all_show_le code cp.threads first (first + running_arms arms) l.high arms h.7 in
          let less : a < l.low = l.before in
          let bound : l.high ≤ length cp.threads = l.under in
          let mid = set cp.threads a t in
          let threads' = dismiss mid first (running_arms arms) in
          let len : length mid ≡ length cp.threads = length-set cp.threads a t in
          let other : (b : ℕ) → (b < first) ⊎ (first + running_arms arms ≤ b) → (b ≡ a → ⊥) → thread threads' b ≡ thread cp.threads b =
          λ b o ne. dismiss_out mid first (running_arms arms) b o ∙ get_or-set_other cp.threads a b t Idle ne in
          settled cp.vars threads' cp.faulted (Doing rest) l alive (omega arith) (length-dismiss mid first (running_arms arms) ∙ len)
          (λ b out. other b (apart b first (running_arms arms) out (omega arith) enough) (λ q. out (inl q))) (
            h.0 + 1,
            [],
            dismiss_out mid first (running_arms arms) a (inl (omega arith)) ∙ get_or-set_same cp.threads a t Idle within,
            h.3,
            h.4,
            omega arith,
            λ b lo u. ⊎_elim (λ q. other b (inl q) (λ z. omega arith) ∙ h.6 b lo q)
                (λ q. ⊎_elim (λ r. dismiss_in mid first (running_arms arms) b q r (omega arith))
                (λ r. other b (inr r) (λ z. omega arith) ∙ ended_idle code cp.threads first (first + running_arms arms) l.high
                arms h.7 ended b r u) (cases_lt b (first + running_arms arms)))
                (cases_lt b first),
          )
        where
          apart : (b first k : ℕ) → (Mine a l.low l.high b → ⊥) → l.low ≤ first → first + k ≤ l.high
              → (b < first) ⊎ (first + k ≤ b)
          apart b first k out lo hi = ⊎_elim (λ q. inl q) (λ q. ⊎_elim (λ u. absurd (out (inr (omega arith)))) (λ u.
              inr u) (cases_lt b (first + k))) (cases_lt b first)

      doing : (items : List Item) → find a 0 root ≡ Some (Doing items) → put a (Doing items) 0 root ≡ root
          → (h : Shows code cp.threads a l.low l.high (Doing items)) → Follows code cp.vars items h.0 h.1
          → StepsAlike code cp (record { vars = cp.vars; run = Some root }) a
      doing items f same h (skips i p' s' at skips' after acts stands) =
          let t = Live p' s' in
          skip (record { vars = cp.vars; threads = set cp.threads a t; faulted = cp.faulted }) (is_skipping h.0 h.1 i
          true h.2 at skips') (code_steps h.0 h.1 i _ h.2 at acts)
          (subst (λ r. Alike code (record { vars = cp.vars; threads = set cp.threads a t; faulted = cp.faulted })
          (record { vars = cp.vars; run = Some r })) same
          (one_new cp.vars t cp.faulted (Doing items) l alive within h.6 (λ idle e. (p', s', e, stands, h.4, h.5, idle))))
          (λ k. chain_on code.code cp (record { vars = cp.vars; threads = set cp.threads a t; faulted = cp.faulted })
          a k h.0 p' h.1 s' h.2 (ap (option_and_then (λ i. after_skip i h.0)) at ∙ after) (get_or-set_same
          cp.threads a t Idle within))
      doing items f same h (goes i vars' items' effect p' s' at no_skip acts steps stands) =
          both _ _ effect (is_skipping h.0 h.1 i false h.2 at no_skip) (code_steps h.0 h.1 i _ h.2 at acts) (source_steps (Doing items) _ f (ap Some steps))
          (one_new vars' (Live p' s') cp.faulted (Doing items') l alive within h.6 (λ idle e. (
            p',
            s',
            e,
            stands,
            keeps l.low l.high cp.vars vars' items items' effect h.4 steps,
            h.5,
            idle,
          )))
      doing items f same h (breaks i kind at no_skip acts steps) =
          both _ _ (Faults kind) (is_skipping h.0 h.1 i false h.2 at no_skip) (code_steps h.0 h.1 i _ h.2 at acts)
          (source_steps (Doing items) _ f (ap Some steps))
          (record { vars = refl; run = (refl, λ b. get_or-map (λ (t : Thread). Idle) cp.threads b Idle) })
      doing items f same h (forks i line first arms rest p' is_parallel at no_skip acts steps joins line_is stands placed) =
          both _ _ Silent (is_skipping h.0 h.1 i false h.2 at no_skip) (code_steps h.0 h.1 i _ h.2 at acts) (source_steps (Doing items) _ f (ap Some steps))
          (forked line first arms rest p' h.6 (subst (Owns l.low l.high) is_parallel h.4) joins line_is stands placed)
      doing items f same h (ends i at no_skip acts steps) =
          both _ _ (ending a) (is_skipping h.0 h.1 i false h.2 at no_skip) (code_steps h.0 h.1 i _ h.2 at acts) (source_steps (Doing items) _ f (ap Some steps))
          (one_new cp.vars Thread.Ended cp.faulted Ended l alive within h.6 (λ idle e. (e, h.5, idle)))

      waiting : (line first : ℕ) (arms : Running) (rest : List Item) (b : Bool) → all_ended arms ≡ b
          → find a 0 root ≡ Some (Waiting line first arms rest)
          → (h : Shows code cp.threads a l.low l.high (Waiting line first arms rest))
          → StepsAlike code cp (record { vars = cp.vars; run = Some root }) a
      waiting line first arms rest true e f h =
          let over = all_over_ended code cp.threads first (first + running_arms arms) l.high arms h.7 ∙ e in
          let joins : Option (CodeProcess × Effect) = Some (
            record {
              vars = cp.vars;
              threads = dismiss (set cp.threads
                  a (Live (h.0 + 1) [])) first (running_arms arms);
              faulted = cp.faulted;
            },
            Silent,
          ) in
          both _ _ Silent (is_skipping h.0 [] (Join first (running_arms arms)) false h.1 h.2 refl)
          (code_steps h.0 [] (Join first (running_arms arms)) _ h.1 h.2 refl ∙ ap (λ o. cond o joins None) over)
          (ap (option_and_then (λ arm. option_map (settle cp.vars root a) (step_arm cp.vars arm))) f ∙ ap (λ o.
          option_map (settle cp.vars root a) (cond o (Some (Goes cp.vars (Doing rest) Silent)) None)) e)
          (joined line first arms rest h e)
      waiting line first arms rest false e f h =
          let over = all_over_ended code cp.threads first (first + running_arms arms) l.high arms h.7 ∙ e in
          let joins : Option (CodeProcess × Effect) = Some (
            record {
              vars = cp.vars;
              threads = dismiss (set cp.threads
                  a (Live (h.0 + 1) [])) first (running_arms arms);
              faulted = cp.faulted;
            },
            Silent,
          ) in
          neither
          (code_steps h.0 [] (Join first (running_arms arms)) _ h.1 h.2 refl ∙ ap (λ o. cond o joins None) over)
          (ap (option_and_then (λ arm. option_map (settle cp.vars root a) (step_arm cp.vars arm))) f ∙ ap (λ o.
          option_map (settle cp.vars root a) (cond o (Some (Goes cp.vars (Doing rest) Silent)) None)) e)

      found_alike : (found : Arm) → find a 0 root ≡ Some found → put a found 0 root ≡ root
          → Shows code cp.threads a l.low l.high found
          → StepsAlike code cp (record { vars = cp.vars; run = Some root }) a
      found_alike (Doing items) f same h = doing items f same h (follows code cp.vars items h.0 h.1 h.3)
      found_alike (Waiting line first arms rest) f same h =
          waiting line first arms rest (all_ended arms) refl f h
      found_alike Ended f same h = neither (ap (step_thread code.code cp a) h.0) (ap (option_and_then (λ arm.
          option_map (settle cp.vars root a) (step_arm cp.vars arm))) f)

    not_there : find a 0 root ≡ None → thread cp.threads a ≡ Idle
        → StepsAlike code cp (record { vars = cp.vars; run = Some root }) a
    not_there f idle = neither (ap (step_thread code.code cp a) idle) (ap (option_and_then (λ arm. option_map (settle
        cp.vars root a) (step_arm cp.vars arm))) f)

    root_alike : RunAlike code cp.threads cp.faulted (Some root)
        → StepsAlike code cp (record { vars = cp.vars; run = Some root }) a
    root_alike h = go (cases_lt a (length cp.threads))
      where
        mine : a < length cp.threads → (0 < a) ⊎ (a ≤ 0) → Mine 0 1 (length cp.threads) a
        mine u (inl q) = inr (omega arith)
        mine u (inr q) = inl (omega arith)

        go : (a < length cp.threads) ⊎ (length cp.threads ≤ a)
            → StepsAlike code cp (record { vars = cp.vars; run = Some root }) a
        go (inl u) =
            ⊎_elim (λ l. found_alike l h.0 u l.found l.is_found l.same l.shows) (λ none. not_there none.0 none.1)
            (locate code cp.threads 0 1 (length cp.threads) root a h.2 (omega arith) (mine u (cases_lt 0 a)))
        go (inr u) =
            let some : 1 ≤ length cp.threads = h.1 in
            not_there (outside code cp.threads 0 1 (length cp.threads) root a h.2 (elim [
              | inl m ↦ (omega arith)
              | inr
                  m ↦ (omega arith)
            ])).0 (thread_past cp.threads a u)

  run_alike : (run : Option Arm) → RunAlike code cp.threads cp.faulted run
      → StepsAlike code cp (record { vars = cp.vars; run = run }) a
  run_alike None h = neither (ap (step_thread code.code cp a) (h.1 a)) refl
  run_alike (Some root) h = root_alike root h

  -- the code's next step at arm a, and the source's
  pub steps_alike : (sp : SourceProcess) → Alike code cp sp → StepsAlike code cp sp a
  steps_alike sp h = subst (λ vars. StepsAlike code cp (record { vars = vars; run = sp.run }) a) h.vars (run_alike sp.run h.run)
