-- The lines of the code's places follow the source.
use Rattle.std.proofs.Common.{◌≡◌, slice_get, ◌⊎◌, inl, inr, ⊎_elim, ℕ, ◌<◌, ◌≤◌, ℤ, List, [], length, get_or}
use Rattle.std.proofs.Common.{Option, Some, None, refl, sym, ◌∙◌, subst, arith, ◌↔◌, true, false}
use Rattle.std.proofs.lemmas.Bool.{cases_lt}
use Rattle.pb_base.specs.Steppers.{Bank}
use Rattle.pb_base.specs.Steppers.{State}
use Rattle.pb_names.specs.Program.{AllWellNumbered, Process}
use Rattle.pb_names.specs.Source.{Arm, Doing, Waiting, Ended, find, SourceProcess}
use Rattle.pb_code.specs.Code.{Thread, CodeProcess, Idle, Live, thread}
use Rattle.pb_names.specs.HeadLines.{first_line, head_line}
use Rattle.pb_generator.specs.Lines.{process_lines}
use Rattle.pb_codegen.specs.Correct.{generated, LinesAgree, IsFollowed}
use Rattle.pb_base.specs.Steppers.{IsFinished}
use Rattle.pb_names.specs.Source.{source_over}
use Rattle.pb_names.proofs.ArmNumbers.{Mine}
use Rattle.pb_code.specs.Code.{code_over}
use Rattle.pb_codegen.proofs.SimulationListings.{Listing, line_at}
use Rattle.pb_codegen.proofs.SimulationArms.{from_line}
use Rattle.pb_codegen.proofs.SimulationTrees.{Shows, locate}
use Rattle.pb_verifier.proofs.Threads.{thread_past}
use Rattle.pb_codegen.proofs.SimulationProcesses.{Alike, RunAlike}
use Rattle.pb_codegen.proofs.SimulationPlaces.{listing_of}
use Rattle.pb_codegen.proofs.SimulationRuns.{StatesAlike, AtProcess, absent, present, at_process, shadowed}
use Rattle.pb_codegen.proofs.SimulationRuns.{opening_alike}

module _ (code : Listing) (cp : CodeProcess) (a place : ℕ) (stack : List ℤ) (live : thread cp.threads a ≡ Live place stack) where
  arm_line : (arm : Arm) (low high : ℕ) → Shows code cp.threads a low high arm
      → line_at code place ≡ head_line arm
  arm_line (Doing items) low high h =
      let same : Live h.0 h.1 ≡ Live place stack = sym h.2 ∙ live in
      let at : h.0 ≡ place = cc in
      subst (λ k. line_at code k ≡ first_line items) at (from_line code items h.0 h.1 h.3)
  arm_line (Waiting line first arms rest) low high h =
      let same : Live h.0 [] ≡ Live place stack = sym h.1 ∙ live in
      let at : h.0 ≡ place = cc in
      subst (λ k. line_at code k ≡ Some line) at h.8
  arm_line Ended low high h = let w : Thread.Ended ≡ Live place stack = sym h.0 ∙ live in cc

  run_line : (run : Option Arm) → RunAlike code cp.threads cp.faulted run
      → (root : Arm) × (arm : Arm) × (run ≡ Some root) × (find a 0 root ≡ Some arm) ×
      (line_at code place ≡ head_line arm)
  run_line None h = let w : Idle ≡ Live place stack = sym (h.1 a) ∙ live in cc
  run_line (Some root) h = go (cases_lt a (length cp.threads))
    where
      mine : a < length cp.threads → (0 < a) ⊎ (a ≤ 0) → Mine 0 1 (length cp.threads) a
      mine u (inl q) = inr (omega arith)
      mine u (inr q) = inl (omega arith)

      go : (a < length cp.threads) ⊎ (length cp.threads ≤ a)
          → (root' : Arm) × (arm : Arm) × (Some root ≡ Some root') × (find a 0 root' ≡ Some arm) ×
          (line_at code place ≡ head_line arm)
      go (inl u) =
          ⊎_elim (λ l. (root, l.found, refl, l.is_found, arm_line l.found l.low l.high l.shows))
          (λ none. let w : Idle ≡ Live place stack = sym none.1 ∙ live in cc)
          (locate code cp.threads 0 1 (length cp.threads) root a h.2 (omega arith) (mine u (cases_lt 0 a)))
      go (inr u) = let w : Idle ≡ Live place stack = sym (thread_past cp.threads a u) ∙ live in cc

lines_agree : (program : List Process) (cs : State CodeProcess) (ss : State SourceProcess)
    → StatesAlike program cs ss → LinesAgree program cs ss
lines_agree program cs ss h p a place stack process cp sp in_program in_code in_source live =
    go (at_process program cs.processes ss.processes h.processes p)
  where
    go : AtProcess program cs.processes ss.processes p
        → (run : Arm) × (arm : Arm) × (sp.run ≡ Some run) × (find a 0 run ≡ Some arm) ×
        (get_or (process_lines process) place None ≡ head_line arm)
    go (absent c s) = let w : None ≡ Some cp = sym c ∙ in_code in cc
    go (present process' cp' sp' in_program' at c s alike change keep) =
        let e1 : Some process' ≡ Some process = sym in_program' ∙ in_program in
        let e1' : process' ≡ process = cc in
        let e2 : Some cp' ≡ Some cp = sym c ∙ in_code in
        let e2' : cp' ≡ cp = cc in
        let e3 : Some sp' ≡ Some sp = sym s ∙ in_source in
        let e3' : sp' ≡ sp = cc in
        let alike' : Alike (listing_of process) cp sp = subst (λ x. Alike (listing_of x) cp sp) e1' (subst (λ x. Alike
        (listing_of process') x sp) e2' (subst (λ x. Alike (listing_of process') cp' x) e3' alike)) in
        run_line (listing_of process) cp a place stack live sp.run alike'.run

-- ---- finished together

module _ (code : Listing) (cp : CodeProcess) where
  run_over : (run : Option Arm) → RunAlike code cp.threads cp.faulted run
      → ((cp.faulted ≡ true) ⊎ (thread cp.threads 0 ≡ Thread.Ended) → (run ≡ None) ⊎ (run ≡ Some Ended)) ×
      ((run ≡ None) ⊎ (run ≡ Some Ended) → (cp.faulted ≡ true) ⊎ (thread cp.threads 0 ≡ Thread.Ended))
  run_over None h = (λ o. inl refl, λ o. inl h.0)
  run_over (Some (Doing items)) h = (
    elim [
      | inl f ↦ (let w : false ≡ true = sym h.0 ∙ f in cc)
      | inr t ↦ (let w : Thread.Ended ≡ Live h.2.0 h.2.1 = sym t ∙
          h.2.2 in cc)
    ],
    elim [ inl n ↦ cc | inr n ↦ cc ],
  )
  run_over (Some (Waiting line first arms rest)) h = (
    elim [
      | inl f ↦ (let w : false ≡ true = sym h.0 ∙ f in cc)
      | inr t ↦ (let w : Thread.Ended ≡ Live h.2.0 [] = sym t ∙
          h.2.1 in cc)
    ],
    elim [ inl n ↦ cc | inr n ↦ cc ],
  )
  run_over (Some Ended) h = (λ o. inr refl, λ o. inr h.2.0)

finished_together : (program : List Process) (cs : State CodeProcess) (ss : State SourceProcess)
    → StatesAlike program cs ss → IsFinished code_over cs ↔ IsFinished source_over ss
finished_together program cs ss h = (
  λ f p sp in_source. to_source f p sp in_source (at_process program cs.processes ss.processes h.processes p),
  λ f p cp in_code. to_code f p cp in_code (at_process program cs.processes ss.processes h.processes p),
)
  where
    to_source : IsFinished code_over cs → (p : ℕ) (sp : SourceProcess) → slice_get ss.processes p ≡ Some sp
        → AtProcess program cs.processes ss.processes p → source_over sp
    to_source f p sp in_source (absent c s) = let w : None ≡ Some sp = sym s ∙ in_source in cc
    to_source f p sp in_source (present process cp sp' in_program at c s alike change keep) =
        let e : Some sp' ≡ Some sp = sym s ∙ in_source in
        let e' : sp' ≡ sp = cc in
        subst source_over e' ((run_over (listing_of process) cp sp'.run alike.run).0 (f p cp c))

    to_code : IsFinished source_over ss → (p : ℕ) (cp : CodeProcess) → slice_get cs.processes p ≡ Some cp
        → AtProcess program cs.processes ss.processes p → code_over cp
    to_code f p cp in_code (absent c s) = let w : None ≡ Some cp = sym c ∙ in_code in cc
    to_code f p cp in_code (present process cp' sp in_program at c s alike change keep) =
        let e : Some cp' ≡ Some cp = sym c ∙ in_code in
        let e' : cp' ≡ cp = cc in
        subst code_over e' ((run_over (listing_of process) cp' sp.run alike.run).1 (f p sp s))

pub is_followed : (bank : Bank) (program : List Process) → AllWellNumbered program
    → IsFollowed bank program (generated program)
is_followed bank program h = record {
  by_shadow = λ picks events s m.
      let sh = shadowed bank program _ _ picks events s (opening_alike bank program h) m in
      (sh.last, sh.makes, lines_agree program s sh.last sh.alike, finished_together program s sh.last sh.alike);
}
