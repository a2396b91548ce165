-- What is said of a pick with which a process faulted.
use Rattle.std.proofs.Common.{◌≡◌, ℕ, Option, Some, slice_get, sym, ap, ◌∙◌, subst}
use Rattle.pb_base.specs.declared.pick.Pick.{Pick}
use Rattle.pb_base.specs.Lines.{NameTable}
use Rattle.pb_base.specs.Steppers.{State}
use Rattle.pb_code.specs.Code.{CodeProcess, ProcessCode, Thread, thread}
use Rattle.pb_history.specs.Positions.{state_after}
use Rattle.pb_debug.specs.Answers.{SaysFaulted, shown_names}
use Rattle.pb_debug.specs.Value.{Debugging}
use Rattle.pb_debug_positions.specs.Searches.{line_in}
use Rattle.pb_debug_texts.specs.Faults.{fault_text}

-- it is what a machine shows just before the pick
pub says_faulted : (d : Debugging) (k : ℕ) (pick : Pick) (p a : ℕ) (s : State CodeProcess) (names : NameTable) (line : Option ℕ)
    (code : ProcessCode) (process : CodeProcess) (t : Thread) → slice_get d.picks k ≡ Some pick → p ≡ pick.process → a ≡ pick.arm
    → s ≡ state_after d.verified.code d.picks k → names ≡ shown_names d → slice_get d.verified.code.processes p ≡ Some code
    → slice_get s.processes p ≡ Some process → t ≡ thread process.threads a
    → line ≡ line_in (slice_get d.labels p) (slice_get s.processes p) a
    → SaysFaulted d k (fault_text names pick line code t)
says_faulted d k pick p a s names line code process t there its arm state named coded stands live lined =
    let after : State CodeProcess = state_after d.verified.code d.picks k in
    let before : slice_get after.processes p ≡ Some process =
    sym (ap (λ (x : State CodeProcess). slice_get x.processes p) state) ∙ stands in
    let at =
    lined
    ∙ (ap (λ (x : State CodeProcess). line_in (slice_get d.labels p) (slice_get x.processes p) a) state
    ∙ (ap (λ (q : ℕ). line_in (slice_get d.labels q) (slice_get after.processes q) a) its
    ∙ ap (λ (b : ℕ). line_in (slice_get d.labels pick.process) (slice_get after.processes pick.process) b) arm)) in
    record {
      pick = pick;
      code = code;
      process = process;
      there = there;
      code_there = subst (λ (q : ℕ). slice_get d.verified.code.processes q ≡ Some code) its coded;
      process_there = subst (λ (q : ℕ). slice_get after.processes q ≡ Some process) its before;
      text_is =
          ap (λ (n : NameTable). fault_text n pick line code t) named
          ∙ (ap (λ (l : Option ℕ). fault_text (shown_names d) pick l code t) at
          ∙ ap (λ (u : Thread). fault_text (shown_names d) pick (line_in (slice_get d.labels pick.process) (slice_get after.processes pick.process) pick.arm) code u)
          (live ∙ ap (thread process.threads) arm));
    }
