-- From what is said of code to what is said of a text.
use Rattle.std.proofs.Common.{◌≡◌, ℕ, ◌≤◌, List, [], length, refl, subst, arith}
use Rattle.pb_base.specs.declared.event.Event.{Event}
use Rattle.pb_base.specs.declared.lending.Lending.TheVariants.{ByBanker}
use Rattle.pb_base.specs.declared.limits.TheConstants.{MAX_INPUT}
use Rattle.pb_code.specs.Whole.{Code, ProcessLabels, CodeCan, code_opening}
use Rattle.pb_codegen.specs.Compiled.{IsCompiled}
use Rattle.pb_accept.specs.Claims.{SaysOfAny}
use Rattle.pb_voice.specs.Inputs.{read}
use Rattle.pb_accept.specs.Sayings.{Saying}
use Rattle.pb_engines.specs.Runs.{SaysOfRun, done, faulted, at_limit, no_memory, no_threads}
use Rattle.pb_engines.specs.Runs.{SaysOfCodeRun, SaysOfTextRun, accepted}
use Rattle.pb_command_io.specs.declared.status.Status.{Status}
use Rattle.pb_voice.specs.Tellings.{Speaks}

-- the code can make the events of a run that is told
can_make : (code : Code) (steps : ℕ) (events : List Event) (n : ℕ) (said : List Saying) (status : Status)
    → SaysOfRun code steps events n said status → CodeCan code events n
can_make code steps events _ _ _ (done end run few is no_fault) = (run.picks, end, omega arith, run.makes)
can_make code steps events _ _ _ (faulted end run few is fault) = (run.picks, end, omega arith, run.makes)
can_make code steps events _ _ _ (at_limit end run not_done all) = (run.picks, end, omega arith, run.makes)
can_make code steps events _ _ _ (no_memory none) = ([], code_opening code, omega arith, (none, refl))
can_make code steps events _ _ _ (no_threads none) = ([], code_opening code, omega arith, (none, refl))

-- an accepted text, whose code is run
pub text_is_run : {T : Type 0} (tells breaks : T → Saying → T → Type 0) (old new : T) (answered : Status) (steps : ℕ) (bytes : List ℕ)
    (code given : Code) (labels : List ProcessLabels) → length bytes ≤ MAX_INPUT → IsCompiled bytes code labels → given ≡ code
    → Speaks tells breaks (SaysOfCodeRun given steps) old new answered → Speaks tells breaks (SaysOfAny (SaysOfTextRun steps) bytes) old new answered
text_is_run tells breaks old new answered steps bytes code given labels short compiled same told =
    go (subst (λ (c : Code). Speaks tells breaks (SaysOfCodeRun c steps) old new answered) same told)
  where
    go : Speaks tells breaks (SaysOfCodeRun code steps) old new answered → Speaks tells breaks (SaysOfAny (SaysOfTextRun steps) bytes) old new answered
    go (said, status, (events, n, run), ends) = (
      said,
      status,
      read said status short (accepted code labels compiled events n said status run
          ((compiled.same ByBanker).no_more events n (can_make code steps events n said status run))),
      ends,
    )
