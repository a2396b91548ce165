-- What workers report, as a run of the code, and what is said of it.
use Rattle.std.proofs.Common.{◌≡◌, ℕ, ◌≤◌, List, [], ◌∷◌, ◌++◌, length, refl, sym, ◌∙◌, subst, arith}
use Rattle.std.proofs.lemmas.List.{length-map}
use Rattle.pb_base.specs.declared.event.Event.{Event}
use Rattle.pb_base.specs.Lines.{NameTable}
use Rattle.pb_base.specs.Steppers.{State}
use Rattle.pb_code.specs.Code.{CodeProcess}
use Rattle.pb_code.specs.Whole.{Code, code_opening}
use Rattle.pb_history.specs.Entries.{Entry, events_of, picks_of}
use Rattle.pb_history.specs.Leads.{Leads}
use Rattle.pb_history.proofs.TraceSteps.{traces_make}
use Rattle.pb_shared.specs.declared.outcome.Outcome.{Outcome}
use Rattle.pb_shared.specs.declared.outcome.Outcome.TheVariants as outcome
use Rattle.pb_verifier.specs.Verified.{VerifiedCode, IsVerified}
use Rattle.pb_workers.specs.Reports.{EndsAs, IsReport}
use Rattle.pb_workers.specs.declared.report.Report.{Report}
use Rattle.pb_accept.specs.ToldEvents.{shown}
use Rattle.pb_accept.specs.Sayings.{Saying, NoMemory, Threads}
use Rattle.pb_engines.specs.Outcomes.{SaysOfOutcome, all_done, some_fault, used_up}
use Rattle.pb_engines.specs.RunLaws.{ReportsFollowTheSource}
use Rattle.pb_engines.specs.Runs.{SaysOfCodeRun, at_limit, done, faulted, no_memory, no_threads}
use Rattle.pb_record.specs.CodeRuns.{Run}
use Rattle.pb_command_io.specs.declared.status.Status.{Status}
use Rattle.pb_command_io.specs.declared.status.Status.TheVariants as status
use Rattle.pb_engines.proofs.FaultLemmas.{faults_are_shown, shown_faults_are}
use Rattle.pb_base.specs.declared.lending.Lending.TheVariants.{ByBanker}

-- ---- the run that is reported

-- the run of a trace
abbrev run_of_entries : (code : Code) (end : State CodeProcess) (entries : List Entry) → Leads code (code_opening
    code) entries end → Run code (events_of entries) end
run_of_entries code end entries leads = record {
  picks = picks_of entries;
  makes = traces_make ByBanker code (code_opening code) end entries leads;
}

-- its picks are as many as the entries
few_picks : (entries : List Entry) (steps : ℕ) → length entries ≤ steps → length (picks_of entries) ≤ steps
few_picks entries steps few = let many = length-map entries (λ (e : Entry). e.pick) in omega (arith, many, few)

pub reports_follow_the_source : ReportsFollowTheSource
reports_follow_the_source text code labels compiled limit report is =
    let entries = report.trace.entries in
    (compiled.same ByBanker).no_more (events_of entries) (length entries)
    (picks_of entries, is.end, few_picks entries (length entries) (omega arith), traces_make ByBanker code (code_opening code) is.end entries is.leads)

-- ---- what is said of it

-- its events, and what is said after them
pub says_of_report : (v : VerifiedCode) (names : NameTable) (steps : ℕ) (report : Report) → IsVerified v → IsReport v.code steps report
    → names ≡ v.code.names → (last : Saying) (status : Status) → SaysOfOutcome (events_of report.trace.entries) steps report.outcome last status
    → SaysOfCodeRun v.code steps (shown names (events_of report.trace.entries) ++ last ∷ []) status
says_of_report v names steps report verified is same last status says =
    subst (λ (n : NameTable). SaysOfCodeRun v.code steps (shown n events ++ last ∷ []) status) (sym same)
    (go report.outcome is.ends last status says)
  where
    events : List Event
    events = events_of report.trace.entries

    run : Run v.code events is.end
    run = run_of_entries v.code is.end report.trace.entries is.leads

    few : length run.picks ≤ steps
    few = few_picks report.trace.entries steps is.few

    go : (o : Outcome) → EndsAs o steps report.trace.entries is.end → (last : Saying) (status : Status)
        → SaysOfOutcome events steps o last status → SaysOfCodeRun v.code steps (shown v.code.names events ++ last ∷ []) status
    go outcome.Done over _ _ (all_done none) = (
      events,
      length run.picks,
      done is.end run few over (λ fault. none (faults_are_shown v verified is.end report.trace.entries is.leads fault)),
    )
    go outcome.Done over _ _ (some_fault shows) = (
      events,
      length run.picks,
      faulted is.end run few over (shown_faults_are v verified is.end report.trace.entries is.leads shows),
    )
    go outcome.Limit (not_over, all) _ _ used_up = (
      events,
      length run.picks,
      at_limit is.end run not_over (length-map report.trace.entries (λ (e : Entry). e.pick) ∙ all),
    )

-- there is no report, since out of memory
pub says_no_memory : (code : Code) (steps : ℕ) → SaysOfCodeRun code steps (NoMemory ∷ []) status.Memory
says_no_memory code steps = ([], 0, no_memory refl)

-- or no thread
pub says_no_threads : (code : Code) (steps : ℕ) → SaysOfCodeRun code steps (Threads ∷ []) status.Threads
says_no_threads code steps = ([], 0, no_threads refl)
