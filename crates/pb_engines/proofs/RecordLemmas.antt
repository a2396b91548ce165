-- What is told of the picks of a run that are recorded.
use Rattle.std.proofs.Common.{◌≡◌, ◌≢◌, ◌⊎◌, ℕ, ◌-◌, ◌<◌, ◌≤◌, List, [], ◌∷◌, ◌++◌, length}
use Rattle.std.proofs.Common.{Option, Some, None, IfErr, IfSome, MatchOption, refl, sym, ap, subst, ◌∙◌}
use Rattle.std.proofs.Common.{length-append, arith, codes, inl, inr, Result, Ok, Err, IfOk}
use Rattle.std.specs.Prelude.{All, slice_get, slice_index_or}
use Rattle.std.proofs.lemmas.Bool.{cases_order}
use Rattle.std.proofs.lemmas.Option.{slice_get_within}
use Rattle.pb_base.specs.Lines.{HasProcess, NameTable, line}
use Rattle.pb_base.specs.declared.lending.Lending.{Lending}
use Rattle.pb_base.specs.declared.lending.Lending.TheVariants.{ByBanker}
use Rattle.pb_base.specs.declared.limits.TheConstants.{MAX_INPUT}
use Rattle.pb_base.specs.Steppers.{State}
use Rattle.pb_code.specs.Code.{CodeProcess}
use Rattle.pb_code.specs.Whole.{Code, ProcessLabels}
use Rattle.pb_codegen.specs.Compiled.{IsCompiled}
use Rattle.pb_history.specs.declared.counted.CountedPick.{CountedPick}
use Rattle.pb_picks.specs.PickLines.{pick_lines}
use Rattle.pb_verifier.specs.Verified.{VerifiedCode, IsFaultless, IsVerified}
use Rattle.pb_verifier.specs.declared.fault.VerifyFault.TheVariants.{OutOfLimits}
use Rattle.pb_workers.specs.declared.fault.RunFault.{RunFault}
use Rattle.pb_workers.specs.declared.fault.RunFault.TheVariants.{Foreign, Limits, NoMemory as OutOfMemory, NoThread}
use Rattle.pb_accept.specs.Claims.{SaysOfAny}
use Rattle.pb_accept.specs.ReplayLines.{IsEnding}
use Rattle.pb_accept.specs.RunTexts.{EndsLine, IsEnded}
use Rattle.pb_accept.specs.Sayings.{Saying, LongOutput}
use Rattle.pb_accept.specs.ToldRuns.{SaysOfRecorded, recorded as told_recorded, too_long as told_too_long, no_memory as told_no_memory}
use Rattle.pb_accept.specs.declared.ending.Ending.{Ending}
use Rattle.pb_accept.specs.declared.ending.Ending.TheVariants.{Over, Stuck, Open}
use Rattle.pb_code.specs.Reached.{CodeReaches}
use Rattle.pb_command_io.specs.declared.status.Status.{Status}
use Rattle.pb_command_io.specs.declared.status.Status.TheVariants.{Deadlock, Device, Done, Refused}
use Rattle.pb_engines.specs.Made.{CanBeTold, SaysOfMade, made_picks, too_many, no_threads as no_run, no_memory as made_no_memory}
use Rattle.pb_engines.specs.Records.{IsRecordedWith, SaysOfRecord, SaysOfRecording, accepted, no_threads, recorded_status, too_long, written}
use Rattle.pb_engines.specs.declared.record.Recorded.{Recorded}
use Rattle.pb_history.specs.Replays.{spread}
use Rattle.pb_machine.proofs.NeverStuck.{goes_on}
use Rattle.pb_options.specs.Lends.{lending_for}
use Rattle.pb_options.specs.declared.options.Lend.{Lend}
use Rattle.pb_options.specs.declared.options.Lend.TheVariants.{Banker}
use Rattle.pb_record.specs.Recorded.{IsRecorded, IsTooLong}
use Rattle.pb_record.proofs.EndedRuns.{done_stays}
use Rattle.pb_record.proofs.RecordedPicks.{recorded_can_be_said}
use Rattle.pb_voice.specs.Inputs.{no_memory, read}
use Rattle.pb_voice.specs.Tellings.{Speaks}

-- the process of each recorded pick has a name
pub have_processes : (lending : Lending) (code : Code) (steps : ℕ) (seed : Option ℕ) (picks given : List CountedPick) (status : Status) (names : NameTable)
    → IsFaultless code → steps ≤ 10000000 → IsRecordedWith lending code steps seed picks status → given ≡ picks → names ≡ code.names
    → All (λ c. HasProcess names c.pick.process) given
have_processes lending code steps seed picks given status names faultless most is same of =
    let said = recorded_can_be_said lending code faultless steps seed picks is.end most is.recorded in
    let all : All (λ c. HasProcess code.names c.pick.process) picks = λ k d lt.
    let says = said k d lt in
    let within = slice_get_within code.processes (slice_index_or picks k d).pick.process says.process says.there in
    let many = (faultless OutOfLimits).process_names.all in
    omega (arith, within, many) in
    subst (λ (cs : List CountedPick). All (λ c. HasProcess names c.pick.process) cs) (sym same)
    (subst (λ (n : NameTable). All (λ c. HasProcess n c.pick.process) picks) (sym of) all)

-- a recorded status is none of a device
no_device : (ending : Ending) (given : Status) → given ≡ recorded_status ending → given ≢ Device
no_device Over given told device = let both : Done ≡ Device = sym told ∙ device in absurd cc
no_device Stuck given told device = let both : Deadlock ≡ Device = sym told ∙ device in absurd cc
no_device Open given told device = let both : Done ≡ Device = sym told ∙ device in absurd cc

-- ---- the text

-- whether a byte is there and is a line feed
is_feed : (o : Option ℕ) → (o ≡ Some 10) ⊎ (o ≢ Some 10)
is_feed None = inr (λ e. cc)
is_feed (Some b) = go (cases_order b 10)
  where
    go : (b ≡ 10) ⊎ ((b < 10) ⊎ (10 < b)) → (Some b ≡ Some 10) ⊎ (Some b ≢ Some 10)
    go (inl same) = inl (ap Some same)
    go (inr (inl less)) = inr (λ e. let same : b ≡ 10 = cc in absurd (omega (arith, less, same)))
    go (inr (inr more)) = inr (λ e. let same : b ≡ 10 = cc in absurd (omega (arith, more, same)))

-- a text can be ended
ended_of : (bytes : List ℕ) → (ended : List ℕ) × IsEnded bytes ended
ended_of bytes = go (is_feed (slice_get bytes (length bytes - 1)))
  where
    go : EndsLine bytes ⊎ ¬ EndsLine bytes → (ended : List ℕ) × IsEnded bytes ended
    go (inl ends) = (bytes, inl (ends, refl))
    go (inr not) = (line bytes, inr (not, refl))

-- the lines of the picks alone are too long
lines_are_too_long : (lending : Lending) (code : Code) (steps : ℕ) (seed : Option ℕ) (bytes ended : List ℕ) → IsEnded bytes ended
    → IsTooLong lending code steps seed → SaysOfRecording lending code steps seed bytes (LongOutput ∷ []) Refused
lines_are_too_long lending code steps seed bytes ended is (picks, end, recorded, long) =
    let lines = pick_lines code.names.processes picks in
    let text = length-append ended (line (codes "%%") ++ lines) in
    let mark = length-append (line (codes "%%")) lines in
    too_long ended picks end is recorded (omega (arith, long, text, mark))

-- whether a fault is out of memory
pub is_memory : (f : RunFault) → (f ≡ OutOfMemory) ⊎ (f ≢ OutOfMemory)
is_memory Limits = inr (λ e. cc)
is_memory OutOfMemory = inl refl
is_memory NoThread = inr (λ e. cc)
is_memory Foreign = inr (λ e. cc)

-- a fault that is not out of memory comes without a seed
no_seed : (seed : Option ℕ) (f : RunFault) → IfSome seed (λ number. f ≡ OutOfMemory) → f ≢ OutOfMemory → seed ≡ None
no_seed None f only other = refl
no_seed (Some number) f only other = absurd (other only)

-- ---- with a seed and without

-- what is known of picks that are recorded with a status, or of nothing
abbrev pub Answers : {V : Type 0} → Lending → Code → ℕ → Option ℕ → (V → List CountedPick) → (V → Status) → Option V → Type 0
Answers lending code steps seed items status o =
    MatchOption o (IsTooLong lending code steps seed) (λ v. IsRecordedWith lending code steps seed (items v) (status v))

-- what holds of the report of workers, if there is no seed
pub answered_without : {V : Type 0} (lending : Lending) (code : Code) (steps : ℕ) (seed : Option ℕ) (items : V → List CountedPick)
    (status : V → Status) (answer : Result (Option V) RunFault) → seed ≡ None → lending ≡ ByBanker
    → IfOk answer (Answers ByBanker code steps None items status) → IfOk answer (Answers lending code steps seed items status)
answered_without lending code steps seed items status answer none banker holds =
    subst (λ s. IfOk answer (Answers lending code steps s items status)) (sym none)
    (subst (λ l. IfOk answer (Answers l code steps None items status)) (sym banker) holds)

pub any_fault_without : {V : Type 0} (seed : Option ℕ) (answer : Result V RunFault) → seed ≡ None
    → IfErr answer (λ f. IfSome seed (λ number. f ≡ OutOfMemory))
any_fault_without seed (Ok v) none = tt
any_fault_without seed (Err f) none = subst (λ s. IfSome s (λ number. f ≡ OutOfMemory)) (sym none) tt

-- what holds of drawn picks, if there is this seed
pub drawn_with : {V : Type 0} (lending : Lending) (code : Code) (steps number : ℕ) (seed : Option ℕ) (items : V → List CountedPick)
    (status : V → Status) (answer : Result (Option V) RunFault) → seed ≡ Some number
    → IfOk answer (Answers lending code steps (Some number) items status) → IfOk answer (Answers lending code steps seed items status)
drawn_with lending code steps number seed items status answer is holds =
    subst (λ s. IfOk answer (Answers lending code steps s items status)) (sym is) holds

-- out of memory is the one fault with a seed
pub no_memory_with : {V : Type 0} (seed : Option ℕ) (answer : Result V RunFault) → IfErr answer (λ f. f ≡ OutOfMemory)
    → IfErr answer (λ f. IfSome seed (λ number. f ≡ OutOfMemory))
no_memory_with seed (Ok v) only = tt
no_memory_with None (Err f) only = tt
no_memory_with (Some number) (Err f) only = only

-- the options say the banker, if there is no seed
pub banker_is_asked : (lend : Lend) → lend ≡ Banker → lending_for lend ≡ ByBanker
banker_is_asked lend is = ap lending_for is

-- under the banker picks of a run end in no deadlock
pub banker_is_never_stuck : (v : VerifiedCode) → IsVerified v → (steps : ℕ) (picks : List CountedPick) (end : State CodeProcess)
    → IsRecorded ByBanker v.code steps None picks end → IsRecordedWith ByBanker v.code steps None picks Done
banker_is_never_stuck v verified steps picks end recorded = elim (goes_on v verified end reached) [
  | inl done ↦ record { end = end; recorded = recorded; ending = Over; ends = done; told = refl }
  | inr on ↦ record {
    end = end;
    recorded = recorded;
    ending = Open;
    ends = (λ done. done_stays ByBanker v.code verified.faultless end reached done on, on);
    told = refl;
  }
]
  where
    reached : CodeReaches v.code end
    reached = (spread picks, recorded.events, recorded.makes)

-- a run that was drawn, with the status that the machine after it tells
pub drawn_ends : (lending : Lending) (code : Code) (steps : ℕ) (seed : Option ℕ) (picks : List CountedPick) (end : State CodeProcess)
    (ending : Ending) (status : Status) → IsRecorded lending code steps seed picks end → IsEnding lending code end ending
    → status ≡ recorded_status ending → IsRecordedWith lending code steps seed picks status
drawn_ends lending code steps seed picks end ending status recorded ends told =
    record { end = end; recorded = recorded; ending = ending; ends = ends; told = told }

-- ---- what is told of picks that were made

module _ (lending : Lending) (code : Code) (labels : List ProcessLabels) (steps : ℕ) (seed : Option ℕ) (bytes : List ℕ) (names : NameTable)
    (made : Result (Option Recorded) RunFault) (of : names ≡ code.names)
    (holds : IfOk made (Answers lending code steps seed (λ r. r.picks.items) (λ r. r.status))) where
  -- it can be told
  pub can_be_told : IsFaultless code → steps ≤ 10000000 → CanBeTold names made
  can_be_told faultless most = go made holds
    where
      go : (m : Result (Option Recorded) RunFault) → IfOk m (Answers lending code steps seed (λ r. r.picks.items) (λ r. r.status)) → CanBeTold names m
      go (Ok (Some r)) is = (
        have_processes lending code steps seed r.picks.items r.picks.items r.status names faultless most is refl of,
        no_device is.ending r.status is.told,
      )
      go (Ok None) is = tt
      go (Err f) is = tt

  module _ (short : length bytes ≤ MAX_INPUT) (compiled : IsCompiled bytes code labels)
      (only : IfErr made (λ f. IfSome seed (λ number. f ≡ OutOfMemory))) where
    abbrev MaySay : List Saying → Status → Type 0
    MaySay = SaysOfAny (SaysOfRecord lending steps seed) bytes

    any : (said : List Saying) (given : Status) → SaysOfRecording lending code steps seed bytes said given → MaySay said given
    any said given says = read said given short (accepted code labels compiled said given says)

    with_status : (r : Recorded) → made ≡ Ok (Some r) → IsRecordedWith lending code steps seed r.picks.items r.status
    with_status r is =
        subst (λ (m : Result (Option Recorded) RunFault). IfOk m (Answers lending code steps seed (λ r. r.picks.items) (λ r. r.status))) is holds

    of_picks : (r : Recorded) → made ≡ Ok (Some r) → (said : List Saying) (given : Status)
        → SaysOfRecorded bytes code.names r.picks.items r.status said given → MaySay said given
    of_picks r is _ _ (told_recorded text ended few) = any _ _ (written text r.picks.items r.status ended (with_status r is) few)
    of_picks r is _ _ (told_too_long text ended long) =
        let with = with_status r is in any _ _ (too_long text r.picks.items with.end ended with.recorded long)
    of_picks r is _ _ told_no_memory = no_memory

    may : (said : List Saying) (given : Status) → SaysOfMade bytes code.names made said given → MaySay said given
    may said given (made_picks r is _ _ says) = of_picks r is said given says
    may _ _ (too_many is) =
        let long : IsTooLong lending code steps seed =
        subst (λ (m : Result (Option Recorded) RunFault). IfOk m (Answers lending code steps seed (λ r. r.picks.items) (λ r. r.status))) is holds in
        let (ended, ends) = ended_of bytes in
        any _ _ (lines_are_too_long lending code steps seed bytes ended ends long)
    may _ _ (no_run f is not) =
        let one : IfSome seed (λ number. f ≡ OutOfMemory) =
        subst (λ (m : Result (Option Recorded) RunFault). IfErr m (λ g. IfSome seed (λ number. g ≡ OutOfMemory))) is only in
        any _ _ (no_threads (no_seed seed f one not))
    may _ _ made_no_memory = no_memory

    pub record_is_told : {T : Type 0} (tells breaks : T → Saying → T → Type 0) (old new : T) (answered : Status)
        → Speaks tells breaks (SaysOfMade bytes names made) old new answered → Speaks tells breaks MaySay old new answered
    record_is_told tells breaks old new answered (said, given, says, ends) =
        (said, given, may said given (subst (λ (n : NameTable). SaysOfMade bytes n made said given) of says), ends)
