-- What was recorded can be replayed.
use Rattle.std.proofs.Common.{◌≡◌, ◌≢◌, ◌↔◌, ℕ, zero, suc, ◌<◌, ◌≤◌, ◌⊎◌, List, [], ◌∷◌, length, length-append, take}
use Rattle.std.proofs.Common.{Option, Some, None, refl, sym, ap, subst, ◌∙◌, append-nil, inl, inr, arith}
use Rattle.std.specs.List.{flat_map}
use Rattle.std.specs.Prelude.{slice_get}
use Rattle.pb_base.specs.declared.event.Event.{Event}
use Rattle.pb_base.specs.declared.pick.Pick.{Pick}
use Rattle.pb_base.specs.declared.lending.Lending.{Lending}
use Rattle.pb_base.specs.Steppers.{Makes, Move, State, move_of}
use Rattle.pb_claims.specs.Fits.{FitCapital}
use Rattle.pb_code.specs.Code.{CodeProcess, code_step}
use Rattle.pb_code.specs.Limits.{KeepsLimits}
use Rattle.pb_code.specs.Reached.{CodeStaysBy}
use Rattle.pb_code.specs.Whole.{Code, ProcessLabels, bank_by, code_opening}
use Rattle.pb_codegen.proofs.TextOutcomes.{sound}
use Rattle.pb_codegen.proofs.TextOneCode.{one_code}
use Rattle.pb_codegen.specs.Compiled.{IsCompiled, IsRefused}
use Rattle.pb_history.proofs.TraceSteps.{traces_make}
use Rattle.pb_history.specs.Entries.{Entry, events_of, picks_of}
use Rattle.pb_history.specs.Leads.{LeadsBy}
use Rattle.pb_history.specs.Replays.{IsStoppedBy, spread}
use Rattle.pb_history.specs.declared.counted.CountedPick.{CountedPick}
use Rattle.pb_history.specs.declared.fault.ReplayFault.{ReplayFault}
use Rattle.pb_history.specs.declared.fault.ReplayFault.TheVariants.{NotEnabled, NoMemory}
use Rattle.pb_names.specs.Program.{capital_of}
use Rattle.pb_picks.proofs.PickSpellings.{lines_spell, spelled_is_not_faulty, spells_at_most_one}
use Rattle.pb_picks.specs.PickLines.{SpellsPicks, pick_lines}
use Rattle.pb_verifier.specs.Verified.{IsFaultless}
use Rattle.pb_verifier.specs.declared.fault.VerifyFault.TheVariants.{OutOfLimits}
use Rattle.pb_engines.specs.RecordLaws.{HoldsRun, IsOfRun, RecordsCanBeReplayed}
use Rattle.pb_command_io.specs.Parts.{AreTwoParts}
use Rattle.pb_accept.specs.RunTexts.{EndsLine, IsEnded, with_picks}
use Rattle.pb_engines.specs.Records.{IsRecordedWith, SaysOfRecord, SaysOfRecording, accepted}
use Rattle.pb_record.specs.Recorded.{IsRecorded}
use Rattle.pb_engines.specs.Records.{no_threads, recorded_status, refused, too_long, written}
use Rattle.pb_accept.specs.Causes.{lines_cause, picks_cause, stop_cause}
use Rattle.pb_accept.specs.ReplayLines.{AreReplayedBy, IsEnding, IsEndStatus, IsLinesFaultBy, IsStatusAt, no_fault, some_fault}
use Rattle.pb_accept.specs.Replays.{SaysOfEvents, SaysOfReplay, all_told, made_again, no_picks, no_text}
use Rattle.pb_accept.specs.Sayings.{Saying, Recorded, line_of}
use Rattle.pb_accept.specs.declared.ending.Ending.{Ending}
use Rattle.pb_accept.specs.declared.ending.Ending.TheVariants.{Over, Stuck, Open}
use Rattle.pb_accept.specs.declared.replay.LinesFault.{LinesFault}
use Rattle.pb_accept.specs.declared.replay.LinesFault.TheVariants.{NotMade, NotRead}
use Rattle.pb_command_io.specs.declared.status.Status.{Status}
use Rattle.pb_command_io.specs.declared.status.Status.TheVariants.{Deadlock, Done, Refused, Threads}
use Rattle.pb_accept.proofs.AcceptLemmas.{compiled_is_accepted}
use Rattle.pb_engines.proofs.AcceptedTexts.{accepted_has_no_fault}
use Rattle.pb_engines.proofs.CutRecords.{cut_as_written}
use Rattle.pb_engines.proofs.EndedTexts.{ended_is_compiled}
use Rattle.pb_record.proofs.RecordedPicks.{recorded_can_be_said}

-- picks that are enabled in turn never stop
never_stops : (lending : Lending) (code : Code) (s end : State CodeProcess) (picks : List Pick) (events : List Event)
    → Makes (bank_by lending code) (code_step code.processes) s picks events end
    → (entries : List Entry) (here : State CodeProcess) (i : ℕ) (pick : Pick) → picks_of entries ≡ take i picks
    → LeadsBy lending code s entries here → slice_get picks i ≡ Some pick → CodeStaysBy lending code here pick → ⊥
never_stops lending code s end [] events makes entries here i pick made leads there stays = absurd cc
never_stops lending code s end (p ∷ picks) events makes [] here zero pick made leads there stays =
    let same : p ≡ pick = cc in
    let first : CodeStaysBy lending code s p =
    subst (λ (q : Pick). CodeStaysBy lending code s q) (sym same) (subst (λ (t : State CodeProcess). CodeStaysBy lending code t pick) leads stays) in
    first makes.0 makes.1 makes.2
never_stops lending code s end (p ∷ picks) events makes (x ∷ entries) here zero pick made leads there stays = absurd cc
never_stops lending code s end (p ∷ picks) events makes [] here (suc i) pick made leads there stays = absurd cc
never_stops lending code s end (p ∷ picks) events makes (x ∷ entries) here (suc i) pick made leads there stays =
    let same : x.pick ≡ p = cc in
    let rest : picks_of entries ≡ take i picks = cc in
    let led : Move CodeProcess = record { next = leads.0; effect = leads.1.0 } in
    let is : Some makes.0 ≡ Some led = sym makes.1 ∙ (ap (move_of (code_step code.processes) s) (sym same) ∙ leads.1.1) in
    let move : makes.0 ≡ led = cc in
    let next : makes.0.next ≡ leads.0 = ap (λ (m : Move CodeProcess). m.next) move in
    never_stops lending code leads.0 end picks makes.3
    (subst (λ (t : State CodeProcess). Makes (bank_by lending code) (code_step code.processes) t picks makes.3 end) next makes.5)
    entries here i pick rest leads.2 there stays

recorded_never_stops : (lending : Lending) (code : Code) (steps : ℕ) (seed : Option ℕ) (picks : List CountedPick) (end : State CodeProcess)
    → IsRecorded lending code steps seed picks end → (fault : ReplayFault)
    → IsStoppedBy lending code (spread picks) fault → fault ≡ NoMemory
recorded_never_stops lending code steps seed picks end recorded (NotEnabled i) stops =
    absurd (never_stops lending code (code_opening code) end (spread picks) recorded.events recorded.makes stops.entries stops.end i stops.pick
    stops.replay.made stops.replay.leads stops.there stops.stays)
recorded_never_stops lending code steps seed picks end recorded NoMemory stops = refl

-- ---- lines of recorded picks

module _ (lending : Lending) (code : Code) (faultless : IsFaultless code) (steps : ℕ) (most : steps ≤ 10000000) (seed : Option ℕ)
    (picks : List CountedPick) (end : State CodeProcess) (recorded : IsRecorded lending code steps seed picks end) where
  limits : KeepsLimits code
  limits = faultless OutOfLimits

  abbrev lines : List ℕ
  lines = pick_lines code.names.processes picks

  pub said_lines : SpellsPicks code lines picks
  said_lines =
      let few = recorded.few in
      lines_spell code picks limits (recorded_can_be_said lending code faultless steps seed picks end most recorded) (omega (arith, few, most))

  pub no_line_is_refused : (fault : LinesFault) → IsLinesFaultBy lending code lines fault → lines_cause fault ≡ None
  no_line_is_refused (NotRead fault) faulty =
      ap picks_cause (spelled_is_not_faulty code lines picks fault limits said_lines faulty)
  no_line_is_refused (NotMade fault) (counted, spelled, stopped) =
      let same : counted ≡ picks = spells_at_most_one code lines counted picks limits spelled said_lines in
      ap stop_cause (recorded_never_stops lending code steps seed picks end recorded fault
      (subst (λ (cs : List CountedPick). IsStoppedBy lending code (spread cs) fault) same stopped))

-- ---- what `record` wrote

ended_is_short : (text ended : List ℕ) → IsEnded text ended → length text ≤ 65536 → (length text < 65536) ⊎ EndsLine text
    → length ended ≤ 65536
ended_is_short text ended (inl (ends, same)) short room = let l = ap (λ (t : List ℕ). length t) same in omega (arith, l, short)
ended_is_short text ended (inr (not_ended, same)) short (inr ends) = absurd (not_ended ends)
ended_is_short text ended (inr (not_ended, same)) short (inl less) =
    let l = ap (λ (t : List ℕ). length t) same in
    let long = length-append text (10 ∷ []) in
    omega (arith, l, long, less)

-- what is said of picks that were made is not a refusal
no_refusal_at : (end : State CodeProcess) (status : Status) → IsStatusAt end status → status ≢ Refused
no_refusal_at end _ (some_fault fault) same = absurd cc
no_refusal_at end _ (no_fault none) same = absurd cc

no_refusal_ends : (end : State CodeProcess) (ending : Ending) (status : Status) → IsEndStatus end ending status → status ≢ Refused
no_refusal_ends end Over status is same = no_refusal_at end status is same
no_refusal_ends end Open status is same = no_refusal_at end status is same
no_refusal_ends end Stuck status is same = let both : Deadlock ≡ Refused = sym is ∙ same in absurd cc

no_refusal_told : (lending : Lending) (code : Code) (events : List Event) (end : State CodeProcess) (said : List Saying) (status : Status)
    → SaysOfEvents lending code events end said status → status ≢ Refused
no_refusal_told lending code events end _ _ (all_told ending is status its_status) same = no_refusal_ends end ending status its_status same

-- compiled code has no fault
pub is_annotated : (text : List ℕ) (code : Code) (labels : List ProcessLabels) → IsCompiled text code labels → IsFaultless code
is_annotated text code labels compiled =
    let capital : code.capital ≡ capital_of compiled.program = ap (λ (c : Code). c.capital) compiled.generated in
    let enough : FitCapital code.claims (capital_of compiled.program) =
    subst (λ (c : List ℕ). FitCapital code.claims c) capital compiled.enough in
    subst IsFaultless (sym compiled.generated) (sound text compiled.program code.claims compiled.numbered enough).faultless

module _ (lending : Lending) (steps : ℕ) (seed : Option ℕ) (bytes : List ℕ) where
  -- the code of a text, and what was written of it
  abbrev pub Wrote : List Saying → Status → Type 0
  Wrote said status =
      (code : Code) × (labels : List ProcessLabels) × IsCompiled bytes code labels × (ended : List ℕ) × (picks : List CountedPick)
      × IsEnded bytes ended × IsRecordedWith lending code steps seed picks status × (said ≡ Recorded ended code.names picks ∷ [])

  -- what says that a text is refused or that there are no threads says no run
  no_run : (status : Status) → (status ≡ Refused) ⊎ (status ≡ Threads) → IsOfRun status → ⊥
  no_run status (inl is) (inl done) = let both : Refused ≡ Done = sym is ∙ done in absurd cc
  no_run status (inl is) (inr stuck) = let both : Refused ≡ Deadlock = sym is ∙ stuck in absurd cc
  no_run status (inr is) (inl done) = let both : Threads ≡ Done = sym is ∙ done in absurd cc
  no_run status (inr is) (inr stuck) = let both : Threads ≡ Deadlock = sym is ∙ stuck in absurd cc

  pub wrote : (said : List Saying) (status : Status) → SaysOfRecord lending steps seed bytes said status → IsOfRun status → Wrote said status
  wrote _ _ (refused f not is) of = absurd (no_run Refused (inl refl) of)
  wrote said status (accepted code labels compiled _ _ says) of = go said status says of
    where
      go : (told : List Saying) (status : Status) → SaysOfRecording lending code steps seed bytes told status → IsOfRun status → Wrote told status
      go _ _ (written ended picks status is recorded short) of = (code, labels, compiled, ended, picks, is, recorded, refl)
      go _ _ (too_long ended picks end is recorded long) of = absurd (no_run Refused (inl refl) of)
      go _ _ (no_threads none) of = absurd (no_run Threads (inr refl) of)

-- ---- the state to which picks lead

pub makes_once : (lending : Lending) (code : Code) (s : State CodeProcess) (picks : List Pick) (e f : List Event) (a b : State CodeProcess)
    → Makes (bank_by lending code) (code_step code.processes) s picks e a → Makes (bank_by lending code) (code_step code.processes) s picks f b
    → a ≡ b
makes_once lending code s [] e f a b makes others = makes.1 ∙ sym others.1
makes_once lending code s (pick ∷ picks) e f a b makes others =
    let both : Some makes.0 ≡ Some others.0 = sym makes.1 ∙ others.1 in
    let same : makes.0 ≡ others.0 = cc in
    let next : others.0.next ≡ makes.0.next = ap (λ (m : Move CodeProcess). m.next) (sym same) in
    makes_once lending code makes.0.next picks makes.3 others.3 a b makes.5
    (subst (λ (t : State CodeProcess). Makes (bank_by lending code) (code_step code.processes) t picks others.3 b) next others.5)

-- a state is an ending in one way
pub endings_once : (lending : Lending) (code : Code) (s : State CodeProcess) (a b : Ending) → IsEnding lending code s a → IsEnding lending code s b
    → a ≡ b
endings_once lending code s Over Over is also = refl
endings_once lending code s Over Stuck is also = absurd (also.0 is)
endings_once lending code s Over Open is also = absurd (also.0 is)
endings_once lending code s Stuck Over is also = absurd (is.0 also)
endings_once lending code s Stuck Stuck is also = refl
endings_once lending code s Stuck Open is also = absurd (is.1 also.1)
endings_once lending code s Open Over is also = absurd (is.0 also)
endings_once lending code s Open Stuck is also = absurd (also.1 is.1)
endings_once lending code s Open Open is also = refl

no_deadlock_at : (end : State CodeProcess) (status : Status) → IsStatusAt end status → status ≢ Deadlock
no_deadlock_at end _ (some_fault fault) same = absurd cc
no_deadlock_at end _ (no_fault none) same = absurd cc

-- a replay and a record that end alike tell alike of a deadlock
alike : (end : State CodeProcess) (ending : Ending) (answered status : Status) → IsEndStatus end ending answered
    → status ≡ recorded_status ending → ((answered ≡ Deadlock) ↔ (status ≡ Deadlock))
alike end Over answered status is told = (
  λ stuck. absurd (no_deadlock_at end answered is stuck),
  λ stuck. let both : Done ≡ Deadlock = sym told ∙ stuck in absurd cc,
)
alike end Stuck answered status is told = (λ stuck. told, λ stuck. is)
alike end Open answered status is told = (
  λ stuck. absurd (no_deadlock_at end answered is stuck),
  λ stuck. let both : Done ≡ Deadlock = sym told ∙ stuck in absurd cc,
)

module _ (lending : Lending) (steps : ℕ) (seed : Option ℕ) (bytes : List ℕ) (most : steps ≤ 10000000) where
  module _ (code : Code) (labels : List ProcessLabels) (compiled : IsCompiled bytes code labels) (ended : List ℕ)
      (picks : List CountedPick) (status : Status) (is : IsEnded bytes ended)
      (recorded : IsRecordedWith lending code steps seed picks status) where
    faultless : IsFaultless code
    faultless = is_annotated bytes code labels compiled

    abbrev lines_of : List ℕ
    lines_of = pick_lines code.names.processes picks

    cut_of : (text lines : List ℕ) → AreTwoParts (with_picks ended code.names picks) text lines → (text ≡ ended) × (lines ≡ lines_of)
    cut_of = cut_as_written bytes ended lines_of compiled.numbered.spelled.tokens is compiled.numbered.spelled.cut.cuts

    said_of : SpellsPicks code lines_of picks
    said_of = said_lines lending code faultless steps most seed picks recorded.end recorded.recorded

    holds : (text lines : List ℕ) → AreTwoParts (with_picks ended code.names picks) text lines → HoldsRun lending steps seed bytes text lines
    holds text lines cut =
        let same = cut_of text lines cut in record {
          ended = subst (IsEnded bytes) (sym same.0) is;
          code = code;
          labels = labels;
          compiled = compiled;
          picks = picks;
          end = recorded.end;
          recorded = recorded.recorded;
          said = subst (λ (t : List ℕ). SpellsPicks code t picks) (sym same.1) said_of;
        }

    module _ (room : (length bytes < 65536) ⊎ EndsLine bytes) where
      here : IsCompiled ended code labels
      here = ended_is_compiled bytes ended code labels is (ended_is_short bytes ended is compiled.numbered.spelled.cut.short room) compiled

      one_of : (text : List ℕ) (other : Code) (others : List ProcessLabels) → text ≡ ended → IsCompiled text other others → other ≡ code
      one_of text other others same is_other =
          (one_code ended other code others labels (subst (λ (t : List ℕ). IsCompiled t other others) same is_other) here).0

      -- what `replay` says of it is not a refusal
      never_refused : (whole : List ℕ) (said : List Saying) (answered : Status) → whole ≡ with_picks ended code.names picks
          → SaysOfReplay lending whole said answered → answered ≢ Refused
      never_refused whole _ _ e (no_text text lines cut fault not is_refused) refuses =
          let same = cut_of text lines (subst (λ (w : List ℕ). AreTwoParts w text lines) e cut) in
          absurd (accepted_has_no_fault ended (compiled_is_accepted ended code labels here) fault not (subst (λ (t :
          List ℕ). IsRefused t fault) same.0 is_refused))
      never_refused whole _ _ e (no_picks text lines cut other others is_other fault cause faulty its_cause) refuses =
          let same = cut_of text lines (subst (λ (w : List ℕ). AreTwoParts w text lines) e cut) in
          let its_fault : IsLinesFaultBy lending code lines_of fault =
          subst (λ (c : Code). IsLinesFaultBy lending c lines_of fault) (one_of text other others same.0 is_other)
          (subst (λ (ls : List ℕ). IsLinesFaultBy lending other ls fault) same.1 faulty) in
          let none = no_line_is_refused lending code faultless steps most seed picks recorded.end recorded.recorded fault its_fault in
          let both : Some cause ≡ None = sym its_cause ∙ none in
          absurd cc
      never_refused whole _ _ e (made_again text lines cut other others is_other entries end are said answered says can) refuses =
          no_refusal_told lending other (events_of entries) end said answered says refuses

      -- the picks of its lines lead to the state of the record
      same_end : (entries : List Entry) (end : State CodeProcess) → AreReplayedBy lending code lines_of entries end → end ≡ recorded.end
      same_end entries end are =
          let counted : are.counted ≡ picks = spells_at_most_one code lines_of are.counted picks (faultless OutOfLimits) are.spelled said_of in
          let made : picks_of entries ≡ spread picks = are.replay.made ∙ ap spread counted in
          let makes = traces_make lending code (code_opening code) end entries are.replay.leads in
          makes_once lending code (code_opening code) (spread picks) (events_of entries) recorded.recorded.events end recorded.end
          (subst (λ (ps : List Pick). Makes (bank_by lending code) (code_step code.processes) (code_opening code) ps (events_of entries) end) made makes)
          recorded.recorded.makes

      told_alike : (other : Code) (lines : List ℕ) (entries : List Entry) (end : State CodeProcess) (said : List Saying) (answered : Status)
          → other ≡ code → lines ≡ lines_of → AreReplayedBy lending other lines entries end
          → SaysOfEvents lending other (events_of entries) end said answered
          → ((answered ≡ Deadlock) ↔ (status ≡ Deadlock))
      told_alike other lines entries end _ _ same_code same_lines are (all_told ending ends answered its_status) =
          let here_are : AreReplayedBy lending code lines_of entries end =
          subst (λ (c : Code). AreReplayedBy lending c lines_of entries end) same_code
          (subst (λ (ls : List ℕ). AreReplayedBy lending other ls entries end) same_lines are) in
          let here_ends : IsEnding lending code recorded.end ending =
          subst (λ (s : State CodeProcess). IsEnding lending code s ending) (same_end entries end here_are)
          (subst (λ (c : Code). IsEnding lending c end ending) same_code ends) in
          let one : recorded.ending ≡ ending = endings_once lending code recorded.end recorded.ending ending recorded.ends here_ends in
          alike end ending answered status its_status (recorded.told ∙ ap recorded_status one)

      -- it is told of a deadlock alike
      deadlock_alike : (whole : List ℕ) (said : List Saying) (answered : Status) → whole ≡ with_picks ended code.names picks
          → SaysOfReplay lending whole said answered → ((answered ≡ Deadlock) ↔ (status ≡ Deadlock))
      deadlock_alike whole _ _ e (no_text text lines cut fault not is_refused) =
          absurd (never_refused whole _ _ e (no_text text lines cut fault not is_refused) refl)
      deadlock_alike whole _ _ e (no_picks text lines cut other others is_other fault cause faulty its_cause) =
          absurd (never_refused whole _ _ e (no_picks text lines cut other others is_other fault cause faulty its_cause) refl)
      deadlock_alike whole _ _ e (made_again text lines cut other others is_other entries end are said answered says can) =
          let same = cut_of text lines (subst (λ (w : List ℕ). AreTwoParts w text lines) e cut) in
          told_alike other lines entries end said answered (one_of text other others same.0 is_other) same.1 are says

pub records_can_be_replayed : RecordsCanBeReplayed
records_can_be_replayed lending steps seed bytes whole status most (told, says, spelled) of =
    let (code, labels, compiled, ended, picks, is, recorded, one) = wrote lending steps seed bytes told status says of in
    let same : whole ≡ with_picks ended code.names picks =
    spelled ∙ (ap (flat_map line_of) one ∙ append-nil (with_picks ended code.names picks)) in record {
      cut = λ text lines cut. holds lending steps seed bytes most code labels compiled ended picks status is recorded text lines
          (subst (λ (w : List ℕ). AreTwoParts w text lines) same cut);
      replayed = λ room said answered replay.
          never_refused lending steps seed bytes most code labels compiled ended picks status is recorded room whole said answered same replay;
      deadlock = λ room said answered replay.
          deadlock_alike lending steps seed bytes most code labels compiled ended picks status is recorded room whole said answered same replay;
    }
