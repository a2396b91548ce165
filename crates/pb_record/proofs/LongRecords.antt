-- A run of too many counted picks, however it goes on, is too long for an input.
use Rattle.std.proofs.Common.{◌≡◌, ◌≢◌, ℕ, zero, suc, ◌+◌, ◌*◌, ◌<◌, ◌≤◌, ◌⊎◌, inl, inr, List}
use Rattle.std.proofs.Common.{[], ◌∷◌, ◌++◌, length, replicate, take, Option, Some, None, option_to_list, refl, sym}
use Rattle.std.proofs.Common.{ap, subst, ◌∙◌, append-nil, append_assoc, length-append, arith}
use Rattle.std.specs.Prelude.{MatchOption}
use Rattle.std.proofs.lemmas.Bool.{cases_order}
use Rattle.std.proofs.lemmas.Fmt.{decimal_nonempty}
use Rattle.std.proofs.lemmas.List.{length-map, replicate_more}
use Rattle.std.proofs.lemmas.List.Elements.{All-head, All-tail}
use Rattle.std.specs.Fmt.{decimal}
use Rattle.pb_base.specs.declared.lending.Lending.{Lending}
use Rattle.pb_base.specs.declared.lending.Lending.TheVariants.{ByBanker}
use Rattle.pb_base.specs.declared.pick.Pick.{Pick}
use Rattle.pb_base.specs.Lines.{name_of}
use Rattle.pb_base.specs.Steppers.{CanGoOn, State, event_of}
use Rattle.pb_code.specs.Code.{CodeProcess, code_step}
use Rattle.pb_code.specs.Reached.{CodeMovesBy}
use Rattle.pb_code.specs.Limits.{KeepsLimits}
use Rattle.pb_code.specs.Whole.{Code, bank_of, code_opening}
use Rattle.pb_history.specs.Entries.{Entry, all_picks, events_of, picks_of, spans_of}
use Rattle.pb_history.specs.Replays.{spread}
use Rattle.pb_history.specs.declared.counted.CountedPick.{CountedPick}
use Rattle.pb_history.specs.declared.span.Span.{Span}
use Rattle.pb_history.proofs.TraceSteps.{traces_make}
use Rattle.pb_picks.specs.Counted.{AreApart}
use Rattle.pb_picks.specs.Laws.{CanBeSaid}
use Rattle.pb_picks.specs.PickLines.{SpellsPick, pick_line, pick_lines}
use Rattle.pb_verifier.specs.Verified.{VerifiedCode, IsFaultless, IsVerified}
use Rattle.pb_verifier.specs.declared.fault.VerifyFault.TheVariants.{OutOfLimits}
use Rattle.pb_record.specs.declared.picks.TheConstants.{MAX_LINES}
use Rattle.pb_shared.specs.declared.outcome.Outcome.{Outcome}
use Rattle.pb_shared.specs.declared.outcome.Outcome.TheVariants as outcome
use Rattle.pb_workers.specs.Reports.{EndsAs, IsReport}
use Rattle.pb_workers.specs.declared.report.Report.{Report}
use Rattle.pb_record.specs.Draws.{DrawsRun, generator_of, one_more as draws_one_more}
use Rattle.pb_record.specs.Recorded.{AreCounts, AreTooMany, IsRecorded, IsTooLong}
use Rattle.pb_record.specs.CodeRuns.{IsDone}
use Rattle.pb_record.proofs.ChoiceLemmas.{draws_on}
use Rattle.pb_record.proofs.RecordedPicks.{LeadTo, is_recorded, recorded_can_be_said}
use Rattle.pb_record.proofs.EndedRuns.{done_stays}
use Rattle.pb_record.proofs.RunLemmas.{CodeMakes, makes_last}
use Rattle.pb_record.proofs.SpanLemmas.{AreCounted, picks_of_spans}
use Rattle.rand_pcg.specs.Lcg.{Lcg}
use Rattle.pb_verifier.proofs.Requests.{same_pick}

-- ---- one more pick, counted

same_or_not : (a b : Pick) → (a ≡ b) ⊎ (a ≢ b)
same_or_not a b = elim (cases_order a.process b.process) [
  | inl process ↦ elim (cases_order a.arm b.arm) [
    | inl arm ↦ inl (same_pick a b process arm)
    | inr other ↦ inr (λ same. let arm = ap (λ (p : Pick). p.arm) same in elim other [
      | inl less ↦ omega (arith, arm, less)
      | inr less ↦ omega (arith, arm, less)
    ])
  ]
  | inr other ↦ inr (λ same. let process = ap (λ (p : Pick). p.process) same in elim other [
    | inl less ↦ omega (arith, process, less)
    | inr less ↦ omega (arith, process, less)
  ])
]

-- counts that say the same and one more pick, no fewer than before
pub record OneMore (picks : List CountedPick) (pick : Pick) (more : List CountedPick) : Type 0 where
  pub spread : spread more ≡ spread picks ++ pick ∷ []
  pub apart : AreApart more
  pub longer : length picks ≤ length more

-- the same of counts that are not empty, whose first pick stays the same
one_more_behind : (c : CountedPick) (picks : List CountedPick) (pick : Pick) → AreApart (c ∷ picks)
    → (d : CountedPick) × (more : List CountedPick) × (d.pick ≡ c.pick) × OneMore (c ∷ picks) pick (d ∷ more)
one_more_behind c [] pick apart = elim (same_or_not c.pick pick) [
  | inl same ↦ (
    record { pick = c.pick; count = c.count + 1 },
    [],
    refl,
    record {
      spread = append-nil (replicate (c.count + 1) c.pick)
          ∙ (sym (replicate_more c.count c.pick)
          ∙ (ap (λ (p : Pick). replicate c.count c.pick ++ p ∷ []) same
          ∙ ap (λ (ps : List Pick). ps ++ pick ∷ []) (sym (append-nil (replicate c.count c.pick)))));
      apart = omega (arith, apart);
      longer = omega arith;
    },
  )
  | inr other ↦ (
    c,
    record { pick = pick; count = 1 } ∷ [],
    refl,
    record {
      spread = ap (λ (ps : List Pick). ps ++ pick ∷ []) (sym (append-nil (replicate c.count c.pick)));
      apart = (apart, other, omega arith);
      longer = omega arith;
    },
  )
]
one_more_behind c (d ∷ picks) pick (some, other, apart) =
    let (e, more, head, rest) = one_more_behind d picks pick apart in
    let longer = rest.longer in (
      c,
      e ∷ more,
      refl,
      record {
        spread = ap (λ (ps : List Pick). replicate c.count c.pick ++ ps) rest.spread
            ∙ sym (append_assoc (replicate c.count c.pick) (spread (d ∷ picks)) (pick ∷ []));
        apart = (some, subst (λ (p : Pick). c.pick ≢ p) (sym head) other, rest.apart);
        longer = omega (arith, longer);
      },
    )

one_more : (picks : List CountedPick) (pick : Pick) → AreApart picks → (more : List CountedPick) × OneMore picks pick more
one_more [] pick apart =
    (record { pick = pick; count = 1 } ∷ [], record { spread = refl; apart = omega arith; longer = omega arith })
one_more (c ∷ picks) pick apart =
    let (d, more, head, is) = one_more_behind c picks pick apart in (d ∷ more, is)

-- ---- a drawn run goes on to its end

-- a recorded run with at least as many counted picks as these
abbrev GoesOnTo : Lending → Code → (steps seed : ℕ) → List CountedPick → Type 0
GoesOnTo lending code steps seed picks =
    (more : List CountedPick) × (end : State CodeProcess) × IsRecorded lending code steps (Some seed) more end
    × (length picks ≤ length more)

draws_to_its_end : (lending : Lending) (code : Code) (seed left steps : ℕ) (picks : List CountedPick) (state : State CodeProcess) (now : Lcg)
    → LeadTo lending code picks state → AreApart picks → length (spread picks) + left ≡ steps
    → DrawsRun lending code (generator_of seed) (spread picks) state now → GoesOnTo lending code steps seed picks
draws_to_its_end lending code seed zero steps picks state now lead apart many drawn =
    (picks, state, is_recorded lending code steps zero (Some seed) picks state lead many apart (λ on. refl) (state, now, drawn), omega arith)
draws_to_its_end lending code seed (suc left) steps picks state now lead apart many drawn =
    elim (draws_on lending code state now) [
      | inl none ↦ (
        picks,
        state,
        is_recorded lending code steps (suc left) (Some seed) picks state lead many apart (λ on. absurd (none on)) (state, now, drawn),
        omega arith,
      )
      | inr (pick, after, (move, is, granted), draws) ↦
          let event = event_of pick move.effect in
          let moves : CodeMovesBy lending code state pick event move.next = (move.effect, is, granted, refl) in
          let makes = makes_last lending code (spread picks) lead.events state move.next pick event lead.makes moves in
          let (more, one) = one_more picks pick apart in
          let longer = one.longer in
          let count = ap (λ (ps : List Pick). length ps) one.spread in
          let all = length-append (spread picks) (pick ∷ []) in
          let next : LeadTo lending code more move.next = record {
            events = lead.events ++ option_to_list event;
            makes = subst (λ (ps : List Pick). CodeMakes lending code ps (lead.events ++ option_to_list event) move.next) (sym one.spread) makes;
          } in
          let draws_more : DrawsRun lending code (generator_of seed) (spread more) move.next after =
          subst (λ (ps : List Pick). DrawsRun lending code (generator_of seed) ps move.next after) (sym one.spread)
          (draws_one_more (spread picks) state move.next now after pick event drawn draws moves) in
          let (rest, end, recorded, longest) =
          draws_to_its_end lending code seed left steps more move.next after next one.apart (omega (arith, many, count, all)) draws_more in
          (rest, end, recorded, omega (arith, longer, longest))
    ]

-- ---- the lines of counted picks

-- a line has a point, a space, a line feed and two numbers
lines_are_long : (code : Code) → KeepsLimits code → (picks : List CountedPick) → CanBeSaid code picks
    → 5 * length picks ≤ length (pick_lines code.names.processes picks)
lines_are_long code limits [] said = omega arith
lines_are_long code limits (c ∷ picks) said =
    let names = code.names.processes in
    let says = All-head (λ (d : CountedPick). SpellsPick code (pick_line names d) d) c picks said in
    let rest = lines_are_long code limits picks (All-tail (λ (d : CountedPick). SpellsPick code (pick_line names d) d) c picks said) in
    let few = (limits.each c.pick.process says.process says.there).some_arms.1 in
    let below = says.arm in
    let most = says.most in
    let arm = decimal_nonempty c.pick.arm (omega (arith, few, below)) in
    let count = decimal_nonempty c.count (omega (arith, most)) in
    let all = length-append (pick_line names c) (10 ∷ pick_lines names picks) in
    let first = length-append (name_of names c.pick.process) (46 ∷ (decimal c.pick.arm ++ (32 ∷ decimal c.count))) in
    let second = length-append (decimal c.pick.arm) (32 ∷ decimal c.count) in
    omega (arith, rest, all, first, second, arm, count)

pub too_many_picks : (lending : Lending) (v : VerifiedCode) → IsVerified v → (seed left steps : ℕ) (picks : List CountedPick)
    (state : State CodeProcess) (now : Lcg) → steps ≤ 10000000 → LeadTo lending v.code picks state → AreApart picks
    → length (spread picks) + left ≡ steps → DrawsRun lending v.code (generator_of seed) (spread picks) state now
    → MAX_LINES < length picks → IsTooLong lending v.code steps (Some seed)
too_many_picks lending v verified seed left steps picks state now most lead apart count drawn many =
    let (more, end, recorded, longer) = draws_to_its_end lending v.code seed left steps picks state now lead apart count drawn in
    let limits = verified.faultless OutOfLimits in
    let said = recorded_can_be_said lending v.code verified.faultless steps (Some seed) more end most recorded in
    let long = lines_are_long v.code limits more said in
    (more, end, recorded, omega (arith, many, longer, long))

-- ---- the picks of a trace

-- counts that say some picks go on to counts that say more
counts_go_on : (picks : List CountedPick) (rest : List Pick) → AreApart picks
    → (more : List CountedPick) × (spread more ≡ spread picks ++ rest) × AreApart more × (length picks ≤ length more)
counts_go_on picks [] apart = (picks, sym (append-nil (spread picks)), apart, omega arith)
counts_go_on picks (pick ∷ rest) apart =
    let (one, is) = one_more picks pick apart in
    let (more, same, apart_too, longer) = counts_go_on one rest is.apart in
    let first = is.longer in (
      more,
      same ∙ (ap (λ (ps : List Pick). ps ++ rest) is.spread ∙ append_assoc (spread picks) (pick ∷ []) rest),
      apart_too,
      omega (arith, first, longer),
    )

-- the picks after those of the first spans
picks_behind : (n : ℕ) (spans : List Span) → (rest : List Pick) × (all_picks (take n spans) ++ rest ≡ all_picks spans)
picks_behind zero spans = (all_picks spans, refl)
picks_behind (suc n) [] = ([], refl)
picks_behind (suc n) (s ∷ spans) =
    let (rest, is) = picks_behind n spans in
    (rest, append_assoc (replicate s.count s.pick) (all_picks (take n spans)) rest ∙ ap (λ (ps : List Pick). replicate s.count s.pick ++ ps) is)

-- too many counts of the first spans are too many of all
pub counts_too_many : (entries : List Entry) (n : ℕ) (picks : List CountedPick) → AreCounted picks entries n → AreApart picks
    → MAX_LINES < length picks → AreTooMany entries
counts_too_many entries n picks counted apart many =
    let (rest, all) = picks_behind n (spans_of entries) in
    let (more, same, apart_too, longer) = counts_go_on picks rest apart in (
      more,
      record {
        same = same ∙ (ap (λ (ps : List Pick). ps ++ rest) counted ∙ (all ∙ picks_of_spans entries));
        apart = apart_too;
      },
      omega (arith, many, longer),
    )

-- ---- the picks of a report

pub report_is_recorded : (code : Code) → IsFaultless code → (steps : ℕ) (report : Report) (picks : List CountedPick)
    → (is : IsReport code steps report) → spread picks ≡ picks_of report.trace.entries → AreApart picks
    → IsRecorded ByBanker code steps None picks is.end
report_is_recorded code faultless steps report picks is same apart =
    let entries = report.trace.entries in
    let many : length (spread picks) ≡ length entries = ap (λ (ps : List Pick). length ps) same ∙ length-map entries (λ (e : Entry). e.pick) in
    let few = is.few in
    let makes : CodeMakes ByBanker code (spread picks) (events_of entries) is.end =
    subst (λ (ps : List Pick). CodeMakes ByBanker code ps (events_of entries) is.end) (sym same)
    (traces_make ByBanker code (code_opening code) is.end entries is.leads) in
    let not_done : CanGoOn (bank_of code) (code_step code.processes) is.end → ¬ IsDone is.end =
    λ on done. done_stays ByBanker code faultless is.end (spread picks, events_of entries, makes) done on in record {
      events = events_of entries;
      makes = makes;
      few = omega (arith, many, few);
      all = λ on. many ∙ all_made report.outcome is.ends (not_done on);
      drawn = tt;
      apart = apart;
    }
  where
    all_made : (o : Outcome) → EndsAs o steps report.trace.entries is.end → ¬ IsDone is.end → length report.trace.entries ≡ steps
    all_made outcome.Done over not_done = absurd (not_done over)
    all_made outcome.Limit (not_over, all) not_done = all

-- the picks of a report, or that their lines are too long
pub report_is_counted : {V : Type 0} (v : VerifiedCode) → IsVerified v → (steps : ℕ) (report : Report) (items : V → List CountedPick) (picks : Option V)
    → steps ≤ 10000000 → IsReport v.code steps report
    → MatchOption picks (AreTooMany report.trace.entries) (λ x. AreCounts report.trace.entries (items x))
    → MatchOption picks (IsTooLong ByBanker v.code steps None)
    (λ x. (end : State CodeProcess) × IsRecorded ByBanker v.code steps None (items x) end)
report_is_counted v verified steps report items (Some x) most is counts =
    (is.end, report_is_recorded v.code verified.faultless steps report (items x) is counts.same counts.apart)
report_is_counted v verified steps report items None most is (picks, counts, many) =
    let recorded = report_is_recorded v.code verified.faultless steps report picks is counts.same counts.apart in
    let limits = verified.faultless OutOfLimits in
    let said = recorded_can_be_said ByBanker v.code verified.faultless steps None picks is.end most recorded in
    let long = lines_are_long v.code limits picks said in
    (picks, is.end, recorded, omega (arith, many, long))
