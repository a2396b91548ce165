-- A seed draws one run, and what is recorded of it is the same each time.
use Rattle.std.proofs.Common.{◌≡◌, ℕ, zero, suc, ◌+◌, ◌<◌, ◌⊎◌, List, [], ◌∷◌, ◌++◌, length, length-append, Option}
use Rattle.std.proofs.Common.{Some, refl, sym, ap, subst, ◌∙◌, inl, inr, arith}
use Rattle.std.specs.Prelude.{Contains, remove, slice_get}
use Rattle.std.proofs.lemmas.Bool.{cases_order}
use Rattle.std.proofs.lemmas.List.Elements.{All-contains}
use Rattle.pb_base.specs.declared.event.Event.{Event}
use Rattle.pb_base.specs.declared.lending.Lending.{Lending}
use Rattle.pb_base.specs.declared.pick.Pick.{Pick}
use Rattle.pb_base.specs.Steppers.{CanGoOn, Makes, Move, State}
use Rattle.pb_code.specs.Code.{CodeProcess, code_step}
use Rattle.pb_code.specs.Reached.{CodeMovesBy, CodeStaysBy}
use Rattle.pb_code.specs.Whole.{Code, bank_by, code_opening}
use Rattle.pb_codegen.proofs.TextOneCode.{one_code}
use Rattle.pb_history.specs.Replays.{spread}
use Rattle.pb_history.specs.declared.counted.CountedPick.{CountedPick}
use Rattle.rand_pcg.specs.Lcg.{Lcg}
use Rattle.rand_pcg.specs.Pcg.{pcg32}
use Rattle.pb_machine.specs.Looks.{CanStep}
use Rattle.pb_record.specs.Choices.{AreCandidates, AreInOrder, IsBefore}
use Rattle.pb_record.specs.Draws.{Draws, DrawsPick, DrawsRun, drawn_number, generator_of, hit, one_more, opening}
use Rattle.pb_record.specs.Draws.{struck}
use Rattle.pb_accept.specs.ReplayLines.{IsEnding}
use Rattle.pb_command_io.specs.declared.status.Status.{Status}
use Rattle.pb_engines.specs.RecordLaws.{SeedsWriteOneRecord}
use Rattle.pb_accept.specs.RunTexts.{IsEnded}
use Rattle.pb_accept.specs.Sayings.{Recorded}
use Rattle.pb_engines.specs.Records.{IsRecordedWith, recorded_status}
use Rattle.pb_record.specs.Recorded.{IsRecorded}
use Rattle.pb_picks.proofs.CountedOnce.{counted_once}
use Rattle.pb_record.proofs.GrantLemmas.{IsEnabled}
use Rattle.pb_engines.proofs.ReplayedRecords.{endings_once, makes_once, wrote}
use Rattle.pb_record.proofs.RunLemmas.{CodeMakes, makes_last}

-- ---- the candidates of a state are one list

first_or_rest : (first : Pick) (picks : List Pick) (pick : Pick) → Contains (first ∷ picks) pick → (first ≡ pick) ⊎ Contains picks pick
first_or_rest first picks pick (zero, less, is) = inl is
first_or_rest first picks pick (suc k, less, is) = inr (k, omega (arith, less), is)

contains_first : (first : Pick) (picks : List Pick) → Contains (first ∷ picks) first
contains_first first picks = (0, omega arith, refl)

contains_later : (first : Pick) (picks : List Pick) (pick : Pick) → Contains picks pick → Contains (first ∷ picks) pick
contains_later first picks pick (k, less, is) = (suc k, omega (arith, less), is)

abbrev Comes : Pick → Pick → Type 0
Comes pick later = IsBefore pick later.process later.arm

never_both : (p q : Pick) → Comes p q → Comes q p → ⊥
never_both p q (inl a) (inl b) = omega (arith, a, b)
never_both p q (inl a) (inr (same, b)) = omega (arith, a, same)
never_both p q (inr (same, a)) (inl b) = omega (arith, b, same)
never_both p q (inr (same, a)) (inr (equal, b)) = omega (arith, a, b)

-- a pick of the first list is in the second: the first of that, or after it
same_head : (p q : Pick) (ps qs : List Pick) → AreInOrder (p ∷ ps) → AreInOrder (q ∷ qs) → Contains (q ∷ qs) p → Contains (p ∷ ps) q → p ≡ q
same_head p q ps qs order others here there = elim (first_or_rest q qs p here) [
  | inl same ↦ sym same
  | inr later ↦ elim (first_or_rest p ps q there) [
    | inl same ↦ same
    | inr behind ↦
        absurd (never_both p q (All-contains (λ r. IsBefore p r.process r.arm) ps q order.0 behind)
        (All-contains (λ r. IsBefore q r.process r.arm) qs p others.0 later))
  ]
]

rest_within : (p : Pick) (ps qs : List Pick) → AreInOrder (p ∷ ps) → ((x : Pick) → Contains (p ∷ ps) x → Contains (p ∷ qs) x)
    → (x : Pick) → Contains ps x → Contains qs x
rest_within p ps qs order within x here = elim (first_or_rest p qs x (within x (contains_later p ps x here))) [
  | inl same ↦
      let before : Comes p x = All-contains (λ r. IsBefore p r.process r.arm) ps x order.0 here in
      absurd (never_both x x (subst (λ (r : Pick). Comes r x) same before) (subst (λ (r : Pick). Comes r x) same before))
  | inr later ↦ later
]

same_in_order : (ps qs : List Pick) → AreInOrder ps → AreInOrder qs → ((x : Pick) → Contains ps x → Contains qs x)
    → ((x : Pick) → Contains qs x → Contains ps x) → ps ≡ qs
same_in_order [] [] order others within without = refl
same_in_order [] (q ∷ qs) order others within without =
    let (k, less, is) = without q (contains_first q qs) in absurd (omega (arith, less))
same_in_order (p ∷ ps) [] order others within without =
    let (k, less, is) = within p (contains_first p ps) in absurd (omega (arith, less))
same_in_order (p ∷ ps) (q ∷ qs) order others within without =
    let head : p ≡ q = same_head p q ps qs order others (within p (contains_first p ps)) (without q (contains_first q qs)) in
    let others_here : AreInOrder (p ∷ qs) = subst (λ (r : Pick). AreInOrder (r ∷ qs)) (sym head) others in
    let within_here : (x : Pick) → Contains (p ∷ ps) x → Contains (p ∷ qs) x =
    subst (λ (r : Pick). (x : Pick) → Contains (p ∷ ps) x → Contains (r ∷ qs) x) (sym head) within in
    let without_here : (x : Pick) → Contains (p ∷ qs) x → Contains (p ∷ ps) x =
    subst (λ (r : Pick). (x : Pick) → Contains (r ∷ qs) x → Contains (p ∷ ps) x) (sym head) without in
    let rest : ps ≡ qs =
    same_in_order ps qs order.1 others.1 (rest_within p ps qs order within_here) (rest_within p qs ps others_here without_here) in
    λ i. head i ∷ rest i

same_candidates : (code : Code) (s : State CodeProcess) (ps qs : List Pick) → AreCandidates code s ps → AreCandidates code s qs → ps ≡ qs
same_candidates code s ps qs are others =
    same_in_order ps qs are.order others.order (λ x here. others.all x (All-contains (CanStep code s) ps x are.each here))
    (λ x here. are.all x (All-contains (CanStep code s) qs x others.each here))

-- ---- a generator draws one pick that is enabled

draws_once : (lending : Lending) (code : Code) (s : State CodeProcess) (g : Lcg) (picks : List Pick) (p : Pick) (a : Lcg) → Draws lending code s g picks p a → IsEnabled lending code s p
    → (h : Lcg) (others : List Pick) (q : Pick) (b : Lcg) → Draws lending code s h others q b → IsEnabled lending code s q → h ≡ g → others ≡ picks → (p ≡ q) × (a ≡ b)
draws_once lending code s _ _ _ _ (hit g picks p at) can _ _ _ _ (hit h others q there) could same list =
    let both : slice_get picks (drawn_number g picks) ≡ Some q =
    sym (λ i. slice_get (list i) (drawn_number (same i) (list i))) ∙ there in
    let one : Some p ≡ Some q = sym at ∙ both in
    (cc, ap (λ (l : Lcg). (pcg32 l).1) (sym same))
draws_once lending code s _ _ _ _ (hit g picks p at) can _ _ _ _ (struck h after others q refused there stays draws) could same list =
    let both : slice_get picks (drawn_number g picks) ≡ Some refused =
    sym (λ i. slice_get (list i) (drawn_number (same i) (list i))) ∙ there in
    let one : p ≡ refused = let some : Some p ≡ Some refused = sym at ∙ both in cc in
    absurd (subst (λ (r : Pick). CodeStaysBy lending code s r) (sym one) stays can.0 can.1 can.2)
draws_once lending code s _ _ _ _ (struck g after picks p refused at stays draws) can _ _ _ _ (hit h others q there) could same list =
    let both : slice_get picks (drawn_number g picks) ≡ Some q =
    sym (λ i. slice_get (list i) (drawn_number (same i) (list i))) ∙ there in
    let one : q ≡ refused = let some : Some q ≡ Some refused = sym both ∙ at in cc in
    absurd (subst (λ (r : Pick). CodeStaysBy lending code s r) (sym one) stays could.0 could.1 could.2)
draws_once lending code s _ _ _ _ (struck g after picks p refused at stays draws) can _ _ _ _ (struck h last others q other there stay drawn) could same list =
    draws_once lending code s (pcg32 g).1 (remove picks (drawn_number g picks)) p after draws can (pcg32 h).1
    (remove others (drawn_number h others)) q last drawn could (ap (λ (l : Lcg). (pcg32 l).1) same)
    (λ i. remove (list i) (drawn_number (same i) (list i)))

enabled : (lending : Lending) (code : Code) (s : State CodeProcess) (pick : Pick) (event : Option Event) (after : State CodeProcess) → CodeMovesBy lending code s pick event after
    → IsEnabled lending code s pick
enabled lending code s pick event after moves = (record { next = after; effect = moves.0 }, moves.1, moves.2)

enabled_goes_on : (lending : Lending) (code : Code) (s : State CodeProcess) (pick : Pick) (event : Option Event) (after : State CodeProcess)
    → CodeMovesBy lending code s pick event after → CanGoOn (bank_by lending code) (code_step code.processes) s
enabled_goes_on lending code s pick event after moves = (pick, record { next = after; effect = moves.0 }, moves.1, moves.2)

picks_once : (lending : Lending) (code : Code) (s : State CodeProcess) (g : Lcg) (p q : Pick) (a b : Lcg) → DrawsPick lending code s g p a → DrawsPick lending code s g q b
    → IsEnabled lending code s p → IsEnabled lending code s q → (p ≡ q) × (a ≡ b)
picks_once lending code s g p q a b (picks, are, draws) (others, others_are, drawn) can could =
    draws_once lending code s g picks p a draws can g others q b drawn could refl (same_candidates code s others picks others_are are)

moves_once : (lending : Lending) (code : Code) (s : State CodeProcess) (pick : Pick) (e f : Option Event) (a b : State CodeProcess) → CodeMovesBy lending code s pick e a
    → CodeMovesBy lending code s pick f b → a ≡ b
moves_once lending code s pick e f a b moves others =
    let one : Move CodeProcess = record { next = a; effect = moves.0 } in
    let other : Move CodeProcess = record { next = b; effect = others.0 } in
    let both : Some one ≡ Some other = sym moves.1 ∙ others.1 in
    let same : one ≡ other = cc in
    ap (λ (m : Move CodeProcess). m.next) same

-- ---- runs of one length are one run

length_last : (picks : List Pick) (pick : Pick) → length (picks ++ pick ∷ []) ≡ length picks + 1
length_last picks pick = let l = length-append picks (pick ∷ []) in omega (arith, l)

-- the same picks, state and generator
abbrev IsSameRun : List Pick → State CodeProcess → Lcg → List Pick → State CodeProcess → Lcg → Type 0
IsSameRun ps s g qs t h = (ps ≡ qs) × (s ≡ t) × (g ≡ h)

module _ (lending : Lending) (code : Code) (first : Lcg) where
  runs_once : (ps : List Pick) (s : State CodeProcess) (g : Lcg) → DrawsRun lending code first ps s g
      → (qs : List Pick) (t : State CodeProcess) (h : Lcg) → DrawsRun lending code first qs t h → length ps ≡ length qs → IsSameRun ps s g qs t h
  runs_once _ _ _ opening _ _ _ opening long = (refl, refl, refl)
  runs_once _ _ _ opening _ _ _ (one_more qs between t now h q event run drawn moves) long =
      let l = length_last qs q in absurd (omega (arith, l, long))
  runs_once _ _ _ (one_more ps before s at g p shown ran draws moved) _ _ _ opening long =
      let l = length_last ps p in absurd (omega (arith, l, long))
  runs_once _ _ _ (one_more ps before s at g p shown ran draws moved) _ _ _ (one_more qs between t now h q event run drawn moves) long =
      let l = length_last ps p in
      let k = length_last qs q in
      let (list, state, here) = runs_once ps before at ran qs between now run (omega (arith, l, k, long)) in
      let drawn_here : DrawsPick lending code before at q h =
      subst (λ (x : Lcg). DrawsPick lending code before x q h) (sym here) (subst (λ (x : State CodeProcess). DrawsPick lending code x now q h) (sym state) drawn) in
      let moves_here : CodeMovesBy lending code before q event t = subst (λ (x : State CodeProcess). CodeMovesBy lending code x q event t) (sym state) moves in
      let (pick, after) =
      picks_once lending code before at p q g h draws drawn_here (enabled lending code before p shown s moved) (enabled lending code before q event t moves_here) in
      let moved_here : CodeMovesBy lending code before q shown s = subst (λ (x : Pick). CodeMovesBy lending code before x shown s) pick moved in
      ((λ i. list i ++ pick i ∷ []), moves_once lending code before q shown event s t moved_here moves_here, after)

  -- the first picks of a run, and that one more is enabled after them
  record Start (n : ℕ) : Type 0 where
    picks : List Pick
    state : State CodeProcess
    now : Lcg
    run : DrawsRun lending code first picks state now
    long : length picks ≡ n
    next : Pick
    event : Option Event
    after : State CodeProcess
    moves : CodeMovesBy lending code state next event after

  start_of : (qs : List Pick) (t : State CodeProcess) (h : Lcg) → DrawsRun lending code first qs t h → (n : ℕ) → n < length qs → Start n
  start_of _ _ _ opening n less = absurd (omega (arith, less))
  start_of _ _ _ (one_more qs between t now h q event run drawn moves) n less =
      let l = length_last qs q in elim (cases_order n (length qs)) [
        | inl same ↦
            record {
              picks = qs;
              state = between;
              now = now;
              run = run;
              long = sym same;
              next = q;
              event = event;
              after = t;
              moves = moves;
            }
        | inr (inl below) ↦ start_of qs between now run n below
        | inr (inr above) ↦ absurd (omega (arith, above, less, l))
      ]

  makes_of : (ps : List Pick) (s : State CodeProcess) (g : Lcg) → DrawsRun lending code first ps s g → (events : List Event) × CodeMakes lending code ps events s
  makes_of _ _ _ opening = ([], (refl, refl))
  makes_of _ _ _ (one_more ps before s at g p event run drawn moves) =
      let (events, makes) = makes_of ps before at run in
      (_, makes_last lending code ps events before s p event makes moves)

-- ---- what is recorded

module _ (lending : Lending) (code : Code) (steps seed : ℕ) where
  not_shorter : (a b : List CountedPick) (s t : State CodeProcess) → IsRecorded lending code steps (Some seed) a s
      → IsRecorded lending code steps (Some seed) b t → length (spread a) < length (spread b) → ⊥
  not_shorter a b s t recorded other less =
      let (state, now, run) = recorded.drawn in
      let (last, then, ran) = other.drawn in
      let start = start_of lending code (generator_of seed) (spread b) last then ran (length (spread a)) less in
      let (list, same, here) =
      runs_once lending code (generator_of seed) start.picks start.state start.now start.run (spread a) state now run start.long in
      let (events, makes) = makes_of lending code (generator_of seed) (spread a) state now run in
      let end : state ≡ s = makes_once lending code (code_opening code) (spread a) events recorded.events state s makes recorded.makes in
      let moves : CodeMovesBy lending code s start.next start.event start.after =
      subst (λ (x : State CodeProcess). CodeMovesBy lending code x start.next start.event start.after) (same ∙ end) start.moves in
      let on : CanGoOn (bank_by lending code) (code_step code.processes) s = enabled_goes_on lending code s start.next start.event start.after moves in
      let used = recorded.all on in
      let few = other.few in
      omega (arith, used, few, less)

  recorded_once : (a b : List CountedPick) (s t : State CodeProcess) → IsRecorded lending code steps (Some seed) a s
      → IsRecorded lending code steps (Some seed) b t → a ≡ b
  recorded_once a b s t recorded other = elim (cases_order (length (spread a)) (length (spread b))) [
    | inl long ↦
        let (state, now, run) = recorded.drawn in
        let (last, then, ran) = other.drawn in
        let same = runs_once lending code (generator_of seed) (spread a) state now run (spread b) last then ran long in
        counted_once a b recorded.apart other.apart same.0
    | inr (inl less) ↦ absurd (not_shorter a b s t recorded other less)
    | inr (inr more) ↦ absurd (not_shorter b a t s other recorded more)
  ]

  -- with one status
  told_once : (a b : List CountedPick) (one other : Status) → a ≡ b → (is : IsRecordedWith lending code steps (Some seed) a one)
      → (also : IsRecordedWith lending code steps (Some seed) b other) → one ≡ other
  told_once a b one other same is also =
      let makes : Makes (bank_by lending code) (code_step code.processes) (code_opening code) (spread b) is.recorded.events is.end =
      subst (λ (ps : List CountedPick). Makes (bank_by lending code) (code_step code.processes) (code_opening code) (spread ps) is.recorded.events is.end)
      same is.recorded.makes in
      let end : is.end ≡ also.end =
      makes_once lending code (code_opening code) (spread b) is.recorded.events also.recorded.events is.end also.end makes also.recorded.makes in
      let ends : IsEnding lending code also.end is.ending = subst (λ (s : State CodeProcess). IsEnding lending code s is.ending) end is.ends in
      let ending = endings_once lending code also.end is.ending also.ending ends also.ends in
      is.told ∙ (ap recorded_status ending ∙ sym also.told)

ended_once : (text one other : List ℕ) → IsEnded text one → IsEnded text other → one ≡ other
ended_once text one other (inl (ends, same)) (inl (also, equal)) = same ∙ sym equal
ended_once text one other (inl (ends, same)) (inr (not, equal)) = absurd (not ends)
ended_once text one other (inr (not, same)) (inl (ends, equal)) = absurd (not ends)
ended_once text one other (inr (not, same)) (inr (also, equal)) = same ∙ sym equal

pub seeds_write_one_record : SeedsWriteOneRecord
seeds_write_one_record lending steps seed bytes one other its_status status says of said also_of =
    let (code, labels, compiled, ended, picks, is, recorded, same) = wrote lending steps (Some seed) bytes one its_status says of in
    let (twin, others, also, finished, counted, ends, record_of, equal) = wrote lending steps (Some seed) bytes other status said also_of in
    let codes = one_code bytes code twin labels others compiled also in
    let here : IsRecordedWith lending code steps (Some seed) counted status =
    subst (λ (c : Code). IsRecordedWith lending c steps (Some seed) counted status) (sym codes.0) record_of in
    let text = ended_once bytes ended finished is ends in
    let list = recorded_once lending code steps seed picks counted recorded.end here.end recorded.recorded here.recorded in (
      same ∙ (λ i. Recorded (text i) (codes.0 i).names (list i) ∷ []) ∙ sym equal,
      told_once lending code steps seed picks counted its_status status list recorded here,
    )
