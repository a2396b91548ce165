-- Candidates for the next pick, found arm by arm.
use Rattle.std.proofs.Common.{◌≡◌, ◌≢◌, ℕ, zero, suc, ◌+◌, ◌<◌, ◌≤◌, ◌⊎◌, inl, inr, List, [], ◌∷◌, ◌++◌, length}
use Rattle.std.proofs.Common.{length-append, Some, All, refl, sym, ap, ◌∙◌, subst, arith}
use Rattle.std.specs.Prelude.{Contains, option_and_then, remove, slice_get}
use Rattle.std.proofs.lemmas.Bool.{cases_lt}
use Rattle.std.proofs.lemmas.List.{get_or_append_left, get_or_at}
use Rattle.std.proofs.lemmas.List.Edits.{length-remove}
use Rattle.std.proofs.lemmas.List.Elements.{All-head, All-nil, All-push, All-tail, All-weaker}
use Rattle.std.proofs.lemmas.Option.{get_or_from_slice_get, slice_get-get_or, slice_get_past, slice_get_within}
use Rattle.std.proofs.lemmas.Nat.{mod_below}
use Rattle.pb_base.specs.declared.lending.Lending.{Lending}
use Rattle.pb_base.specs.declared.pick.Pick.{Pick}
use Rattle.pb_base.specs.Steppers.{State, CanGoOn}
use Rattle.pb_base.proofs.Lists.{get_some}
use Rattle.pb_code.specs.Code.{CodeProcess, code_step}
use Rattle.pb_code.specs.Reached.{CodeStaysBy}
use Rattle.pb_code.specs.Whole.{Code, bank_by}
use Rattle.pb_code.proofs.StayingPicks.{no_step_beyond}
use Rattle.pb_machine.specs.Looks.{look_at, look_of, CanStep}
use Rattle.pb_machine.specs.declared.look.Look.{Look}
use Rattle.pb_machine.specs.declared.look.Look.TheVariants.{Stays, Silent, Visible}
use Rattle.rand_pcg.specs.Lcg.{Lcg}
use Rattle.rand_pcg.specs.Pcg.{pcg32}
use Rattle.pb_record.specs.Choices.{AreInOrder, AreCandidatesBefore, AreCandidates, IsBefore}
use Rattle.pb_record.specs.Draws.{Draws, DrawsPick, drawn_number, hit, struck}
use Rattle.pb_record.proofs.GrantLemmas.{IsEnabled, enabled_or_not}
use Rattle.pb_record.proofs.ScheduleLemmas.{looks_staying}
use Rattle.pb_verifier.proofs.Requests.{same_pick}

-- ---- arms and processes that are not there

pub no_such_candidate_arm : (code : Code) (s : State CodeProcess) (pick : Pick) (process : CodeProcess)
    → slice_get s.processes pick.process ≡ Some process → length process.threads ≤ pick.arm → look_at code s pick ≡ Stays
no_such_candidate_arm code s pick process there long =
    ap (λ p. look_of (option_and_then (λ q. code_step code.processes pick.process q pick.arm) p)) there
    ∙ ap look_of (no_step_beyond code.processes pick.process process pick.arm long)

no_such_candidate_process : (code : Code) (s : State CodeProcess) (pick : Pick) → length s.processes ≤ pick.process
    → look_at code s pick ≡ Stays
no_such_candidate_process code s pick long =
    ap (λ p. look_of (option_and_then (λ q. code_step code.processes pick.process q pick.arm) p))
    (slice_get_past s.processes pick.process long)

-- ---- one more

contains_more : (picks : List Pick) (last pick : Pick) → Contains picks pick → Contains (picks ++ last ∷ []) pick
contains_more picks last pick (k, less, is) =
    let long = length-append picks (last ∷ []) in
    (k, omega (arith, long, less), get_or_append_left picks (last ∷ []) pick k less ∙ is)

contains_last : (picks : List Pick) (last pick : Pick) → last ≡ pick → Contains (picks ++ last ∷ []) pick
contains_last picks last pick same =
    let long = length-append picks (last ∷ []) in
    (length picks, omega (arith, long), get_or_at picks last [] pick (length picks) refl ∙ same)

in_order_with : (picks : List Pick) (last : Pick) → AreInOrder picks → All (λ p. IsBefore p last.process last.arm) picks
    → AreInOrder (picks ++ last ∷ [])
in_order_with [] last order before = (All-nil (λ later. IsBefore last later.process later.arm), tt)
in_order_with (pick ∷ picks) last order before = (
  All-push (λ later. IsBefore pick later.process later.arm) picks last order.0 (All-head (λ p. IsBefore p last.process last.arm) pick picks before),
  in_order_with picks last order.1 (All-tail (λ p. IsBefore p last.process last.arm) pick picks before),
)

further : (p n : ℕ) (pick : Pick) → IsBefore pick p n → IsBefore pick p (n + 1)
further p n pick (inl less) = inl less
further p n pick (inr (same, less)) = inr (same, omega (arith, less))

-- a pick of the first arms is of those before the last, or of the last
last_or_before : (p n : ℕ) (pick : Pick) → IsBefore pick p (n + 1) → (IsBefore pick p n) ⊎ ((pick.process ≡ p) × (pick.arm ≡ n))
last_or_before p n pick (inl less) = inl (inl less)
last_or_before p n pick (inr (same, less)) = elim (cases_lt pick.arm n) [
  | inl before ↦ inl (inr (same, before))
  | inr not_before ↦ inr (same, omega (arith, less, not_before))
]

module _ (code : Code) (s : State CodeProcess) where
  pub none_yet : AreCandidatesBefore code s 0 0 []
  none_yet = record {
    each = All-nil _;
    before = All-nil _;
    all = λ pick is before. elim before [
      | inl less ↦ absurd (omega (arith, less))
      | inr (same, less) ↦ absurd (omega (arith, less))
    ];
    order = tt;
  }

  pub one_candidate : (pick : Pick) (picks : List Pick) → AreCandidatesBefore code s pick.process pick.arm picks → CanStep code s pick
      → AreCandidatesBefore code s pick.process (pick.arm + 1) (picks ++ pick ∷ [])
  one_candidate pick picks are is = record {
    each = All-push (CanStep code s) picks pick are.each is;
    before = All-push (λ p. IsBefore p pick.process (pick.arm + 1)) picks pick
        (All-weaker (λ p. IsBefore p pick.process pick.arm) (λ p. IsBefore p pick.process (pick.arm + 1))
        (further pick.process pick.arm) picks are.before)
        (inr (refl, omega arith));
    all = λ other is before. elim (last_or_before pick.process pick.arm other before) [
      | inl earlier ↦ contains_more picks pick other (are.all other is earlier)
      | inr (process, arm) ↦ contains_last picks pick other (same_pick pick other (sym process) (sym arm))
    ];
    order = in_order_with picks pick are.order are.before;
  }

  pub one_stays : (pick : Pick) (picks : List Pick) → AreCandidatesBefore code s pick.process pick.arm picks → look_at code s pick ≡ Stays
      → AreCandidatesBefore code s pick.process (pick.arm + 1) picks
  one_stays pick picks are stays = record {
    each = are.each;
    before = All-weaker _ _ (further pick.process pick.arm) picks are.before;
    all = λ other is before. elim (last_or_before pick.process pick.arm other before) [
      | inl earlier ↦ are.all other is earlier
      | inr (process, arm) ↦
          absurd (is (ap (look_at code s) (sym (same_pick pick other (sym process) (sym arm))) ∙ stays))
    ];
    order = are.order;
  }

  -- all arms of a process were looked at
  pub process_is_over : (p n : ℕ) (process : CodeProcess) (picks : List Pick) → AreCandidatesBefore code s p n picks
      → slice_get s.processes p ≡ Some process → length process.threads ≤ n → AreCandidatesBefore code s (p + 1) 0 picks
  process_is_over p n process picks are there long = record {
    each = are.each;
    before = All-weaker _ _ next_process picks are.before;
    all = λ pick is before. are.all pick is (earlier pick is before);
    order = are.order;
  }
    where
      next_process : (pick : Pick) → IsBefore pick p n → IsBefore pick (p + 1) 0
      next_process pick (inl less) = inl (omega (arith, less))
      next_process pick (inr (same, less)) = inl (omega (arith, same))

      earlier : (pick : Pick) → CanStep code s pick → IsBefore pick (p + 1) 0 → IsBefore pick p n
      earlier pick is (inr (same, less)) = absurd (omega (arith, less))
      earlier pick is (inl less) = elim (cases_lt pick.process p) [
        | inl before ↦ inl before
        | inr not_before ↦
            let same : pick.process ≡ p = omega (arith, less, not_before) in
            elim (cases_lt pick.arm n) [
              | inl arm ↦ inr (same, arm)
              | inr past ↦ absurd (is (no_such_candidate_arm code s pick process
                  (subst (λ (k : ℕ). slice_get s.processes k ≡ Some process) (sym same) there) (omega (arith, long, past))))
            ]
      ]

  pub all_found : (n : ℕ) (picks : List Pick) → AreCandidatesBefore code s n 0 picks → length s.processes ≤ n → AreCandidates code s picks
  all_found n picks are long = record {
    each = are.each;
    all = λ pick is. elim (cases_lt pick.process n) [
      | inl before ↦ are.all pick is (inl before)
      | inr past ↦ absurd (is (no_such_candidate_process code s pick (omega (arith, long, past))))
    ];
    order = are.order;
  }

-- ---- there are such lists

module _ (code : Code) (s : State CodeProcess) where
  arms_found : (p n : ℕ) (picks : List Pick) → AreCandidatesBefore code s p 0 picks → (more : List Pick) × AreCandidatesBefore code s p n more
  arms_found p zero picks are = (picks, are)
  arms_found p (suc n) picks are =
      let (more, found) = arms_found p n picks are in
      let pick : Pick = record { process = p; arm = n } in
      let (all, all_are) = go pick more found (look_at code s pick) refl in
      let next : n + 1 ≡ suc n = omega arith in
      (all, subst (λ (k : ℕ). AreCandidatesBefore code s p k all) next all_are)
    where
      go : (pick : Pick) (more : List Pick) → AreCandidatesBefore code s pick.process pick.arm more → (look : Look) → look_at code s pick ≡ look
          → (all : List Pick) × AreCandidatesBefore code s pick.process (pick.arm + 1) all
      go pick more found Stays is = (more, one_stays code s pick more found is)
      go pick more found Silent is =
          (more ++ pick ∷ [], one_candidate code s pick more found (λ stays. let both : Silent ≡ Stays = sym is ∙ stays in cc))
      go pick more found Visible is =
          (more ++ pick ∷ [], one_candidate code s pick more found (λ stays. let both : Visible ≡ Stays = sym is ∙ stays in cc))

  processes_found : (n : ℕ) → n ≤ length s.processes → (picks : List Pick) × AreCandidatesBefore code s n 0 picks
  processes_found zero few = ([], none_yet code s)
  processes_found (suc n) few =
      let (picks, are) = processes_found n (omega (arith, few)) in
      let (process, there) = get_some s.processes n (omega (arith, few)) in
      let (more, more_are) = arms_found n (length process.threads) picks are in
      let next : n + 1 ≡ suc n = omega arith in (
        more,
        subst (λ (k : ℕ). AreCandidatesBefore code s k 0 more) next
            (process_is_over code s n (length process.threads) process more more_are there (omega arith)),
      )

  -- each state has its candidates
  candidates : (picks : List Pick) × AreCandidates code s picks
  candidates =
      let (picks, are) = processes_found (length s.processes) (omega arith) in
      (picks, all_found code s (length s.processes) picks are (omega arith))

-- ---- one is drawn

-- what is in a list is in it without another number
stays_in : (picks : List Pick) (i k : ℕ) (pick : Pick) → slice_get picks k ≡ Some pick → k ≢ i
    → (j : ℕ) × (slice_get (remove picks i) j ≡ Some pick)
stays_in [] i k pick there other = cc
stays_in (p ∷ picks) zero zero pick there other = absurd (other refl)
stays_in (p ∷ picks) zero (suc k) pick there other = (k, there)
stays_in (p ∷ picks) (suc i) zero pick there other = (0, there)
stays_in (p ∷ picks) (suc i) (suc k) pick there other =
    let (j, at) = stays_in picks i k pick there (λ e. other (ap suc e)) in (suc j, at)

-- the candidates without those that were drawn first, none of which is enabled
pub record AreLeft (lending : Lending) (code : Code) (s : State CodeProcess) (first : Lcg) (left : List Pick) (now : Lcg) : Type 0 where
  pub start : List Pick
  pub candidates : AreCandidates code s start
  pub on : (pick : Pick) (after : Lcg) → Draws lending code s now left pick after → Draws lending code s first start pick after
  pub others : (pick : Pick) → Contains start pick → (Contains left pick) ⊎ CodeStaysBy lending code s pick

module _ (lending : Lending) (code : Code) (s : State CodeProcess) (first : Lcg) where
  pub all_left : (picks : List Pick) → AreCandidates code s picks → AreLeft lending code s first picks first
  all_left picks are = record {
    start = picks;
    candidates = are;
    on = λ pick after draws. draws;
    others = λ pick there. inl there;
  }

  -- one that is not enabled is struck out
  pub one_struck : (left fewer : List Pick) (now next : Lcg) (i : ℕ) (pick : Pick) → AreLeft lending code s first left now → i ≡ drawn_number now left
      → slice_get left i ≡ Some pick → fewer ≡ remove left i → next ≡ (pcg32 now).1 → CodeStaysBy lending code s pick → AreLeft lending code s first fewer next
  one_struck left fewer now next i pick are number there rest is stays =
      subst (λ (g : Lcg). AreLeft lending code s first fewer g) (sym is)
      (subst (λ (ps : List Pick). AreLeft lending code s first ps (pcg32 now).1) (sym (rest ∙ ap (remove left) number)) (record {
        start = are.start;
        candidates = are.candidates;
        on = λ other after draws. are.on other after (struck now after left other pick at stays draws);
        others = λ other within. elim (are.others other within) [
          | inr not_enabled ↦ inr not_enabled
          | inl here ↦ left_or_struck other here
        ];
      }))
    where
      at : slice_get left (drawn_number now left) ≡ Some pick
      at = ap (slice_get left) (sym number) ∙ there

      left_or_struck : (other : Pick) → Contains left other → (Contains (remove left (drawn_number now left)) other) ⊎ CodeStaysBy lending code s other
      left_or_struck other (k, less, is_it) =
          let found : slice_get left k ≡ Some other = slice_get-get_or left k other less ∙ ap Some is_it in
          elim (cases_lt k (drawn_number now left)) [
            | inl before ↦ moved other k found (λ e. omega (arith, before, e))
            | inr past ↦ elim (cases_lt (drawn_number now left) k) [
              | inl behind ↦ moved other k found (λ e. omega (arith, behind, e))
              | inr same ↦
                  let one : k ≡ drawn_number now left = omega (arith, past, same) in
                  let both : Some other ≡ Some pick = sym found ∙ (ap (slice_get left) one ∙ at) in
                  let is_pick : pick ≡ other = cc in
                  inr (subst (CodeStaysBy lending code s) is_pick stays)
            ]
          ]
        where
          moved : (other : Pick) (k : ℕ) → slice_get left k ≡ Some other → k ≢ drawn_number now left
              → (Contains (remove left (drawn_number now left)) other) ⊎ CodeStaysBy lending code s other
          moved other k found differs =
              let (j, at_j) = stays_in left (drawn_number now left) k other found differs in
              let fewer = remove left (drawn_number now left) in
              inl (j, slice_get_within fewer j other at_j, get_or_from_slice_get fewer j other other at_j)

  -- the one that is made is drawn
  pub one_drawn : (left : List Pick) (now next : Lcg) (i : ℕ) (pick : Pick) → AreLeft lending code s first left now → i ≡ drawn_number now left
      → slice_get left i ≡ Some pick → next ≡ (pcg32 now).1 → DrawsPick lending code s first pick next
  one_drawn left now next i pick are number there is =
      subst (DrawsPick lending code s first pick) (sym is)
      (are.start, are.candidates, are.on pick (pcg32 now).1 (hit now left pick (ap (slice_get left) (sym number) ∙ there)))

  -- if none is left, none is enabled
  none_enabled : (left : List Pick) (now : Lcg) → AreLeft lending code s first left now → length left ≡ 0 → (pick : Pick) → CodeStaysBy lending code s pick
  none_enabled left now are none pick = go (look_at code s pick) refl
    where
      candidate : look_at code s pick ≢ Stays → CodeStaysBy lending code s pick
      candidate is = elim (are.others pick (are.candidates.all pick is)) [
        | inr stays ↦ stays
        | inl (k, less, is_it) ↦ absurd (omega (arith, less, none))
      ]

      go : (look : Look) → look_at code s pick ≡ look → CodeStaysBy lending code s pick
      go Stays is = looks_staying lending code s pick is
      go Silent is = candidate (λ stays. let both : Silent ≡ Stays = sym is ∙ stays in cc)
      go Visible is = candidate (λ stays. let both : Visible ≡ Stays = sym is ∙ stays in cc)

-- from what is left one is drawn that is enabled, or none of all is
drawn_or_none : (lending : Lending) (code : Code) (s : State CodeProcess) (first : Lcg) (n : ℕ) (left : List Pick) (now : Lcg) → length left ≡ n
    → AreLeft lending code s first left now
    → ((pick : Pick) × (after : Lcg) × IsEnabled lending code s pick × DrawsPick lending code s first pick after) ⊎ ((pick : Pick) → CodeStaysBy lending code s pick)
drawn_or_none lending code s first zero left now none are = inr (none_enabled lending code s first left now are none)
drawn_or_none lending code s first (suc n) left now some are =
    let i = drawn_number now left in
    let less : i < length left = mod_below (pcg32 now).0 (length left) (omega (arith, some)) in
    let (pick, there) = get_some left i less in
    elim (enabled_or_not lending code s pick) [
      | inl enabled ↦ inl (pick, (pcg32 now).1, enabled, one_drawn lending code s first left now (pcg32 now).1 i pick are refl there refl)
      | inr stays ↦
          let fewer = length-remove left i less in
          drawn_or_none lending code s first n (remove left i) (pcg32 now).1 (omega (arith, fewer, some))
          (one_struck lending code s first left (remove left i) now (pcg32 now).1 i pick are refl there refl refl stays)
    ]

-- the generator draws a pick that is enabled under this lending, or none is
pub draws_on : (lending : Lending) (code : Code) (s : State CodeProcess) (now : Lcg)
    → (¬ CanGoOn (bank_by lending code) (code_step code.processes) s)
    ⊎ ((pick : Pick) × (after : Lcg) × IsEnabled lending code s pick × DrawsPick lending code s now pick after)
draws_on lending code s now =
    let (picks, are) = candidates code s in
    elim (drawn_or_none lending code s now (length picks) picks now refl (all_left lending code s now picks are)) [
      | inl drawn ↦ inr drawn
      | inr none ↦ inl (λ on. none on.0 on.1 on.2 on.3)
    ]

-- if none is left, none is enabled
pub all_struck : (lending : Lending) (code : Code) (s now_state : State CodeProcess) (first : Lcg) (left : List Pick) (now : Lcg)
    → AreLeft lending code s first left now → length left ≡ 0 → now_state ≡ s
    → (¬ CanGoOn (bank_by lending code) (code_step code.processes) s) × (now_state ≡ s)
all_struck lending code s now_state first left now are none same = (
  λ on. none_enabled lending code s first left now are none on.0 on.1 on.2 on.3,
  same,
)
