-- From what a voice was told to what is written in the end.
use Rattle.std.proofs.Common.{◌≡◌, ◌≢◌, ◌++◌, ℕ, List, [], Option, Some, None, IfSome, refl, sym, ap, ◌∙◌, subst, inl, inr, append-nil}
use Rattle.std.specs.List.{flat_map}
use Rattle.pb_base.specs.Device.{appended, AddsPrefix}
use Rattle.pb_command_io.specs.Answers.{Leaves, Says, Tells}
use Rattle.pb_command_io.specs.Faults.{TellsFaults, TellsWriteFaults}
use Rattle.pb_command_io.specs.declared.status.Status.{Status}
use Rattle.pb_command_io.specs.declared.status.Status.TheVariants.{Device}
use Rattle.pb_command_io.proofs.PageLemmas.{Says-then}
use Rattle.pb_voice.specs.Held.{At, Held}
use Rattle.pb_voice.specs.Tellings.{Answers, Ends, Speaks, whole, broken}
use Rattle.pb_voice.specs.Voices.{Adds, Breaks, Written, breaks_in, tells_in}
use Rattle.pb_voice.specs.declared.form.Form.{Form}
use Rattle.pb_voice.proofs.LawLemmas.{writes_what_is_told, writes_first_part}

-- nothing is added to what was written
nothing_added : (w : Option (List ℕ)) → w ≡ appended w []
nothing_added None = refl
nothing_added (Some held) = ap Some (sym (append-nil held))

-- a text was said to a new voice of this form, and then it wrote what waited
module _ (form : Form) (text_as : Form → List ℕ) (old mid : At Held) (new : old.teller ≡ record { form = form; waits = [] }) where
  on_nothing : old.teller.waits ++ text_as old.teller.form ≡ text_as form
  on_nothing = ap (λ (h : Held). h.waits ++ text_as h.form) new

  pub text_written : (written : Option (List ℕ)) (status answered : Status) → Adds old (text_as old.teller.form) mid
      → Says mid.written written mid.teller.waits status answered → Says old.written written (text_as form) status answered
  text_written written status answered adds says =
      Says-then old.written mid.written written (text_as form) mid.teller.waits status answered
      (subst (λ (t : List ℕ). Leaves old.written mid.written t mid.teller.waits) on_nothing adds.leaves) says

  pub text_counted : (failures : ℕ) (answered : Status) → Adds old (text_as old.teller.form) mid
      → TellsWriteFaults mid.failures failures answered → TellsWriteFaults old.failures failures answered
  text_counted failures answered adds faults = subst (λ (n : ℕ). TellsWriteFaults n failures answered) adds.counted faults

  pub text_broken : (status : Status) → Breaks old (text_as old.teller.form) mid → Says old.written mid.written (text_as form) status Device
  text_broken status breaks = inr (subst (λ (t : List ℕ). AddsPrefix old.written mid.written t) on_nothing breaks.prefix, refl)

  pub broken_counted : Breaks old (text_as old.teller.form) mid → TellsWriteFaults old.failures mid.failures Device
  broken_counted breaks = (λ not_device. absurd (not_device refl), λ device. breaks.counted)

-- a voice of which nothing waited has been told something, and then it wrote what waited, unless a write had failed
module _ {S : Type 0} (text_of : Form → S → List ℕ) (old mid : At Held) (given answered : Status) (written : Option (List ℕ)) (failures : ℕ)
    (fresh : old.teller.waits ≡ []) (says : given ≢ Device → Says mid.written written mid.teller.waits given answered)
    (faults : given ≢ Device → TellsWriteFaults mid.failures failures answered)
    (fault : given ≡ Device → (written ≡ mid.written) × (failures ≡ mid.failures) × (answered ≡ Device)) where
  abbrev words : S → List ℕ
  words = text_of old.teller.form

  waited : (text : List ℕ) → old.teller.waits ++ text ≡ text
  waited text = ap (λ (w : List ℕ). w ++ text) fresh

  -- this list was told whole, or a first part of it
  said_so : (said : List S) (status is_given : Status) → is_given ≡ given → Ends (tells_in text_of) (breaks_in text_of) old said status mid is_given
      → Says old.written written (flat_map words said) status answered
  said_so said status _ same (whole not_device told) =
      let adds = writes_what_is_told S text_of old mid said told in
      Says-then old.written mid.written written (flat_map words said) mid.teller.waits status answered
      (subst (λ (t : List ℕ). Leaves old.written mid.written t mid.teller.waits) (waited (flat_map words said)) adds.leaves)
      (subst (λ (s : Status). Says mid.written written mid.teller.waits s answered) (sym same) (says (λ e. not_device (same ∙ e))))
  said_so said status _ same (broken is) =
      let breaks = writes_first_part S text_of old mid said is in
      let so = fault (sym same) in
      inr (
        subst (λ (w : Option (List ℕ)). AddsPrefix old.written w (flat_map words said)) (sym so.0)
            (subst (λ (t : List ℕ). AddsPrefix old.written mid.written t) (waited (flat_map words said)) breaks.prefix),
        so.2,
      )

  -- how many writes have failed
  counted : (said : List S) (status is_given : Status) → is_given ≡ given → Ends (tells_in text_of) (breaks_in text_of) old said status mid is_given
      → TellsWriteFaults old.failures failures answered
  counted said status _ same (whole not_device told) =
      let adds = writes_what_is_told S text_of old mid said told in
      subst (λ (n : ℕ). TellsWriteFaults n failures answered) adds.counted (faults (λ e. not_device (same ∙ e)))
  counted said status _ same (broken is) =
      let breaks = writes_first_part S text_of old mid said is in
      let so = fault (sym same) in
      (λ not_device. absurd (not_device so.2), λ device. so.1 ∙ breaks.counted)

  module _ (SaysOf : List ℕ → List S → Status → Type 0) (nothing : (bytes : List ℕ) → SaysOf bytes [] Device)
      (rest : Option (List ℕ)) (reads reads' : ℕ) where
    abbrev Tells_of : List ℕ → Type 0
    Tells_of bytes = Tells (Written words SaysOf bytes) old.written written answered

    said_of : (bytes : List ℕ) → Speaks (tells_in text_of) (breaks_in text_of) (SaysOf bytes) old mid given → Tells_of bytes
    said_of bytes (said, status, may, ends) = (flat_map words said, status, (said, may, refl), said_so said status given refl ends)

    -- what is written is that of a list which may be said
    pub written_as_told : Answers (tells_in text_of) (breaks_in text_of) SaysOf rest reads reads' old mid given → IfSome rest Tells_of
    written_as_told (inl (failed, same, device)) = go rest
      where
        so : (written ≡ mid.written) × (failures ≡ mid.failures) × (answered ≡ Device)
        so = fault device

        go : (r : Option (List ℕ)) → IfSome r Tells_of
        go None = tt
        go (Some bytes) = (
          [],
          Device,
          ([], nothing bytes, refl),
          inl (so.0 ∙ ap (λ (h : At Held). h.written) same ∙ nothing_added old.written, so.2),
        )
    written_as_told (inr (none, some, told)) = go rest told
      where
        go : (r : Option (List ℕ)) → IfSome r (λ bytes. Speaks (tells_in text_of) (breaks_in text_of) (SaysOf bytes) old mid given)
            → IfSome r Tells_of
        go None told = tt
        go (Some bytes) told = said_of bytes told

    -- and the status tells of failed reads and writes
    pub faults_as_told : Answers (tells_in text_of) (breaks_in text_of) SaysOf rest reads reads' old mid given
        → TellsFaults (record { reads = reads; writes = old.failures; written = old.written })
        (record { reads = reads'; writes = failures; written = written }) answered
    faults_as_told (inl (failed, same, device)) =
        let so = fault device in (
          λ not_device. absurd (not_device so.2),
          λ is. inl (failed, so.1 ∙ ap (λ (h : At Held). h.failures) same, so.0 ∙ ap (λ (h : At Held). h.written) same),
        )
    faults_as_told (inr (none, (said, status, may, ends), told)) =
        let writes = counted said status given refl ends in
        (λ not_device. (none, writes.0 not_device), λ device. inr (none, writes.1 device))

-- the same of a new voice of this form
pub written_in : {S : Type 0} (text_of : Form → S → List ℕ) (form : Form) (old mid : At Held) (given answered : Status) (written : Option (List ℕ))
    (failures : ℕ) → old.teller ≡ record { form = form; waits = [] }
    → (given ≢ Device → Says mid.written written mid.teller.waits given answered)
    → (given ≢ Device → TellsWriteFaults mid.failures failures answered)
    → (given ≡ Device → (written ≡ mid.written) × (failures ≡ mid.failures) × (answered ≡ Device))
    → (SaysOf : List ℕ → List S → Status → Type 0) → ((bytes : List ℕ) → SaysOf bytes [] Device)
    → (rest : Option (List ℕ)) (reads reads' : ℕ)
    → Answers (tells_in text_of) (breaks_in text_of) SaysOf rest reads reads' old mid given
    → IfSome rest (λ bytes. Tells (Written (text_of form) SaysOf bytes) old.written written answered)
written_in text_of form old mid given answered written failures new says faults fault SaysOf nothing rest reads reads' answers =
    subst (λ (f : Form). IfSome rest (λ bytes. Tells (Written (text_of f) SaysOf bytes) old.written written answered))
    (ap (λ (h : Held). h.form) new)
    (written_as_told text_of old mid given answered written failures (ap (λ (h : Held). h.waits) new) says faults fault
    SaysOf nothing rest reads reads' answers)
