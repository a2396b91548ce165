-- Texts that are said one after another.
use Rattle.std.proofs.Common.{◌≡◌, ◌++◌, ℕ, List, [], Option, Some, None, refl, subst, ap, sym, ◌∙◌, append_assoc}
use Rattle.std.proofs.Common.{append-nil, inl, inr, Result, Ok, Err, OnErr}
use Rattle.pb_base.specs.Device.{appended, one_more_failure, AddsPrefix}
use Rattle.pb_base.proofs.DeviceLemmas.{appended-appended}
use Rattle.pb_command_io.specs.declared.status.Status.{Status}
use Rattle.pb_command_io.specs.declared.status.Status.TheVariants.{Device}
use Rattle.pb_command_io.specs.Answers.{Leaves, Says}
use Rattle.pb_command_io.specs.Faults.{TellsWriteFaults}

-- what was written before, and then more
added : (old now new : Option (List ℕ)) (done more : List ℕ) → now ≡ appended old done → new ≡ appended now more → new ≡ appended old (done ++ more)
added old now new done more first then =
    then ∙ ap (λ held. appended held more) first ∙ appended-appended old done more

-- a text whose first part is written and whose rest is cut in two
cut_again : (text done rest first left : List ℕ) → text ≡ done ++ rest → rest ≡ first ++ left → text ≡ (done ++ first) ++ left
cut_again text done rest first left cut next =
    cut ∙ ap (λ part. done ++ part) next ∙ sym (append_assoc done first left)

pub Leaves-then : (old now new : Option (List ℕ)) (text rest left : List ℕ) → Leaves old now text rest → Leaves now new rest left
    → Leaves old new text left
Leaves-then old now new text rest left first then = (
  first.0 ++ then.0,
  cut_again text first.0 rest then.0 left first.1 then.1,
  added old now new first.0 then.0 first.2 then.2,
)

pub AddsPrefix-then : (old now new : Option (List ℕ)) (text rest : List ℕ) → Leaves old now text rest → AddsPrefix now new rest
    → AddsPrefix old new text
AddsPrefix-then old now new text rest first then = (
  first.0 ++ then.0,
  then.1,
  cut_again text first.0 rest then.0 then.1 first.1 then.2,
  added old now new first.0 then.0 first.2 then.3,
)

pub Says-then : (old now new : Option (List ℕ)) (text rest : List ℕ) (status answered : Status) → Leaves old now text rest
    → Says now new rest status answered → Says old new text status answered
Says-then old now new text rest status answered first (inl all) =
    inl (added old now new first.0 rest first.2 all.0 ∙ ap (appended old) (sym first.1), all.1)
Says-then old now new text rest status answered first (inr part) =
    inr (AddsPrefix-then old now new text rest first part.0, part.1)

-- what waits on a page is left of it
pub leaves_all : (w : Option (List ℕ)) (page : List ℕ) → Leaves w w page page
leaves_all None page = ([], refl, refl)
leaves_all (Some held) page = ([], refl, ap Some (sym (append-nil held)))

-- more is said after a text
more-after : (old now : Option (List ℕ)) (text rest more : List ℕ) → Leaves old now text rest → Leaves old now (text ++ more) (rest ++ more)
more-after old now text rest more first =
    (first.0, ap (λ part. part ++ more) first.1 ∙ append_assoc first.0 rest more, first.2)

pub Leaves-more : (old now new : Option (List ℕ)) (page text more rest left : List ℕ) → Leaves old now (page ++ text) rest
    → Leaves now new (rest ++ more) left → Leaves old new (page ++ (text ++ more)) left
Leaves-more old now new page text more rest left first then =
    subst (λ (t : List ℕ). Leaves old new t left) (append_assoc page text more)
    (Leaves-then old now new ((page ++ text) ++ more) (rest ++ more) left (more-after old now (page ++ text) rest more first) then)

pub AddsPrefix-more : (old now new : Option (List ℕ)) (page text more rest : List ℕ) → Leaves old now (page ++ text) rest
    → AddsPrefix now new (rest ++ more) → AddsPrefix old new (page ++ (text ++ more))
AddsPrefix-more old now new page text more rest first then =
    subst (AddsPrefix old new) (append_assoc page text more)
    (AddsPrefix-then old now new ((page ++ text) ++ more) (rest ++ more) (more-after old now (page ++ text) rest more first) then)

pub Says-more : (old now new : Option (List ℕ)) (page text more rest : List ℕ) (status answered : Status) → Leaves old now (page ++ text) rest
    → Says now new (rest ++ more) status answered → Says old new (page ++ (text ++ more)) status answered
Says-more old now new page text more rest status answered first then =
    subst (λ (t : List ℕ). Says old new t status answered) (append_assoc page text more)
    (Says-then old now new ((page ++ text) ++ more) (rest ++ more) status answered (more-after old now (page ++ text) rest more first) then)

-- a text is said on an empty page
pub Says-first : (old new : Option (List ℕ)) (page text : List ℕ) (status answered : Status) → page ≡ [] → Says old new (page ++ text) status answered
    → Says old new text status answered
Says-first old new page text status answered empty says =
    subst (λ (p : List ℕ). Says old new (p ++ text) status answered) empty says

pub AddsPrefix-longer : (old new : Option (List ℕ)) (text more : List ℕ) → AddsPrefix old new text → AddsPrefix old new (text ++ more)
AddsPrefix-longer old new text more part =
    (part.0, part.1 ++ more, ap (λ all. all ++ more) part.2 ∙ append_assoc part.0 part.1 more, part.3)

pub AddsPrefix-shorter : (old new : Option (List ℕ)) (page text more : List ℕ) → AddsPrefix old new (page ++ text) → AddsPrefix old new (page ++ (text ++ more))
AddsPrefix-shorter old new page text more part =
    subst (AddsPrefix old new) (append_assoc page text more) (AddsPrefix-longer old new (page ++ text) more part)

-- a page is written, and then a text
all-left : (old now : Option (List ℕ)) (page text : List ℕ) → now ≡ appended old page → Leaves old now (page ++ text) text
all-left old now page text wrote = (page, refl, wrote)

pub Leaves-flushed : (old now new : Option (List ℕ)) (page kept text left : List ℕ) → kept ≡ page → now ≡ appended old kept → left ≡ []
    → new ≡ appended now text → Leaves old new (page ++ text) left
Leaves-flushed old now new page kept text left same wrote none then =
    Leaves-then old now new (page ++ text) text left (all-left old now page text (wrote ∙ ap (appended old) same))
    (text, sym (append-nil text) ∙ ap (λ rest. text ++ rest) (sym none), then)

pub AddsPrefix-flushed : (old now new : Option (List ℕ)) (page kept text : List ℕ) → kept ≡ page → now ≡ appended old kept
    → AddsPrefix now new text → AddsPrefix old new (page ++ text)
AddsPrefix-flushed old now new page kept text same wrote then =
    AddsPrefix-then old now new (page ++ text) text (all-left old now page text (wrote ∙ ap (appended old) same)) then

-- a fact that holds anyway holds if there is an error
pub OnErr-of : {T E P : Type 0} (r : Result T E) → P → OnErr r P
OnErr-of (Ok x) p = tt
OnErr-of (Err e) p = p

-- ---- faults

-- a write failed, counted from a state in which none had failed yet
pub device_since : (old between new : ℕ) → between ≡ old → new ≡ one_more_failure between → TellsWriteFaults old new Device
device_since old between new same one_more = (λ not_device. absurd (not_device refl), λ device. one_more ∙ ap one_more_failure same)

-- the faults that a status tells, counted from a state in which none had come yet
pub faults_since : (old between new : ℕ) (status : Status) → between ≡ old → TellsWriteFaults between new status
    → TellsWriteFaults old new status
faults_since old between new status same (without, with_one) =
    (λ not_device. without not_device ∙ same, λ device. with_one device ∙ ap one_more_failure same)
