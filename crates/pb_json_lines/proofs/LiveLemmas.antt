-- What an output tells of the lines that it was given.
use Rattle.std.proofs.Common.{◌≡◌, ◌≢◌, ℕ, ◌+◌, ◌≤◌, List, [], ◌∷◌, ◌++◌, length, take, drop, Option, Some, None, refl, sym, ap, ◌∙◌, subst}
use Rattle.std.proofs.Common.{append_assoc, append-nil, arith}
use Rattle.std.proofs.lemmas.List.{length-append, length-take-le, take-append-drop}
use Rattle.pb_base.proofs.DeviceLemmas.{appended-appended}
use Rattle.pb_command_io.specs.Answers.{Says}
use Rattle.pb_command_io.specs.Faults.{TellsWriteFaults}
use Rattle.pb_command_io.specs.declared.status.Status.{Status}
use Rattle.pb_command_io.specs.declared.status.Status.TheVariants.{Device, Memory}
use Rattle.pb_json_lines.specs.JsonLines.{lines_of}
use Rattle.pb_base.specs.Device.{appended, one_more_failure, AddsPrefix}
use Rattle.pb_json_lines.specs.Live.{EndsLine, EndsTelling, IsLive, IsToldSoFar, TellsFront, TellsLive, told_alone}
use Rattle.pb_json_lines.specs.Live.{whole, broken, no_memory}
use Rattle.pb_json_lines.specs.Replies.{memory_object}
use Rattle.pb_json_lines.specs.declared.form.Dialect.{Dialect}
use Rattle.pb_json_lines.specs.declared.telling.Telling.{Telling}
use Rattle.pb_json_lines.specs.declared.telling.Telling.TheVariants.{Whole, Failed, NoMemory}
use Rattle.pb_json_lines.proofs.AloneLemmas.{ends_none, told_both}

-- ---- texts after what was written

pub none_more : (written : Option (List ℕ)) → written ≡ appended written []
none_more None = refl
none_more (Some bytes) = ap Some (sym (append-nil bytes))

pub no_prefix : (written : Option (List ℕ)) (text : List ℕ) → AddsPrefix written written text
no_prefix written text = ([], text, refl, none_more written)

-- a prefix of the first text is a prefix of both texts
pub longer : (old new : Option (List ℕ)) (first both rest : List ℕ) → both ≡ first ++ rest → AddsPrefix old new first → AddsPrefix old new both
longer old new first both rest joined (done, left, split, is) =
    (done, left ++ rest, joined ∙ (ap (λ (t : List ℕ). t ++ rest) split ∙ append_assoc done left rest), is)

-- ---- lines that are told

pub nothing_told : (dialect : Dialect) (written : Option (List ℕ)) (heard : List ℕ) → heard ≡ [] → TellsFront dialect heard 0 written written
unfolding told_alone
nothing_told dialect written heard none = record {
  front = [];
  rest = [];
  split = none;
  count = refl;
  ended = ends_none;
  written_so = none_more written;
}

-- a text is what has ended of it, and the rest
pub told_parts : (dialect : Dialect) (text : List ℕ) (n : ℕ) → EndsLine (take n text)
    → told_alone dialect text ≡ told_alone dialect (take n text) ++ told_alone dialect (drop n text)
told_parts dialect text n ended =
    ap (told_alone dialect) (sym (take-append-drop n text)) ∙ told_both dialect (take n text) (drop n text) ended

-- a text that ends with a line, after another one
ends_both : (front text : List ℕ) → EndsLine front → EndsLine text → EndsLine (front ++ text)
ends_both front text ended too more =
    ap lines_of (append_assoc front text more)
    ∙ (ended (text ++ more)
    ∙ (ap (λ ls. lines_of front ++ ls) (too more)
    ∙ (sym (append_assoc (lines_of front) (lines_of text) (lines_of more))
    ∙ ap (λ ls. ls ++ lines_of more) (sym (ended text)))))

-- a prefix of a text that is appended to one that is written
prefix_behind : (before new : Option (List ℕ)) (first text : List ℕ) → AddsPrefix (appended before first) new text
    → AddsPrefix before new (first ++ text)
prefix_behind before new first text (done, left, split, is) =
    (first ++ done, left, ap (λ t. first ++ t) split ∙ sym (append_assoc first done left), is ∙ appended-appended before first done)

drop-append-all : (first text : List ℕ) → drop (length first) (first ++ text) ≡ text
drop-append-all [] text = refl
drop-append-all (b ∷ first) text = drop-append-all first text

-- an output that has told all lines that had ended, and was given more
module _ (dialect : Dialect) (heard bytes now rest : List ℕ) (told : ℕ) (before written : Option (List ℕ))
    (front : TellsFront dialect heard told before written) (more : now ≡ heard ++ bytes) (is_rest : rest ≡ drop told now) where
  split_now : now ≡ front.front ++ rest
  split_now =
      let joined : now ≡ front.front ++ (front.rest ++ bytes) =
      more ∙ (ap (λ (t : List ℕ). t ++ bytes) front.split ∙ append_assoc front.front front.rest bytes) in
      let behind : rest ≡ front.rest ++ bytes =
      is_rest ∙ (ap (drop told) joined ∙ (ap (λ (k : ℕ). drop k (front.front ++ (front.rest ++ bytes))) (sym front.count) ∙ drop-append-all front.front (front.rest ++ bytes))) in
      joined ∙ ap (λ t. front.front ++ t) (sym behind)

  told_now : told_alone dialect now ≡ told_alone dialect front.front ++ told_alone dialect rest
  told_now = ap (told_alone dialect) split_now ∙ told_both dialect front.front rest front.ended

  -- memory does not suffice: what is told so far is a first part
  pub some_told : AddsPrefix before written (told_alone dialect now)
  some_told = (told_alone dialect front.front, told_alone dialect rest, told_now, front.written_so)

  -- some of the rest is told
  pub more_told : (new : Option (List ℕ)) → AddsPrefix written new (told_alone dialect rest) → AddsPrefix before new (told_alone dialect now)
  more_told new added =
      subst (AddsPrefix before new) (sym told_now)
      (prefix_behind before new (told_alone dialect front.front) (told_alone dialect rest)
      (subst (λ (w : Option (List ℕ)). AddsPrefix w new (told_alone dialect rest)) front.written_so added))

  -- all of the rest is told
  pub all_told : (new : Option (List ℕ)) → new ≡ appended written (told_alone dialect rest) → new ≡ appended before (told_alone dialect now)
  all_told new is =
      is
      ∙ (ap (λ (w : Option (List ℕ)). appended w (told_alone dialect rest)) front.written_so
      ∙ (appended-appended before (told_alone dialect front.front) (told_alone dialect rest)
      ∙ ap (appended before) (sym told_now)))

  -- what has ended of the rest is told
  pub ended_told : (new : Option (List ℕ)) (count : ℕ) → count ≤ length rest → EndsLine (take count rest)
      → new ≡ appended written (told_alone dialect (take count rest)) → TellsFront dialect now (told + count) before new
  ended_told new count within ended is = record {
    front = front.front ++ take count rest;
    rest = drop count rest;
    split = split_now ∙ (ap (λ t. front.front ++ t) (sym (take-append-drop count rest)) ∙ sym (append_assoc front.front (take count rest) (drop count rest)));
    count = length-append front.front (take count rest) ∙ (let a = front.count in let b = length-take-le count rest within in omega (arith, a, b));
    ended = ends_both front.front (take count rest) front.ended ended;
    written_so = is
        ∙ (ap (λ (w : Option (List ℕ)). appended w (told_alone dialect (take count rest))) front.written_so
        ∙ (appended-appended before (told_alone dialect front.front) (told_alone dialect (take count rest))
        ∙ ap (appended before) (sym (told_both dialect front.front (take count rest) front.ended))));
  }

-- an output that tells lines and has told all that had ended, by its fields
module _ (dialect : Dialect) (stored : Option Dialect) (heard bytes now rest : List ℕ) (told : ℕ) (telling : Telling) (written : Option (List ℕ)) (writes : ℕ)
    (live : IsLive stored heard told telling written writes) (same : stored ≡ Some dialect) (is_whole : telling ≡ Whole)
    (more : now ≡ heard ++ bytes) (is_rest : rest ≡ drop told now) where
  was : (before : Option (List ℕ)) × (failed : ℕ) × (TellsFront dialect heard told before written × (writes ≡ failed))
  was =
      let known : IsLive (Some dialect) heard told Whole written writes =
      subst (λ (d : Option Dialect). IsLive d heard told Whole written writes) same
      (subst (λ (t : Telling). IsLive stored heard told t written writes) is_whole live) in known

  is_live : (telling' : Telling) (told' : ℕ) (new : Option (List ℕ)) (writes' : ℕ) → IsLive (Some dialect) now told' telling' new writes'
      → IsLive stored now told' telling' new writes'
  is_live telling' told' new writes' now_live =
      subst (λ (d : Option Dialect). IsLive d now told' telling' new writes') (sym same) now_live

  pub live_without_memory : IsLive stored now told NoMemory written writes
  live_without_memory =
      is_live NoMemory told written writes (was.0, was.1, (some_told dialect heard bytes now rest told was.0 written was.2.0 more is_rest, was.2.1))

  pub live_with_rest : (telling' : Telling) (new : Option (List ℕ)) → telling' ≡ NoMemory
      → AddsPrefix written new (told_alone dialect rest) → IsLive stored now told telling' new writes
  live_with_rest telling' new short added =
      subst (λ (t : Telling). IsLive stored now told t new writes) (sym short)
      (is_live NoMemory told new writes (was.0, was.1, (more_told dialect heard bytes now rest told was.0 written was.2.0 more is_rest new added, was.2.1)))

  pub live_with_failure : (telling' : Telling) (new : Option (List ℕ)) (writes' : ℕ) → telling' ≡ Failed → writes' ≡ one_more_failure writes
      → AddsPrefix written new (told_alone dialect rest) → IsLive stored now told telling' new writes'
  live_with_failure telling' new writes' failed one_more added =
      subst (λ (t : Telling). IsLive stored now told t new writes') (sym failed)
      (is_live Failed told new writes'
      (was.0, was.1, (more_told dialect heard bytes now rest told was.0 written was.2.0 more is_rest new added, one_more ∙ ap one_more_failure was.2.1)))

  pub live_with_lines : (telling' : Telling) (new : Option (List ℕ)) (count : ℕ) → telling' ≡ Whole → count ≤ length rest
      → EndsLine (take count rest) → new ≡ appended written (told_alone dialect (take count rest))
      → IsLive stored now (told + count) telling' new writes
  live_with_lines telling' new count all within ended is =
      subst (λ (t : Telling). IsLive stored now (told + count) t new writes) (sym all)
      (is_live Whole (told + count) new writes
      (was.0, was.1, (ended_told dialect heard bytes now rest told was.0 written was.2.0 more is_rest new count within ended is, was.2.1)))

-- ---- the end

-- the rest is told too, or some first part of all, if a write failed or there was no memory
abbrev IsFlushed : Telling → Dialect → (heard : List ℕ) → (before : Option (List ℕ)) → (failed : ℕ) → (written : Option (List ℕ)) → (writes : ℕ) → Type 0
IsFlushed Whole dialect heard before failed written writes =
    (written ≡ appended before (told_alone dialect heard)) × (writes ≡ failed)
IsFlushed Failed dialect heard before failed written writes =
    AddsPrefix before written (told_alone dialect heard) × (writes ≡ one_more_failure failed)
IsFlushed NoMemory dialect heard before failed written writes =
    AddsPrefix before written (told_alone dialect heard) × (writes ≡ failed)

-- what is written of the end, and with which status
ends_so : (dialect : Dialect) (heard : List ℕ) (given answered : Status) (before : Option (List ℕ)) (failed : ℕ) (telling : Telling)
    (written new : Option (List ℕ)) (writes writes' : ℕ) → IsFlushed telling dialect heard before failed written writes
    → (telling ≡ Whole → (new ≡ written) × ((answered ≡ given) × (writes' ≡ writes)))
    → (telling ≡ Failed → (new ≡ written) × ((answered ≡ Device) × (writes' ≡ writes)))
    → (telling ≡ NoMemory → Says written new memory_object Memory answered × TellsWriteFaults writes writes' answered)
    → EndsTelling dialect heard given before failed new writes' answered
ends_so dialect heard given answered before failed Whole written new writes writes' flushed fine failing short =
    let end = fine refl in
    subst (λ (w : Option (List ℕ)). EndsTelling dialect heard given before failed w writes' answered) (sym (end.0 ∙ flushed.0))
    (subst (λ (n : ℕ). EndsTelling dialect heard given before failed (appended before (told_alone dialect heard)) n answered) (sym (end.1.1 ∙ flushed.1))
    (subst (λ (s : Status). EndsTelling dialect heard given before failed (appended before (told_alone dialect heard)) failed s) (sym end.1.0) whole))
ends_so dialect heard given answered before failed Failed written new writes writes' flushed fine failing short =
    let end = failing refl in
    subst (λ (w : Option (List ℕ)). EndsTelling dialect heard given before failed w writes' answered) (sym end.0)
    (subst (λ (n : ℕ). EndsTelling dialect heard given before failed written n answered) (sym (end.1.1 ∙ flushed.1))
    (subst (λ (s : Status). EndsTelling dialect heard given before failed written (one_more_failure failed) s) (sym end.1.0) (broken written flushed.0)))
ends_so dialect heard given answered before failed NoMemory written new writes writes' flushed fine failing short =
    let end = short refl in
    no_memory written new writes' answered flushed.0 end.0 (subst (λ (n : ℕ). TellsWriteFaults n writes' answered) flushed.1 end.1)

-- an output that tells lines, and the rest of them is told
module _ (dialect : Dialect) (heard : List ℕ) (told : ℕ) (before : Option (List ℕ)) (failed : ℕ) where
  -- all lines that had ended were told
  flushed_now : (written new : Option (List ℕ)) (writes writes' : ℕ) → IsToldSoFar Whole dialect heard told before failed written writes
      → (telling : Telling)
      → (telling ≡ Whole → new ≡ appended written (told_alone dialect (drop told heard)))
      → (telling ≢ Whole → AddsPrefix written new (told_alone dialect (drop told heard)))
      → (telling ≡ Failed → writes' ≡ one_more_failure writes) → (telling ≢ Failed → writes' ≡ writes)
      → IsFlushed telling dialect heard before failed new writes'
  flushed_now written new writes writes' so Whole all some one none =
      (all_told dialect heard [] heard (drop told heard) told before written so.0 (sym (append-nil heard)) refl new (all refl), none (λ e. cc) ∙ so.1)
  flushed_now written new writes writes' so Failed all some one none = (
    more_told dialect heard [] heard (drop told heard) told before written so.0 (sym (append-nil heard)) refl new (some (λ e. cc)),
    one refl ∙ ap one_more_failure so.1,
  )
  flushed_now written new writes writes' so NoMemory all some one none = (
    more_told dialect heard [] heard (drop told heard) told before written so.0 (sym (append-nil heard)) refl new (some (λ e. cc)),
    none (λ e. cc) ∙ so.1,
  )

  pub flushed : (telling telling' : Telling) (written new : Option (List ℕ)) (writes writes' : ℕ)
      → IsToldSoFar telling dialect heard told before failed written writes
      → (telling ≢ Whole → (new ≡ written) × ((telling' ≡ telling) × (writes' ≡ writes)))
      → (telling ≡ Whole → telling' ≡ Whole → new ≡ appended written (told_alone dialect (drop told heard)))
      → (telling ≡ Whole → telling' ≢ Whole → AddsPrefix written new (told_alone dialect (drop told heard)))
      → (telling ≡ Whole → telling' ≡ Failed → writes' ≡ one_more_failure writes)
      → (telling ≡ Whole → telling' ≢ Failed → writes' ≡ writes)
      → IsFlushed telling' dialect heard before failed new writes'
  flushed Whole telling' written new writes writes' so kept all some one none =
      flushed_now written new writes writes' so telling' (all refl) (some refl) (one refl) (none refl)
  flushed Failed telling' written new writes writes' so kept all some one none =
      let same = kept (λ e. cc) in
      subst (λ (t : Telling). IsFlushed t dialect heard before failed new writes') (sym same.1.0)
      (subst (λ (w : Option (List ℕ)). AddsPrefix before w (told_alone dialect heard)) (sym same.0) so.0, same.1.1 ∙ so.1)
  flushed NoMemory telling' written new writes writes' so kept all some one none =
      let same = kept (λ e. cc) in
      subst (λ (t : Telling). IsFlushed t dialect heard before failed new writes') (sym same.1.0)
      (subst (λ (w : Option (List ℕ)). AddsPrefix before w (told_alone dialect heard)) (sym same.0) so.0, same.1.1 ∙ so.1)

-- of the whole: the lines that are left, and the end
pub live_ends : (dialect : Dialect) (stored : Option Dialect) (heard : List ℕ) (told : ℕ) (telling telling' : Telling)
    (written between new : Option (List ℕ)) (writes writes' writes'' : ℕ) (given answered : Status)
    → IsLive stored heard told telling written writes → stored ≡ Some dialect
    → (telling ≢ Whole → (between ≡ written) × ((telling' ≡ telling) × (writes' ≡ writes)))
    → (telling ≡ Whole → telling' ≡ Whole → between ≡ appended written (told_alone dialect (drop told heard)))
    → (telling ≡ Whole → telling' ≢ Whole → AddsPrefix written between (told_alone dialect (drop told heard)))
    → (telling ≡ Whole → telling' ≡ Failed → writes' ≡ one_more_failure writes)
    → (telling ≡ Whole → telling' ≢ Failed → writes' ≡ writes)
    → (telling' ≡ Whole → (new ≡ between) × ((answered ≡ given) × (writes'' ≡ writes')))
    → (telling' ≡ Failed → (new ≡ between) × ((answered ≡ Device) × (writes'' ≡ writes')))
    → (telling' ≡ NoMemory → Says between new memory_object Memory answered × TellsWriteFaults writes' writes'' answered)
    → TellsLive dialect heard given new writes'' answered
live_ends dialect stored heard told telling telling' written between new writes writes' writes'' given answered live same kept all some one none fine failing short =
    let known : IsLive (Some dialect) heard told telling written writes =
    subst (λ (d : Option Dialect). IsLive d heard told telling written writes) same live in (
      known.0,
      known.1,
      ends_so dialect heard given answered known.0 known.1 telling' between new writes' writes''
          (flushed dialect heard told known.0 known.1 telling telling' written between writes writes' known.2 kept all some one none) fine failing short,
    )
