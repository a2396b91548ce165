-- From what was read, and what is said of it, to what is said of an input.
use Rattle.std.proofs.Common.{◌≡◌, ℕ, ◌<◌, ◌≤◌, List, [], ◌++◌, length, Option, Some, None, IfSome, IfOk, OnErr}
use Rattle.std.proofs.Common.{Result, Ok, Err, refl, subst, ap, sym, ◌∙◌, append-nil, inl, inr, codes}
use Rattle.pb_base.specs.Device.{one_more_failure}
use Rattle.pb_base.specs.declared.memory.NoMemory.{NoMemory}
use Rattle.pb_base.specs.Lines.{line}
use Rattle.pb_command_io.specs.Answers.{memory_line, Says, Tells}
use Rattle.pb_command_io.specs.Faults.{TellsFaults, TellsWriteFaults}
use Rattle.pb_command_io.specs.Inputs.{SaysOfReading, too_long, no_memory, nothing, SaysOfInput, not_read, read}
use Rattle.pb_command_io.specs.declared.reply.Reply.{Reply}
use Rattle.pb_command_io.specs.declared.status.Status.{Status}
use Rattle.pb_command_io.specs.declared.status.Status.TheVariants.{Refused, Memory, Device}
use Rattle.pb_command_io.proofs.PageLemmas.{Says-first, faults_since}

-- ---- what is known of an input

-- if a fact holds of each value, it holds of that which is known
pub IfSome-of : {X : Type 0} (o : Option X) (P : X → Type 0) → ((x : X) → P x) → IfSome o P
IfSome-of None P each = tt
IfSome-of (Some x) P each = each x

-- ---- an input that is not read

pub is_too_long : (bytes page : List ℕ) (old new : Option (List ℕ)) (given : Status) → 4194304 < length bytes → page ≡ []
    → Says old new (page ++ line (codes "refused input")) Refused given → Tells (SaysOfReading bytes) old new given
is_too_long bytes page old new given long empty says = (
  line (codes "refused input"),
  Refused,
  too_long long,
  Says-first old new page (line (codes "refused input")) Refused given empty says,
)

pub wants_memory : (bytes page : List ℕ) (old new : Option (List ℕ)) (given : Status) → page ≡ []
    → Says old new (page ++ memory_line) Memory given → Tells (SaysOfReading bytes) old new given
wants_memory bytes page old new given empty says =
    (memory_line, Memory, no_memory, Says-first old new page memory_line Memory given empty says)

-- nothing is said
said_nothing : (w : Option (List ℕ)) → Says w w [] Device Device
said_nothing None = inl (refl, refl)
said_nothing (Some held) = inl (ap Some (sym (append-nil held)), refl)

pub fails : (bytes : List ℕ) (w : Option (List ℕ)) → Tells (SaysOfReading bytes) w w Device
fails bytes w = ([], Device, nothing, said_nothing w)

-- ---- what the status tells of an input that is not read

pub read_failed : (old new writes : ℕ) (written : Option (List ℕ)) → new ≡ one_more_failure old
    → TellsFaults (record { reads = old; writes = writes; written = written }) (record { reads = new; writes = writes; written = written }) Device
read_failed old new writes written failed = (λ not_device. absurd (not_device refl), λ device. inl (failed, refl, refl))

pub unread_faults : (old_reads new_reads old_writes new_writes : ℕ) (old new : Option (List ℕ)) (given : Status) → new_reads ≡ old_reads
    → TellsWriteFaults old_writes new_writes given
    → TellsFaults (record { reads = old_reads; writes = old_writes; written = old })
    (record { reads = new_reads; writes = new_writes; written = new }) given
unread_faults old_reads new_reads old_writes new_writes old new given same (without, with_one) =
    (λ not_device. (same, without not_device), λ device. inr (same, with_one device))

-- ---- what is said of an input

-- an input that is not read
pub says_unread : (SaysOf : List ℕ → List ℕ → Status → Type 0) (rest : Option (List ℕ)) (old new : Option (List ℕ)) (given : Status)
    → IfSome rest (λ bytes. Tells (SaysOfReading bytes) old new given) → IfSome rest (λ bytes. Tells (SaysOfInput SaysOf bytes) old new given)
says_unread SaysOf None old new given told = tt
says_unread SaysOf (Some bytes) old new given (text, status, is, says) = (text, status, not_read is, says)

-- what is said of the bytes that were read is said of the input
pub says_read : (SaysOf : List ℕ → List ℕ → Status → Type 0) (rest : Option (List ℕ)) (bytes seen : List ℕ) (before old new : Option (List ℕ))
    (given : Status) → IfSome rest (λ whole. bytes ≡ whole) → seen ≡ bytes → old ≡ before → Tells (SaysOfInput SaysOf seen) old new given
    → IfSome rest (λ whole. Tells (SaysOfInput SaysOf whole) before new given)
says_read SaysOf None bytes seen before old new given is same untouched told = tt
says_read SaysOf (Some whole) bytes seen before old new given is same untouched told =
    subst (λ (w : Option (List ℕ)). Tells (SaysOfInput SaysOf whole) w new given) untouched
    (subst (λ (b : List ℕ). Tells (SaysOfInput SaysOf b) old new given) (same ∙ is) told)

-- the faults of a call that read its input
pub read_faults : (old_reads new_reads old_writes between new_writes : ℕ) (old new : Option (List ℕ)) (given : Status)
    → new_reads ≡ old_reads → between ≡ old_writes → TellsWriteFaults between new_writes given
    → TellsFaults (record { reads = old_reads; writes = old_writes; written = old })
    (record { reads = new_reads; writes = new_writes; written = new }) given
read_faults old_reads new_reads old_writes between new_writes old new given same untouched faults =
    unread_faults old_reads new_reads old_writes new_writes old new given same
    (faults_since old_writes between new_writes given untouched faults)

-- a reply that was made, or out of memory for it
pub told_reply : (SaysOf : List ℕ → List ℕ → Status → Type 0) (bytes : List ℕ) (reply : Result Reply NoMemory) (old new : Option (List ℕ))
    (given : Status) → length bytes ≤ 4194304 → IfOk reply (λ r. SaysOf bytes r.text.items r.status)
    → IfOk reply (λ r. Says old new r.text.items r.status given) → OnErr reply (Says old new memory_line Memory given)
    → Tells (SaysOfInput SaysOf bytes) old new given
told_reply SaysOf bytes (Ok r) old new given short is says memory = (r.text.items, r.status, read short is, says)
told_reply SaysOf bytes (Err e) old new given short is says memory = (memory_line, Memory, not_read no_memory, memory)

-- what a reply says may be said by a wider definition
pub replied_too : (P Q : List ℕ → Status → Type 0) (reply : Result Reply NoMemory)
    → ((text : List ℕ) (status : Status) → P text status → Q text status)
    → IfOk reply (λ r. P r.text.items r.status) → IfOk reply (λ r. Q r.text.items r.status)
replied_too P Q (Ok r) wider is = wider r.text.items r.status is
replied_too P Q (Err e) wider is = tt

-- what may be said may be said by a wider definition
pub said_too : (P Q : List ℕ → List ℕ → Status → Type 0) (bytes : List ℕ) (old new : Option (List ℕ)) (given : Status)
    → ((text : List ℕ) (status : Status) → P bytes text status → Q bytes text status)
    → Tells (SaysOfInput P bytes) old new given → Tells (SaysOfInput Q bytes) old new given
said_too P Q bytes old new given wider (text, status, not_read is, said) = (text, status, not_read is, said)
said_too P Q bytes old new given wider (text, status, read short is, said) = (text, status, read short (wider text status is), said)
