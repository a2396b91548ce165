-- From what is read and said to what is said of a live session.
use Rattle.std.proofs.Common.{◌≡◌, ◌≢◌, ℕ, List, [], Option, Some, None, IfSome, refl, sym, ap, ◌∙◌, subst, inl, inr}
use Rattle.std.proofs.lemmas.Option.{IfSome_then}
use Rattle.pb_base.specs.Device.{appended}
use Rattle.pb_base.specs.declared.device.ReadFault.{ReadFault}
use Rattle.pb_base.specs.declared.device.ReadFault.TheVariants as fault
use Rattle.pb_base.specs.declared.lending.Lending.{Lending}
use Rattle.pb_debug.specs.Sessions.{IsReadTo, SaysBefore}
use Rattle.pb_debug_engine.specs.Debugs.{AreThreeParts, SaysOfParts}
use Rattle.pb_command_io.specs.Faults.{TellsAnyFault}
use Rattle.pb_debug_engine.specs.Live.{AnswersOfParts, HasLongPart, IsEarly, SaysOfLive, SaysOfRead, early, late}
use Rattle.pb_debug_engine.specs.Live.{no_memory, nothing, read, too_long, unread_status, unread_text}
use Rattle.pb_debug_engine.proofs.PartLemmas.{first_of_three, nothing_behind}
use Rattle.pb_command_io.proofs.InputLemmas.{IfSome-of}
use Rattle.pb_command_io.specs.Answers.{Says, Tells}
use Rattle.pb_command_io.specs.Faults.{Devices}
use Rattle.pb_command_io.specs.declared.status.Status.{Status}
use Rattle.pb_command_io.specs.declared.status.Status.TheVariants.{Done, Refused, Words, Limit, Fault, Memory, Device}
use Rattle.pb_command_io.specs.declared.status.Status.TheVariants.{Threads, Deadlock, Unexpected}

-- the first two parts are read, and the third is answered
pub live_told : (lending : Lending) (o mid old new : Option (List ℕ)) (source lines seen shown : List ℕ) (given : Status)
    → IfSome o (λ bytes. (commands : List ℕ) × (mid ≡ Some commands) × AreThreeParts bytes source lines commands)
    → seen ≡ source → shown ≡ lines → IfSome mid (λ commands. Tells (SaysOfParts lending seen shown commands) old new given)
    → IfSome o (λ bytes. Tells (SaysOfLive lending bytes) old new given)
live_told lending None mid old new source lines seen shown given parts same same_lines says = tt
live_told lending (Some bytes) mid old new source lines seen shown given (commands, is, three) same same_lines says =
    let told : Tells (SaysOfParts lending source lines commands) old new given =
    subst (λ (s : List ℕ). Tells (SaysOfParts lending s lines commands) old new given) same
    (subst (λ (l : List ℕ). Tells (SaysOfParts lending seen l commands) old new given) same_lines
    (subst (λ (m : Option (List ℕ)). IfSome m (λ commands. Tells (SaysOfParts lending seen shown commands) old new given)) is says)) in
    (told.0, told.1, read told.0 told.1 (source, lines, commands, three, told.2), told.3)

-- they are not read
pub unread_told : (lending : Lending) (e : ReadFault) (o old new : Option (List ℕ)) (given : Status) → (e ≡ fault.TooLong → IfSome o HasLongPart)
    → Says old new (unread_text e) (unread_status e) given → IfSome o (λ bytes. Tells (SaysOfLive lending bytes) old new given)
unread_told lending fault.Device o old new given long says =
    IfSome-of o _ (λ bytes. (unread_text fault.Device, unread_status fault.Device, nothing, says))
unread_told lending fault.TooLong o old new given long says =
    IfSome_then o {P = HasLongPart} (long refl) (λ bytes is. (unread_text fault.TooLong, unread_status fault.TooLong, too_long is, says))
unread_told lending fault.Memory o old new given long says =
    IfSome-of o _ (λ bytes. (unread_text fault.Memory, unread_status fault.Memory, no_memory, says))

-- ---- if a read fails

-- the status tells it
pub device_told : (old new : Devices) (status : Status) → TellsAnyFault old new status → new.reads ≢ old.reads → status ≡ Device
device_told old new Device tells grew = refl
device_told old new Done (none, one) grew = absurd (grew (none (λ same. let w : Done ≡ Device = same in cc)).0)
device_told old new Refused (none, one) grew = absurd (grew (none (λ same. let w : Refused ≡ Device = same in cc)).0)
device_told old new Words (none, one) grew = absurd (grew (none (λ same. let w : Words ≡ Device = same in cc)).0)
device_told old new Limit (none, one) grew = absurd (grew (none (λ same. let w : Limit ≡ Device = same in cc)).0)
device_told old new Fault (none, one) grew = absurd (grew (none (λ same. let w : Fault ≡ Device = same in cc)).0)
device_told old new Memory (none, one) grew = absurd (grew (none (λ same. let w : Memory ≡ Device = same in cc)).0)
device_told old new Threads (none, one) grew = absurd (grew (none (λ same. let w : Threads ≡ Device = same in cc)).0)
device_told old new Deadlock (none, one) grew = absurd (grew (none (λ same. let w : Deadlock ≡ Device = same in cc)).0)
device_told old new Unexpected (none, one) grew = absurd (grew (none (λ same. let w : Unexpected ≡ Device = same in cc)).0)

-- the first two parts are read, and the commands of the third that were read are answered
pub live_answered : (lending : Lending) (o mid left old new : Option (List ℕ)) (source lines seen shown : List ℕ)
    → IfSome o (λ bytes. (commands : List ℕ) × (mid ≡ Some commands) × AreThreeParts bytes source lines commands)
    → seen ≡ source → shown ≡ lines → IfSome mid (λ commands. SaysBefore (AnswersOfParts lending seen shown) commands left old new)
    → IfSome o (λ bytes. SaysBefore (SaysOfRead lending) bytes left old new)
live_answered lending None mid left old new source lines seen shown parts same same_lines says = tt
live_answered lending (Some bytes) mid left old new source lines seen shown (commands, is, three) same same_lines says =
    let before : SaysBefore (AnswersOfParts lending source lines) commands left old new =
    subst (λ (s : List ℕ). SaysBefore (AnswersOfParts lending s lines) commands left old new) same
    (subst (λ (l : List ℕ). SaysBefore (AnswersOfParts lending seen l) commands left old new) same_lines
    (subst (λ (m : Option (List ℕ)). IfSome m (λ commands. SaysBefore (AnswersOfParts lending seen shown) commands left old new)) is says)) in
    first_of_three bytes source lines commands left old new (AnswersOfParts lending source lines) (SaysOfRead lending) three before
    (λ all taken text parts answers. late source lines taken text parts answers)

-- nothing is said of parts that were not read since a read failed
nothing_said : (old new : Option (List ℕ)) (given : Status) → Says old new [] Device given → (new ≡ appended old []) × (given ≡ Device)
nothing_said old new given (inl both) = both
nothing_said old new given (inr ((done, left, cut, is), device)) = (is ∙ ap (appended old) (nothing_behind done left (sym cut)).0, device)

-- a read failed within the first two parts
module _ (old new : Option (List ℕ)) (before after : ℕ) (given : Status) (grew : after ≢ before) where
  pub unread_device : (e : ReadFault) → (e ≢ fault.Device → after ≡ before) → Says old new (unread_text e) (unread_status e) given
      → given ≡ Device
  unread_device fault.Device same says = (nothing_said old new given says).1
  unread_device fault.TooLong same says = absurd (grew (same (λ e. let w : fault.TooLong ≡ fault.Device = e in cc)))
  unread_device fault.Memory same says = absurd (grew (same (λ e. let w : fault.Memory ≡ fault.Device = e in cc)))

  pub unread_answered : (lending : Lending) (e : ReadFault) (o left : Option (List ℕ)) → (e ≢ fault.Device → after ≡ before)
      → (e ≡ fault.Device → IfSome o (λ bytes. (taken : List ℕ) × IsReadTo bytes taken left × IsEarly taken))
      → Says old new (unread_text e) (unread_status e) given → IfSome o (λ bytes. SaysBefore (SaysOfRead lending) bytes left old new)
  unread_answered lending fault.Device o left same parts says =
      IfSome_then o (parts refl) (λ bytes is. (is.0, [], is.1, early is.2, (nothing_said old new given says).0))
  unread_answered lending fault.TooLong o left same parts says = absurd (grew (same (λ e. let w : fault.TooLong ≡ fault.Device = e in cc)))
  unread_answered lending fault.Memory o left same parts says = absurd (grew (same (λ e. let w : fault.Memory ≡ fault.Device = e in cc)))
