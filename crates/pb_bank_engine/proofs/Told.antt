-- From what a session says to what is said of its commands.
use Rattle.std.proofs.Common.{◌≡◌, ◌++◌, ℕ, List, [], ◌∷◌, Option, refl, inl, inr, sym, ap, ◌∙◌}
use Rattle.pb_bank.specs.Desks.{DeskValue, IsFirstDesk}
use Rattle.pb_bank.specs.Objects.{kind_text}
use Rattle.pb_bank_engine.specs.Forms.{memory_said, spoken, text_of}
use Rattle.pb_bank_engine.specs.Sessions.{SaysAll, SaysSome, SaysOfBank, answered, out_of_memory, broken_off, CountsBoth}
use Rattle.pb_bank_engine.specs.declared.session.Stop.TheVariants as stop
use Rattle.pb_bank_engine.proofs.LineParts.{spoken_both}
use Rattle.pb_command_io.specs.Answers.{Says, Tells}
use Rattle.pb_command_io.specs.Faults.{Devices, TellsAnyFault}
use Rattle.pb_command_io.specs.declared.status.Status.{Status}
use Rattle.pb_command_io.specs.declared.status.Status.TheVariants.{Done, Memory, Device}
use Rattle.pb_command_io.proofs.PageLemmas.{Says-first, Says-then}
use Rattle.pb_voice.specs.Texts.{memory_in}
use Rattle.pb_voice.specs.Voices.{Written}
use Rattle.pb_voice.specs.declared.form.Form.{Form}
use Rattle.pb_voice.specs.declared.form.Form.TheVariants.{Lines, Objects}

-- out of memory is written as its words
pub memory_is : (form : Form) → memory_in form ≡ spoken form (memory_said ∷ [])
unfolding kind_text
memory_is Lines = refl
memory_is Objects = refl

module _ (form : Form) (d : DeskValue) (first : IsFirstDesk d) (bytes : List ℕ) (old : Option (List ℕ)) where
  -- all commands are answered
  pub told_all : (end : DeskValue) (new : Option (List ℕ)) → SaysAll form d bytes old new end
      → Tells (Written (text_of form) SaysOfBank bytes) old new Done
  told_all end new says = (
    spoken form says.said,
    Done,
    (says.said, answered d first says.said end says.session, refl),
    inl (says.written, refl),
  )

  -- out of memory, which is said after the answers
  pub told_some : (mid new : Option (List ℕ)) (page : List ℕ) (given : Status) → SaysSome form stop.Memory d bytes old mid
      → page ≡ [] → Says mid new (page ++ memory_in form) Memory given → Tells (Written (text_of form) SaysOfBank bytes) old new given
  told_some mid new page given some empty says = (
    spoken form some.said ++ memory_in form,
    Memory,
    (
      some.said ++ memory_said ∷ [],
      out_of_memory d first some.lines some.later some.of some.said some.end some.session,
      ap (λ (t : List ℕ). spoken form some.said ++ t) (memory_is form) ∙ sym (spoken_both form some.said (memory_said ∷ [])),
    ),
    Says-then old mid new (spoken form some.said ++ memory_in form) (memory_in form) Memory given (spoken form some.said, refl, some.written)
        (Says-first mid new page (memory_in form) Memory given empty says),
  )

  -- a device failed
  pub told_broken : (new : Option (List ℕ)) → SaysSome form stop.Device d bytes old new
      → Tells (Written (text_of form) SaysOfBank bytes) old new Device
  told_broken new some = (
    spoken form some.said,
    Device,
    (some.said, broken_off d first some.lines some.later some.of some.said some.end some.session, refl),
    inr (some.written, refl),
  )

-- which device failed
pub one_failed : (old new : Devices) → CountsBoth stop.Device old.reads new.reads old.writes new.writes → TellsAnyFault old new Device
one_failed old new counts = (λ none. absurd (none refl), λ same. counts)
