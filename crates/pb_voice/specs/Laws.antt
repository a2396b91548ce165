-- The bytes of things that were told to a voice: those of each thing in the form of the voice, in order.
use Rattle.std.specs.Prelude.{ℕ, List}
use Rattle.std.specs.List.{flat_map}
use Rattle.pb_voice.specs.Held.{At, Held}
use Rattle.pb_voice.specs.Tellings.{Telling, Breaking}
use Rattle.pb_voice.specs.Voices.{Adds, Breaks, breaks_in, tells_in}
use Rattle.pb_voice.specs.declared.form.Form.{Form}

-- what is told is written as the bytes of each thing, in order, in the form of the voice, which keeps it
abbrev pub WritesWhatIsTold : Type 0 → Type 0
WritesWhatIsTold S = (text_of : Form → S → List ℕ) (s t : At Held) (said : List S) → Telling (tells_in text_of) s said t
    → Adds s (flat_map (text_of s.teller.form) said) t

-- and a first part of them, if a write failed
abbrev pub WritesFirstPart : Type 0 → Type 0
WritesFirstPart S = (text_of : Form → S → List ℕ) (s t : At Held) (said : List S)
    → Breaking (tells_in text_of) (breaks_in text_of) s said t → Breaks s (flat_map (text_of s.teller.form) said) t
