-- From what is told of each part of an input to what is told of it all.
use Rattle.std.proofs.Common.{◌≡◌, ◌≤◌, ℕ, List, [], ◌∷◌, length, Result, Ok, Err, IfOk, OnErr, subst}
use Rattle.pb_accept.specs.Claims.{SaysOfAny}
use Rattle.pb_accept.specs.ReplayLines.{AreReplayedBy}
use Rattle.pb_accept.specs.Replays.{SaysOfNoLines}
use Rattle.pb_accept.specs.Sayings.{Saying, NoMemory as OutOfMemory}
use Rattle.pb_base.specs.declared.lending.Lending.{Lending}
use Rattle.pb_base.specs.declared.limits.TheConstants.{MAX_INPUT}
use Rattle.pb_base.specs.declared.memory.NoMemory.{NoMemory}
use Rattle.pb_base.specs.Steppers.{State}
use Rattle.pb_code.specs.Code.{CodeProcess}
use Rattle.pb_code.specs.Whole.{Code, ProcessLabels}
use Rattle.pb_codegen.specs.Compiled.{IsCompiled}
use Rattle.pb_command_io.specs.Parts.{AreTwoParts}
use Rattle.pb_command_io.specs.declared.reply.Reply.{Reply}
use Rattle.pb_command_io.specs.declared.status.Status.{Status}
use Rattle.pb_command_io.specs.declared.status.Status.TheVariants.{Memory}
use Rattle.pb_draw_engine.specs.Draws.{Fits, IsDrawn, SaysOfDraw, SaysOfDrawnLines, drawn, no_memory, not_made, with_code}
use Rattle.pb_draw_picture.specs.declared.picture.Size.{Size}
use Rattle.pb_history.specs.Entries.{Entry}
use Rattle.pb_voice.specs.Inputs.{read}
use Rattle.pb_voice.specs.Tellings.{Ends, Speaks}

module _ {T : Type 0} (tells breaks : T → Saying → T → Type 0) (old new : T) (answered : Status) (lending : Lending) (size : Size) where
  -- lines of which no picks are made
  pub no_picks_told : (code : Code) (labels : List ProcessLabels) (lines : List ℕ) → Speaks tells breaks (SaysOfNoLines lending code lines) old new answered
      → Speaks tells breaks (SaysOfDrawnLines lending size code labels lines) old new answered
  no_picks_told code labels lines (said, given, says, ends) = (said, given, not_made said given says, ends)

  -- a picture, or out of memory for it
  pub picture_told : (code : Code) (labels : List ProcessLabels) (lines : List ℕ) (entries : List Entry) (end : State CodeProcess)
      (picture : Result Reply NoMemory) → AreReplayedBy lending code lines entries end
      → IfOk picture (λ r. IsDrawn lending size code labels entries end r.text.items r.status)
      → IfOk picture (λ r. Speaks tells breaks (Fits r.text.items r.status) old new answered)
      → OnErr picture (Ends tells breaks old (OutOfMemory ∷ []) Memory new answered)
      → Speaks tells breaks (SaysOfDrawnLines lending size code labels lines) old new answered
  picture_told code labels lines entries end (Ok r) are pictured (said, given, fits, ends) memory = (
    said,
    given,
    drawn entries end are said given (record { picture = r.text.items; ended = r.status; drawn = pictured; fits = fits }),
    ends,
  )
  picture_told code labels lines entries end (Err e) are pictured told memory = (OutOfMemory ∷ [], Memory, no_memory, memory)

  -- an accepted text, and what is told of the lines after it
  pub lines_told : (bytes text lines : List ℕ) (code known : Code) (labels shown : List ProcessLabels) → length bytes ≤ MAX_INPUT
      → AreTwoParts bytes text lines → IsCompiled text code labels → known ≡ code → shown ≡ labels
      → Speaks tells breaks (SaysOfDrawnLines lending size known shown lines) old new answered
      → Speaks tells breaks (SaysOfAny (SaysOfDraw lending size) bytes) old new answered
  lines_told bytes text lines code known labels shown short cut compiled same alike told =
      go
      (subst (λ (c : Code). Speaks tells breaks (SaysOfDrawnLines lending size c labels lines) old new answered) same
      (subst (λ (l : List ProcessLabels). Speaks tells breaks (SaysOfDrawnLines lending size known l lines) old new answered) alike told))
    where
      go : Speaks tells breaks (SaysOfDrawnLines lending size code labels lines) old new answered
          → Speaks tells breaks (SaysOfAny (SaysOfDraw lending size) bytes) old new answered
      go (said, given, says, ends) = (said, given, read said given short (with_code text lines cut code labels compiled said given says), ends)
