-- From what is told of each part of an input to what is told of it all.
use Rattle.std.proofs.Common.{◌≡◌, ◌≤◌, ℕ, List, [], ◌∷◌, length, Option, Some, None, MatchOption, Result, Ok, Err, IfOk, OnErr, inr, refl, subst}
use Rattle.pb_accept.specs.Causes.{load_cause}
use Rattle.pb_accept.specs.Claims.{SaysOfAny}
use Rattle.pb_accept.specs.Loading.{IsLoadFault}
use Rattle.pb_accept.specs.ReplayLines.{AreReplayedBy}
use Rattle.pb_accept.specs.Replays.{SaysOfNoLines}
use Rattle.pb_accept.specs.Sayings.{Saying, NoCode, NoMemory as OutOfMemory, Text}
use Rattle.pb_accept.specs.declared.cause.Cause.{Cause}
use Rattle.pb_accept.specs.declared.load.LoadFault.{LoadFault}
use Rattle.pb_base.specs.declared.lending.Lending.{Lending}
use Rattle.pb_base.specs.declared.limits.TheConstants.{MAX_INPUT}
use Rattle.pb_base.specs.declared.memory.NoMemory.{NoMemory}
use Rattle.pb_base.specs.Steppers.{State}
use Rattle.pb_code.specs.Code.{CodeProcess}
use Rattle.pb_code.specs.Whole.{Code, ProcessLabels}
use Rattle.pb_codegen.specs.Compiled.{IsCompiled}
use Rattle.pb_command_io.specs.Parts.{AreTwoParts}
use Rattle.pb_command_io.specs.declared.reply.Reply.{Reply}
use Rattle.pb_command_io.specs.declared.status.Status.{Status}
use Rattle.pb_command_io.specs.declared.status.Status.TheVariants.{Memory, Refused}
use Rattle.pb_history.specs.Entries.{Entry}
use Rattle.pb_page.specs.declared.run.Shown.{Shown}
use Rattle.pb_page_engine.specs.States.{IsDocument, SaysOfStates, SaysOfStatesLines, no_memory, no_object, not_made, shows, text_shown}
use Rattle.pb_page_engine.specs.States.{with_code}
use Rattle.pb_sources.specs.Sources.{GivesCode, IsObjectPart}
use Rattle.pb_verifier.specs.Verified.{VerifiedCode}
use Rattle.pb_voice.specs.Inputs as any
use Rattle.pb_voice.specs.Tellings.{Ends, Speaks}

module _ {T : Type 0} (tells breaks : T → Saying → T → Type 0) (old new : T) (answered : Status) (lending : Lending) (shown : Shown) where
  -- lines of which no picks are made
  pub no_picks_told : (source : List ℕ) (code : Code) (labels : List ProcessLabels) (lines : List ℕ)
      → Speaks tells breaks (SaysOfNoLines lending code lines) old new answered
      → Speaks tells breaks (SaysOfStatesLines lending shown source code labels lines) old new answered
  no_picks_told source code labels lines (said, given, says, ends) = (said, given, not_made said given says, ends)

  -- a document, or out of memory for it
  pub document_told : (source : List ℕ) (code : Code) (labels : List ProcessLabels) (lines : List ℕ) (entries : List Entry) (end : State CodeProcess)
      (made : Result Reply NoMemory) → AreReplayedBy lending code lines entries end
      → IfOk made (λ r. IsDocument lending shown source code labels entries end r.text.items r.status)
      → IfOk made (λ r. Ends tells breaks old (Text r.text.items ∷ []) r.status new answered)
      → OnErr made (Ends tells breaks old (OutOfMemory ∷ []) Memory new answered)
      → Speaks tells breaks (SaysOfStatesLines lending shown source code labels lines) old new answered
  document_told source code labels lines entries end (Ok r) are written ends memory =
      (Text r.text.items ∷ [], r.status, shows entries end are r.text.items r.status written, ends)
  document_told source code labels lines entries end (Err e) are written ends memory = (OutOfMemory ∷ [], Memory, no_memory, memory)

  module _ (bytes source lines : List ℕ) (short : length bytes ≤ MAX_INPUT) (cut : AreTwoParts bytes source lines) where
    -- an object that gives no code, or out of memory
    pub no_code_told : (f : LoadFault) → IsObjectPart source → IsLoadFault source f
        → MatchOption (load_cause f) (Ends tells breaks old (OutOfMemory ∷ []) Memory new answered)
        (λ c. Ends tells breaks old (NoCode f ∷ []) Refused new answered)
        → Speaks tells breaks (SaysOfAny (SaysOfStates lending shown) bytes) old new answered
    no_code_told f object is = go (load_cause f) refl
      where
        go : (cause : Option Cause) → load_cause f ≡ cause
            → MatchOption cause (Ends tells breaks old (OutOfMemory ∷ []) Memory new answered)
            (λ c. Ends tells breaks old (NoCode f ∷ []) Refused new answered)
            → Speaks tells breaks (SaysOfAny (SaysOfStates lending shown) bytes) old new answered
        go None same ends = (OutOfMemory ∷ [], Memory, any.no_memory, ends)
        go (Some c) same ends = (NoCode f ∷ [], Refused, any.read _ _ short (no_object source lines cut object f c is same), ends)

    -- code that the first part gives, and what is told of the lines after it
    pub lines_told : (code : Code) (labels : List ProcessLabels) (text : Option (List ℕ)) → GivesCode source code labels text
        → Speaks tells breaks (SaysOfStatesLines lending shown (text_shown text) code labels lines) old new answered
        → Speaks tells breaks (SaysOfAny (SaysOfStates lending shown) bytes) old new answered
    lines_told code labels text gives (said, given, says, ends) =
        (said, given, any.read said given short (with_code source lines cut code labels text gives said given says), ends)

    -- the same of an accepted text, whose code and labels are seen so
    pub lines_of_text_told : (seen verified : VerifiedCode) (seen_labels labels : List ProcessLabels) → ¬ IsObjectPart source
        → IsCompiled source verified.code labels → seen ≡ verified → seen_labels ≡ labels
        → Speaks tells breaks (SaysOfStatesLines lending shown source seen.code seen_labels lines) old new answered
        → Speaks tells breaks (SaysOfAny (SaysOfStates lending shown) bytes) old new answered
    lines_of_text_told seen verified seen_labels labels none compiled same same_labels told =
        lines_told verified.code labels (Some source) (inr (none, compiled, refl))
        (subst (λ (v : VerifiedCode). Speaks tells breaks (SaysOfStatesLines lending shown source v.code labels lines) old new answered) same
        (subst (λ (l : List ProcessLabels). Speaks tells breaks (SaysOfStatesLines lending shown source seen.code l lines) old new answered) same_labels told))
