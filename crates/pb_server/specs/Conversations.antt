-- Conversations: the messages of an input, and what is said to them in turn.
use Rattle.std.specs.Prelude.{◌≡◌, ◌⊎◌, ◌<◌, ℕ, List, [], ◌∷◌, ◌++◌, length, Option, true, false}
use Rattle.serde_json.specs.Data.{Data, null}
use Rattle.pb_base.specs.Device.{appended, AddsPrefix}
use Rattle.pb_conversations.specs.Conversations.{AreFrames, IsOfBytes, fault_words, texts}
use Rattle.pb_conversations.specs.declared.conversation.Stop.{Stop}
use Rattle.pb_conversations.specs.declared.conversation.Stop.TheVariants as stop
use Rattle.pb_conversations.specs.declared.conversation.TheConstants.{MAX_MESSAGES}
use Rattle.pb_frames.specs.Frames.{IsFrameFault}
use Rattle.pb_frames.specs.declared.fault.FrameFault.{FrameFault}
use Rattle.pb_frames.specs.declared.fault.FrameFault.TheVariants as frame
use Rattle.pb_server.specs.Answers.{AnswersContent, Diagnosing, Finding, Serving}
use Rattle.pb_server.specs.Responses.{error_data}
use Rattle.pb_server.specs.declared.response.Fault.TheVariants as faults
use Rattle.pb_server.specs.declared.session.Phase.TheVariants as phases

-- nothing is open, and nothing was asked for
abbrev pub fresh : Serving
fresh = record { documents = []; phase = phases.New; over = false }

-- the contents are answered in turn by these messages, each while the client has not gone
pub data Conversation (Diagnoses : Diagnosing) (Finds : Finding) (s : Serving) : List (List ℕ) → List Data → Serving → Type 0 where
  none_heard : Conversation Diagnoses Finds s [] [] s
  one_heard : (contents : List (List ℕ)) (messages : List Data) (mid : Serving) (content : List ℕ) (told : List Data) (after : Serving)
      → Conversation Diagnoses Finds s contents messages mid → mid.over ≡ false
      → AnswersContent Diagnoses Finds mid content told after
      → Conversation Diagnoses Finds s (contents ++ content ∷ []) (messages ++ told) after

-- the first messages of the input are answered by these messages, and the rest of it is left
pub record Talks (Diagnoses : Diagnosing) (Finds : Finding) (s : Serving) (bytes rest : List ℕ) (messages : List Data) (after : Serving) : Type 0 where
  pub contents : List (List ℕ)
  pub frames : AreFrames bytes contents rest
  pub conversation : Conversation Diagnoses Finds s contents messages after

-- why nothing more is answered: the input is at its end, the client has gone, or as many messages were heard as may be
abbrev pub IsEnd : (rest : List ℕ) → Serving → (heard : ℕ) → Type 0
IsEnd rest after heard = (rest ≡ []) ⊎ ((after.over ≡ true) ⊎ (MAX_MESSAGES < heard))

-- all messages are answered
pub record TalksOut (Diagnoses : Diagnosing) (Finds : Finding) (s : Serving) (bytes : List ℕ) (old new : Option (List ℕ)) (after : Serving) : Type 0 where
  pub rest : List ℕ
  pub messages : List Data
  pub talks : Talks Diagnoses Finds s bytes rest messages after
  pub whole : IsEnd rest after (length talks.contents)
  pub written : new ≡ appended old (texts messages)

-- the last message that is written if the rest of the input does not begin with a message
abbrev pub broken_data : FrameFault → Data
broken_data why = error_data null faults.NoJson (fault_words why)

-- how much is written: all, and why no further message was read; all, if out of memory; a prefix, if a device failed
abbrev pub WritesBefore : Stop → (rest : List ℕ) → List Data → (old new : Option (List ℕ)) → Type 0
WritesBefore stop.Broken rest messages old new =
    (why : FrameFault) × IsOfBytes why × IsFrameFault why rest
    × (new ≡ appended old (texts messages ++ texts (broken_data why ∷ [])))
WritesBefore stop.Memory rest messages old new = new ≡ appended old (texts messages)
WritesBefore stop.Device rest messages old new =
    (why : FrameFault) × AddsPrefix old new (texts messages ++ texts (broken_data why ∷ []))

-- the first messages of the input are answered, and then the conversation breaks off
pub record TalksSome (Diagnoses : Diagnosing) (Finds : Finding) (s : Serving) (bytes : List ℕ) (old new : Option (List ℕ)) (why : Stop) : Type 0 where
  pub rest : List ℕ
  pub messages : List Data
  pub after : Serving
  pub talks : Talks Diagnoses Finds s bytes rest messages after
  pub written : WritesBefore why rest messages old new

-- the text is what is said to all messages that are whole in what was read, with none of which the client has gone; after
-- them stand at most some first bytes of a further one
pub record AnswersRead (Diagnoses : Diagnosing) (Finds : Finding) (s : Serving) (read text : List ℕ) : Type 0 where
  pub part : List ℕ
  pub messages : List Data
  pub after : Serving
  pub talks : Talks Diagnoses Finds s read part messages after
  pub goes_on : after.over ≡ false
  pub unfinished : IsFrameFault frame.Early part
  pub said : text ≡ texts messages

-- what is written if no further message was read: why, if that is a fault of the bytes; nothing else
abbrev pub WritesBroken : Stop → FrameFault → (old new : Option (List ℕ)) → Type 0
WritesBroken stop.Broken why old new = IsOfBytes why × (new ≡ appended old (texts (broken_data why ∷ [])))
WritesBroken stop.Memory why old new = new ≡ old
WritesBroken stop.Device why old new = AddsPrefix old new (texts (broken_data why ∷ []))
